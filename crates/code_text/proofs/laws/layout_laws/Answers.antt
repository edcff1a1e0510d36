use Rattle.code_text.proofs.LaidText as text
use Rattle.code_text.proofs.laws.layout_laws.Goals as goal

pub returns-clause-laid : goal.returns-clause-laid
returns-clause-laid c = text.text_is_laid (record { best_is = c.best_laws.ensures.laws; lengths = c.best_lengths.ensures.lengths; fronts = c.front_laws.ensures.spelling; equations = c.front_laws.ensures.equations; fit = c.spelled_fields_fit.ensures.fields })

pub returns-clause-lengths : goal.returns-clause-lengths
returns-clause-lengths c = text.text_lengths (record { best_is = c.best_laws.ensures.laws; lengths = c.best_lengths.ensures.lengths; fronts = c.front_laws.ensures.spelling; equations = c.front_laws.ensures.equations; fit = c.spelled_fields_fit.ensures.fields })
