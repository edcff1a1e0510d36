use Rattle.code_text.proofs.InstrSizes as sizes
use Rattle.code_text.proofs.laws.size_laws.Goals as goal

pub returns : goal.returns
returns c = sizes.size_laws (record { best_is = c.best_laws.ensures.laws; lengths = c.best_lengths.ensures.lengths; fronts = c.front_laws.ensures.spelling; equations = c.front_laws.ensures.equations; fit = c.spelled_fields_fit.ensures.fields })
