use Rattle.code_text.proofs.FormTexts.{form_is_spelled}
use Rattle.code_text.proofs.laws.form_laws.Goals as goal

pub returns : goal.returns
returns c = form_is_spelled c.spelled_fields_fit.ensures.fields
