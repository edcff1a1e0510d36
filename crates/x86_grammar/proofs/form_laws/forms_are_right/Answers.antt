use Rattle.x86_grammar.proofs.FormsFit.{form_means, form_suits, form_fits}
use Rattle.x86_grammar.proofs.form_laws.forms_are_right.Goals as goal

pub returns : goal.returns
returns c = record { right = record { means = form_means; suits = form_suits; fit = form_fits } }
