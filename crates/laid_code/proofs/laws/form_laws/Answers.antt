use Rattle.laid_code.proofs.Forms.{form_is_layable}
use Rattle.laid_code.proofs.laws.form_laws.Goals as goal

pub returns : goal.returns
returns c = form_is_layable
