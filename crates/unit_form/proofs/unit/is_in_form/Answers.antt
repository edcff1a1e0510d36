use Rattle.unit_form.proofs.Exact.{form_exact}
use Rattle.unit_form.proofs.unit.is_in_form.Goals as goal

pub returns : goal.returns
returns c = rw c.form_fits.ensures (form_exact c.args.unit.now)
