use Rattle.unit_form.proofs.Exact.{lowered_exact}
use Rattle.unit_form.proofs.unit.needs_no_frame.Goals as goal

pub returns : goal.returns
returns c = rw c.lowered_fits.ensures (lowered_exact c.args.unit.now)
