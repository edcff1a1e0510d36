use Rattle.named_code.proofs.TestedRuns as laws
use Rattle.named_code.proofs.laws.tested_laws.Goals as goal

pub returns : goal.returns
returns c = laws.tested_laws c.call_laws.ensures c.run_laws.ensures c.move_laws.ensures (c.invariant_laws.ensures tt) c.private_access_laws.ensures
