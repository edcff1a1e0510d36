use Rattle.named_code.proofs.CodeRuns as laws
use Rattle.named_code.proofs.laws.code_laws.Goals as goal

pub returns : goal.returns
returns c = laws.code_laws c.call_laws.ensures c.run_laws.ensures c.move_laws.ensures (c.invariant_laws.ensures tt)
