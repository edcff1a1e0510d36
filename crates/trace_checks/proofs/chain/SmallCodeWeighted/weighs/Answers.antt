use Rattle.std.proofs.Common.{arith}
use Rattle.trace_checks.specs.Chain.{First, small_code, laid_steps}
use Rattle.trace_checks.proofs.UnitChain.{code_left, code_paces}
use Rattle.trace_checks.proofs.chain.SmallCodeWeighted.weighs.Goals as goal

pub returns : goal.returns
returns c byte n = c.move_laws.ensures.paced_by_costs (small_code byte) laid_steps _ _ (code_left byte) (code_paces byte) (First n) (omega arith)
