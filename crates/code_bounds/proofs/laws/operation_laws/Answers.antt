use Rattle.code_bounds.proofs.Guarded as bounds
use Rattle.code_bounds.proofs.laws.operation_laws.Goals as goal

pub returns : goal.returns
returns c = bounds.operation_laws
