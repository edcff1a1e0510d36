use Rattle.x86_encode.proofs.WorkedBest.{worked_rows}
use Rattle.x86_encode.proofs.laws.worked_best.Goals as goal

pub returns : goal.returns
returns c = record { rows = worked_rows }
