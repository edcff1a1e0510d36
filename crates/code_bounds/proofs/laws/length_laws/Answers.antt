use Rattle.code_bounds.proofs.Placed.{length_laws_hold}
use Rattle.code_bounds.proofs.laws.length_laws.Goals as goal

pub returns : goal.returns
returns c = length_laws_hold
