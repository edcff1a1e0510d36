use Rattle.code_bounds.proofs.Turns as turns
use Rattle.code_bounds.proofs.laws.turn_bounds.Goals as goal

pub returns : goal.returns
returns c = turns.turn_bounds
