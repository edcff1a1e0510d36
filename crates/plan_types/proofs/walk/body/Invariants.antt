use Rattle.plan_types.proofs.Bodies.{IsWalk}
use Rattle.plan_types.proofs.walk.body.Given as goal

abbrev pub invariant-loop-turn : goal.invariant-loop-turn
invariant-loop-turn l = IsWalk l.found l.entry l.reached l.turn
