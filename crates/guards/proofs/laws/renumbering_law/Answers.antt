use Rattle.guards.proofs.Lowered.{renumbers}
use Rattle.guards.proofs.laws.renumbering_law.Goals as goal

pub returns : goal.returns
returns c = renumbers c.run_laws.ensures
