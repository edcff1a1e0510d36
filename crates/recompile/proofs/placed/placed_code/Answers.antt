use Rattle.recompile.proofs.Names.{unit_names}
use Rattle.recompile.proofs.PlacedCode.{unit_writes_few}
use Rattle.recompile.proofs.placed.placed_code.Goals as goal

pub lower-requires-clause-few : goal.lower-requires-clause-few
lower-requires-clause-few c = unit_writes_few c.in_ok-unit.unit c.in_ok-unit.ensures.short

pub choose-requires-clause-temps : goal.choose-requires-clause-temps
choose-requires-clause-temps c = unit_names c.in_ok-lowered.lowered c.in_ok-lowered.ensures.temps
