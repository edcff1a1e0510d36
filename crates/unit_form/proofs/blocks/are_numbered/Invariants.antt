use Rattle.std.specs.Prelude.{◌≡◌, drop}
use Rattle.unit_form.specs.Fits.{numbered_from}
use Rattle.unit_form.proofs.blocks.are_numbered.Given as goal

abbrev pub invariant-loop-index : goal.invariant-loop-index
invariant-loop-index l = numbered_from l.index (drop l.index l.blocks) ≡ numbered_from 0 l.blocks
