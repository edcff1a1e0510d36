-- What the parts of the making of placed code ask for.
use Rattle.std.proofs.Common.{◌≡◌, ℕ, ◌≤◌, List, length, All, get_or, arith}
use Rattle.flag_ir.specs.declared.block.Block.{Block}
use Rattle.flag_ir.specs.Entering.{CodeUnit}
use Rattle.whole_code.specs.Weight.{HasShortLists}
use Rattle.guards.specs.Renumbering.{WritesFewTemps}
use Rattle.recompile.proofs.FewTemps.{writes_few}

pub unit_writes_few : (u : CodeUnit) → HasShortLists u → All WritesFewTemps u.whole
unit_writes_few u short = λ k d l. let low = short k d l in writes_few (get_or u.whole k d) (omega (arith, low))
