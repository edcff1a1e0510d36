-- Rows, computed.
use Rattle.std.proofs.Common.{refl}
use Rattle.x86_values.specs.Words.{word_of, known}
use Rattle.x86_values.specs.Sizes.{cut, number}
use Rattle.x86_values.specs.Results.{has_even_parity}
use Rattle.x86_values.specs.Sums.{sum, add, difference, sub}
use Rattle.x86_values.specs.Logic.{bitwise}
use Rattle.x86_values.specs.Shifts.{shifted, shift}
use Rattle.x86_values.specs.Divisions.{divide}
use Rattle.flag_ir.specs.Calculations.{sum_of, difference_of, and_of, or_of, xor_of, shifted_of, equal_of, below_of}
use Rattle.flag_ir.specs.Operations.{perform, performs}
use Rattle.lift_values.specs.Shifts.{shift_core}
use Rattle.lift_core.specs.Lists.{lift_of, way_of}
use Rattle.lift_core.specs.LiftRows.{WorkedLists, WorkedWays}

pub worked_lists : WorkedLists
unfolding word_of known cut number has_even_parity sum add difference sub bitwise shifted shift divide sum_of difference_of and_of or_of xor_of shifted_of equal_of below_of perform performs shift_core lift_of
worked_lists = record {
  inc = λ u. refl;
  shl = λ u. refl;
  xor = λ u. refl;
  mov = λ u. refl;
  idiv = λ u. refl;
  push = refl;
  movs = refl;
  call = λ by. refl;
}

pub worked_ways : WorkedWays
unfolding way_of
worked_ways = record { jump = refl; wraps = refl; repeat = refl; ret = refl; jump_to = refl }
