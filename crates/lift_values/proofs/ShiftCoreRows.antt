-- The worked rows of the lists that shift, by computation.
use Rattle.std.proofs.Common.{refl}
use Rattle.x86_values.specs.Words.{word_of, known}
use Rattle.x86_values.specs.Sizes.{cut, number}
use Rattle.x86_values.specs.Sums.{sub, difference}
use Rattle.x86_values.specs.Logic.{bitwise}
use Rattle.x86_values.specs.Shifts.{shifted, shift}
use Rattle.flag_ir.specs.Calculations.{difference_of, and_of, or_of, xor_of, shifted_of, equal_of}
use Rattle.flag_ir.specs.Operations.{perform, performs}
use Rattle.lift_values.specs.Shifts.{shift_core}
use Rattle.lift_values.specs.DoubleShifts.{double_shift_core}
use Rattle.lift_values.specs.ShiftCoreRows.{WorkedShiftCores}

pub worked_shift_cores : WorkedShiftCores
unfolding performs perform shift_core double_shift_core difference_of and_of or_of xor_of shifted_of equal_of sub difference bitwise shift shifted number cut known word_of
worked_shift_cores = record {
  shl_33 = λ u. refl;
  shl_byte = λ u. refl;
  shl_half = λ u. refl;
  keeps = λ u. refl;
  keeps_byte = λ u. refl;
  shr = λ u. refl;
  ror_all = λ u. refl;
  rol = λ u. refl;
  rol_17 = λ u. refl;
  sar_31 = λ u. refl;
  sar = λ u. refl;
  shld = λ u. refl;
  shrd = λ u. refl;
  shrd_same = λ u. refl;
  double_keeps = λ u. refl;
  unspecified = λ u. refl;
}
