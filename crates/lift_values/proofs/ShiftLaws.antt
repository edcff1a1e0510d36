-- The laws of the lists that shift.
use Rattle.lift_values.specs.ShiftLaws.{ShiftCoreLaws}
use Rattle.lift_values.proofs.ShiftCores.{shift_computes}
use Rattle.lift_values.proofs.DoubleShiftCores.{double_shift_computes}
use Rattle.lift_values.proofs.ShiftForms.{shift_form, double_form}

pub shift_core_laws : ShiftCoreLaws
shift_core_laws = record { shift = shift_computes; double = double_shift_computes; shift_form = shift_form; double_form = double_form }
