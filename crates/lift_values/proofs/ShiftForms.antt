-- The lists that shift are in form, need no frame, and are short.
use Rattle.std.proofs.Common.{Bool, true, false, refl, lit≤}
use Rattle.x86_types.specs.declared.operation.ShiftOp.{ShiftOp}
use Rattle.x86_types.specs.declared.operation.ShiftOp.TheVariants.{Rol, Ror, Shl, Shr, Sar}
use Rattle.x86_types.specs.declared.width.Width.{Width}
use Rattle.x86_types.specs.declared.width.Width.TheVariants.{One, Two, Four}
use Rattle.lift_values.specs.CoreForms.{IsCore}
use Rattle.lift_values.specs.Shifts.{shift_core}
use Rattle.lift_values.specs.DoubleShifts.{double_shift_core}
use Rattle.lift_values.proofs.OpForms.{core_form}

pub shift_form : (op : ShiftOp) (w : Width) → IsCore (shift_core op w)
unfolding shift_core
shift_form Rol w = core_form _ refl (lit≤ tt)
shift_form Ror w = core_form _ refl (lit≤ tt)
shift_form Shl w = core_form _ refl (lit≤ tt)
shift_form Shr w = core_form _ refl (lit≤ tt)
shift_form Sar One = core_form _ refl (lit≤ tt)
shift_form Sar Two = core_form _ refl (lit≤ tt)
shift_form Sar Four = core_form _ refl (lit≤ tt)

pub double_form : (right : Bool) → IsCore (double_shift_core right)
unfolding double_shift_core
double_form false = core_form _ refl (lit≤ tt)
double_form true = core_form _ refl (lit≤ tt)
