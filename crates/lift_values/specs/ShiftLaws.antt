-- The laws of the lists that shift: each computes what its instruction computes, needs no frame and is in form, and how long it is at most.
use Rattle.std.specs.Prelude.{Bool}
use Rattle.x86_types.specs.declared.width.Width.{Width}
use Rattle.x86_types.specs.declared.operation.ShiftOp.{ShiftOp}
use Rattle.x86_types.specs.Numbers.{size_of}
use Rattle.x86_meaning.specs.Outcomes.{shift_computed, double_shift_computed}
use Rattle.lift_relation.specs.Cores.{ComputesTwo, ComputesThree}
use Rattle.lift_values.specs.CoreForms.{IsCore}
use Rattle.lift_values.specs.Shifts.{shift_core}
use Rattle.lift_values.specs.DoubleShifts.{double_shift_core}

pub record ShiftCoreLaws : Type 0 where
  pub shift : (op : ShiftOp) (w : Width) → ComputesTwo (size_of w) 1 (size_of w) (shift_computed op (size_of w)) (shift_core op w)
  pub double : (right : Bool) → ComputesThree 4 4 1 4 (double_shift_computed right) (double_shift_core right)
  pub shift_form : (op : ShiftOp) (w : Width) → IsCore (shift_core op w)
  pub double_form : (right : Bool) → IsCore (double_shift_core right)
