-- The cores are in form, need no frame, and are short.
use Rattle.std.proofs.Common.{Bool, true, false, [], refl, lit≤}
use Rattle.std.proofs.lemmas.List.Elements.{All-nil, All-cons}
use Rattle.x86_types.specs.declared.operation.AluOp.{AluOp}
use Rattle.x86_types.specs.declared.operation.AluOp.TheVariants as alu
use Rattle.x86_types.specs.declared.operation.Cond.{Cond}
use Rattle.x86_types.specs.declared.operation.Cond.TheVariants as conditions
use Rattle.x86_types.specs.declared.width.Width.{Width}
use Rattle.x86_types.specs.declared.width.Width.TheVariants.{One, Two, Four}
use Rattle.x86_types.specs.Numbers.{size_of}
use Rattle.x86_values.specs.Sizes.{IsSize}
use Rattle.flag_ir.specs.Form.{IsOp, IsFrameless}
use Rattle.lift_values.specs.CoreForms.{IsCore, CoreForms}
use Rattle.lift_values.specs.Logic.{alu_core}
use Rattle.lift_values.specs.Products.{mul_core}
use Rattle.lift_values.specs.Divisions.{div_core}
use Rattle.lift_values.specs.Extensions.{extend_core}
use Rattle.lift_values.specs.Scans.{scan_core}
use Rattle.lift_values.specs.Conditions.{condition_ops, set_core, cmov_core}
use Rattle.lift_values.proofs.OpForms.{core_form}

alu_form : (op : AluOp) (w : Width) → IsCore (alu_core op w)
alu_form alu.Add w = core_form _ refl (lit≤ tt)
alu_form alu.Or w = core_form _ refl (lit≤ tt)
alu_form alu.Adc w = core_form _ refl (lit≤ tt)
alu_form alu.Sbb w = core_form _ refl (lit≤ tt)
alu_form alu.And w = core_form _ refl (lit≤ tt)
alu_form alu.Sub w = core_form _ refl (lit≤ tt)
alu_form alu.Xor w = core_form _ refl (lit≤ tt)
alu_form alu.Cmp w = core_form _ refl (lit≤ tt)

mul_form : (signed : Bool) (w : Width) → IsCore (mul_core signed w)
mul_form false One = core_form _ refl (lit≤ tt)
mul_form false Two = core_form _ refl (lit≤ tt)
mul_form false Four = core_form _ refl (lit≤ tt)
mul_form true One = core_form _ refl (lit≤ tt)
mul_form true Two = core_form _ refl (lit≤ tt)
mul_form true Four = core_form _ refl (lit≤ tt)

is_size : (w : Width) → IsSize (size_of w)
is_size One = refl
is_size Two = refl
is_size Four = refl

div_form : (signed : Bool) (w : Width) → IsCore (div_core signed w)
div_form signed w = record { ops = All-cons (IsOp 0) _ [] (tt, tt, tt, tt, tt, is_size w) (All-nil (IsOp 0)); frameless = All-cons IsFrameless _ [] tt (All-nil IsFrameless); short = lit≤ tt }

extend_form : (wide w : Width) → IsCore (extend_core wide w)
extend_form One One = core_form _ refl (lit≤ tt)
extend_form One Two = core_form _ refl (lit≤ tt)
extend_form One Four = core_form _ refl (lit≤ tt)
extend_form Two One = core_form _ refl (lit≤ tt)
extend_form Two Two = core_form _ refl (lit≤ tt)
extend_form Two Four = core_form _ refl (lit≤ tt)
extend_form Four One = core_form _ refl (lit≤ tt)
extend_form Four Two = core_form _ refl (lit≤ tt)
extend_form Four Four = core_form _ refl (lit≤ tt)

scan_form : (reverse : Bool) (w : Width) → IsCore (scan_core reverse w)
scan_form true w = core_form _ refl (lit≤ tt)
scan_form false w = core_form _ refl (lit≤ tt)

condition_form : (c : Cond) → IsCore (condition_ops c)
condition_form conditions.O = core_form _ refl (lit≤ tt)
condition_form conditions.No = core_form _ refl (lit≤ tt)
condition_form conditions.B = core_form _ refl (lit≤ tt)
condition_form conditions.Ae = core_form _ refl (lit≤ tt)
condition_form conditions.E = core_form _ refl (lit≤ tt)
condition_form conditions.Ne = core_form _ refl (lit≤ tt)
condition_form conditions.Be = core_form _ refl (lit≤ tt)
condition_form conditions.A = core_form _ refl (lit≤ tt)
condition_form conditions.S = core_form _ refl (lit≤ tt)
condition_form conditions.Ns = core_form _ refl (lit≤ tt)
condition_form conditions.P = core_form _ refl (lit≤ tt)
condition_form conditions.Np = core_form _ refl (lit≤ tt)
condition_form conditions.L = core_form _ refl (lit≤ tt)
condition_form conditions.Ge = core_form _ refl (lit≤ tt)
condition_form conditions.Le = core_form _ refl (lit≤ tt)
condition_form conditions.G = core_form _ refl (lit≤ tt)

set_form : (c : Cond) → IsCore (set_core c)
set_form conditions.O = core_form _ refl (lit≤ tt)
set_form conditions.No = core_form _ refl (lit≤ tt)
set_form conditions.B = core_form _ refl (lit≤ tt)
set_form conditions.Ae = core_form _ refl (lit≤ tt)
set_form conditions.E = core_form _ refl (lit≤ tt)
set_form conditions.Ne = core_form _ refl (lit≤ tt)
set_form conditions.Be = core_form _ refl (lit≤ tt)
set_form conditions.A = core_form _ refl (lit≤ tt)
set_form conditions.S = core_form _ refl (lit≤ tt)
set_form conditions.Ns = core_form _ refl (lit≤ tt)
set_form conditions.P = core_form _ refl (lit≤ tt)
set_form conditions.Np = core_form _ refl (lit≤ tt)
set_form conditions.L = core_form _ refl (lit≤ tt)
set_form conditions.Ge = core_form _ refl (lit≤ tt)
set_form conditions.Le = core_form _ refl (lit≤ tt)
set_form conditions.G = core_form _ refl (lit≤ tt)

cmov_form : (c : Cond) (w : Width) → IsCore (cmov_core c w)
cmov_form conditions.O w = core_form _ refl (lit≤ tt)
cmov_form conditions.No w = core_form _ refl (lit≤ tt)
cmov_form conditions.B w = core_form _ refl (lit≤ tt)
cmov_form conditions.Ae w = core_form _ refl (lit≤ tt)
cmov_form conditions.E w = core_form _ refl (lit≤ tt)
cmov_form conditions.Ne w = core_form _ refl (lit≤ tt)
cmov_form conditions.Be w = core_form _ refl (lit≤ tt)
cmov_form conditions.A w = core_form _ refl (lit≤ tt)
cmov_form conditions.S w = core_form _ refl (lit≤ tt)
cmov_form conditions.Ns w = core_form _ refl (lit≤ tt)
cmov_form conditions.P w = core_form _ refl (lit≤ tt)
cmov_form conditions.Np w = core_form _ refl (lit≤ tt)
cmov_form conditions.L w = core_form _ refl (lit≤ tt)
cmov_form conditions.Ge w = core_form _ refl (lit≤ tt)
cmov_form conditions.Le w = core_form _ refl (lit≤ tt)
cmov_form conditions.G w = core_form _ refl (lit≤ tt)

pub core_forms : CoreForms
core_forms = record {
  alu = alu_form;
  test = λ w. core_form _ refl (lit≤ tt);
  inc = λ w. core_form _ refl (lit≤ tt);
  dec = λ w. core_form _ refl (lit≤ tt);
  not = λ w. core_form _ refl (lit≤ tt);
  neg = λ w. core_form _ refl (lit≤ tt);
  mul = mul_form;
  imul = λ w. mul_form true w;
  div = div_form;
  move = core_form _ refl (lit≤ tt);
  extend = extend_form;
  spread = λ w. core_form _ refl (lit≤ tt);
  swap = core_form _ refl (lit≤ tt);
  scan = scan_form;
  conditions = condition_form;
  set = set_form;
  cmov = cmov_form;
}
