-- The cores are plain and short: a line for each operation and width, computed.
use Rattle.std.proofs.Common.{◌≡◌, ℕ, ◌&&◌, Bool, true, false, leb, List, length, refl}
use Rattle.std.proofs.lemmas.Bool.{leb-true}
use Rattle.x86_types.specs.declared.operation.AluOp.{AluOp}
use Rattle.x86_types.specs.declared.operation.AluOp.TheVariants as alu
use Rattle.x86_types.specs.declared.operation.ShiftOp.{ShiftOp}
use Rattle.x86_types.specs.declared.operation.ShiftOp.TheVariants as shiftop
use Rattle.x86_types.specs.declared.operation.Cond.{Cond}
use Rattle.x86_types.specs.declared.operation.Cond.TheVariants as condition
use Rattle.x86_types.specs.declared.width.Width.{Width}
use Rattle.x86_types.specs.declared.width.Width.TheVariants.{One, Two, Four}
use Rattle.flag_ir.specs.declared.operation.Op.{Op}
use Rattle.lift_values.specs.Sums.{inc_core, dec_core, neg_core}
use Rattle.lift_values.specs.Logic.{alu_core, test_core, not_core}
use Rattle.lift_values.specs.Shifts.{shift_core}
use Rattle.lift_values.specs.DoubleShifts.{double_shift_core}
use Rattle.lift_values.specs.Products.{mul_core, imul_core}
use Rattle.lift_values.specs.Divisions.{div_core}
use Rattle.lift_values.specs.Scans.{scan_core}
use Rattle.lift_values.specs.Extensions.{extend_core, cut_core, spread_core, swap_core}
use Rattle.lift_values.specs.Conditions.{condition_ops, set_core, cmov_core}
use Rattle.lift_core.proofs.Plain.{all_plain, first_true, second_true, IsShort}

abbrev is_short : ℕ → List Op → Bool
is_short n ops = all_plain ops && leb (length ops) n

short_by : (n : ℕ) (ops : List Op) → is_short n ops ≡ true → IsShort n ops
short_by n ops h = record { plain = first_true (all_plain ops) (leb (length ops) n) h; length = leb-true (length ops) n (second_true (all_plain ops) (leb (length ops) n) h) }

pub alu_short : (op : AluOp) (w : Width) → IsShort 20 (alu_core op w)
alu_short alu.Add One = short_by 20 (alu_core alu.Add One) refl
alu_short alu.Add Two = short_by 20 (alu_core alu.Add Two) refl
alu_short alu.Add Four = short_by 20 (alu_core alu.Add Four) refl
alu_short alu.Or One = short_by 20 (alu_core alu.Or One) refl
alu_short alu.Or Two = short_by 20 (alu_core alu.Or Two) refl
alu_short alu.Or Four = short_by 20 (alu_core alu.Or Four) refl
alu_short alu.Adc One = short_by 20 (alu_core alu.Adc One) refl
alu_short alu.Adc Two = short_by 20 (alu_core alu.Adc Two) refl
alu_short alu.Adc Four = short_by 20 (alu_core alu.Adc Four) refl
alu_short alu.Sbb One = short_by 20 (alu_core alu.Sbb One) refl
alu_short alu.Sbb Two = short_by 20 (alu_core alu.Sbb Two) refl
alu_short alu.Sbb Four = short_by 20 (alu_core alu.Sbb Four) refl
alu_short alu.And One = short_by 20 (alu_core alu.And One) refl
alu_short alu.And Two = short_by 20 (alu_core alu.And Two) refl
alu_short alu.And Four = short_by 20 (alu_core alu.And Four) refl
alu_short alu.Sub One = short_by 20 (alu_core alu.Sub One) refl
alu_short alu.Sub Two = short_by 20 (alu_core alu.Sub Two) refl
alu_short alu.Sub Four = short_by 20 (alu_core alu.Sub Four) refl
alu_short alu.Xor One = short_by 20 (alu_core alu.Xor One) refl
alu_short alu.Xor Two = short_by 20 (alu_core alu.Xor Two) refl
alu_short alu.Xor Four = short_by 20 (alu_core alu.Xor Four) refl
alu_short alu.Cmp One = short_by 20 (alu_core alu.Cmp One) refl
alu_short alu.Cmp Two = short_by 20 (alu_core alu.Cmp Two) refl
alu_short alu.Cmp Four = short_by 20 (alu_core alu.Cmp Four) refl

pub test_short : (w : Width) → IsShort 11 (test_core w)
test_short One = short_by 11 (test_core One) refl
test_short Two = short_by 11 (test_core Two) refl
test_short Four = short_by 11 (test_core Four) refl

pub inc_short : (w : Width) → IsShort 15 (inc_core w)
inc_short One = short_by 15 (inc_core One) refl
inc_short Two = short_by 15 (inc_core Two) refl
inc_short Four = short_by 15 (inc_core Four) refl

pub dec_short : (w : Width) → IsShort 15 (dec_core w)
dec_short One = short_by 15 (dec_core One) refl
dec_short Two = short_by 15 (dec_core Two) refl
dec_short Four = short_by 15 (dec_core Four) refl

pub not_short : (w : Width) → IsShort 1 (not_core w)
not_short One = short_by 1 (not_core One) refl
not_short Two = short_by 1 (not_core Two) refl
not_short Four = short_by 1 (not_core Four) refl

pub neg_short : (w : Width) → IsShort 16 (neg_core w)
neg_short One = short_by 16 (neg_core One) refl
neg_short Two = short_by 16 (neg_core Two) refl
neg_short Four = short_by 16 (neg_core Four) refl

pub imul_short : (w : Width) → IsShort 14 (imul_core w)
imul_short One = short_by 14 (imul_core One) refl
imul_short Two = short_by 14 (imul_core Two) refl
imul_short Four = short_by 14 (imul_core Four) refl

pub spread_short : (w : Width) → IsShort 5 (spread_core w)
spread_short One = short_by 5 (spread_core One) refl
spread_short Two = short_by 5 (spread_core Two) refl
spread_short Four = short_by 5 (spread_core Four) refl

pub mul_short : (signed : Bool) (w : Width) → IsShort 14 (mul_core signed w)
mul_short false One = short_by 14 (mul_core false One) refl
mul_short false Two = short_by 14 (mul_core false Two) refl
mul_short false Four = short_by 14 (mul_core false Four) refl
mul_short true One = short_by 14 (mul_core true One) refl
mul_short true Two = short_by 14 (mul_core true Two) refl
mul_short true Four = short_by 14 (mul_core true Four) refl

pub div_short : (signed : Bool) (w : Width) → IsShort 1 (div_core signed w)
div_short signed One = short_by 1 (div_core signed One) refl
div_short signed Two = short_by 1 (div_core signed Two) refl
div_short signed Four = short_by 1 (div_core signed Four) refl

pub scan_short : (reverse : Bool) (w : Width) → IsShort 29 (scan_core reverse w)
scan_short false One = short_by 29 (scan_core false One) refl
scan_short false Two = short_by 29 (scan_core false Two) refl
scan_short false Four = short_by 29 (scan_core false Four) refl
scan_short true One = short_by 29 (scan_core true One) refl
scan_short true Two = short_by 29 (scan_core true Two) refl
scan_short true Four = short_by 29 (scan_core true Four) refl

pub extend_short : (wide w : Width) → IsShort 6 (extend_core wide w)
extend_short One One = short_by 6 (extend_core One One) refl
extend_short One Two = short_by 6 (extend_core One Two) refl
extend_short One Four = short_by 6 (extend_core One Four) refl
extend_short Two One = short_by 6 (extend_core Two One) refl
extend_short Two Two = short_by 6 (extend_core Two Two) refl
extend_short Two Four = short_by 6 (extend_core Two Four) refl
extend_short Four One = short_by 6 (extend_core Four One) refl
extend_short Four Two = short_by 6 (extend_core Four Two) refl
extend_short Four Four = short_by 6 (extend_core Four Four) refl

pub cut_short : (wide w : Width) → IsShort 1 (cut_core wide w)
cut_short One One = short_by 1 (cut_core One One) refl
cut_short One Two = short_by 1 (cut_core One Two) refl
cut_short One Four = short_by 1 (cut_core One Four) refl
cut_short Two One = short_by 1 (cut_core Two One) refl
cut_short Two Two = short_by 1 (cut_core Two Two) refl
cut_short Two Four = short_by 1 (cut_core Two Four) refl
cut_short Four One = short_by 1 (cut_core Four One) refl
cut_short Four Two = short_by 1 (cut_core Four Two) refl
cut_short Four Four = short_by 1 (cut_core Four Four) refl

pub swap_short : IsShort 17 (swap_core)
swap_short = short_by 17 (swap_core) refl

pub condition_short : (c : Cond) → IsShort 3 (condition_ops c)
condition_short condition.O = short_by 3 (condition_ops condition.O) refl
condition_short condition.No = short_by 3 (condition_ops condition.No) refl
condition_short condition.B = short_by 3 (condition_ops condition.B) refl
condition_short condition.Ae = short_by 3 (condition_ops condition.Ae) refl
condition_short condition.E = short_by 3 (condition_ops condition.E) refl
condition_short condition.Ne = short_by 3 (condition_ops condition.Ne) refl
condition_short condition.Be = short_by 3 (condition_ops condition.Be) refl
condition_short condition.A = short_by 3 (condition_ops condition.A) refl
condition_short condition.S = short_by 3 (condition_ops condition.S) refl
condition_short condition.Ns = short_by 3 (condition_ops condition.Ns) refl
condition_short condition.P = short_by 3 (condition_ops condition.P) refl
condition_short condition.Np = short_by 3 (condition_ops condition.Np) refl
condition_short condition.L = short_by 3 (condition_ops condition.L) refl
condition_short condition.Ge = short_by 3 (condition_ops condition.Ge) refl
condition_short condition.Le = short_by 3 (condition_ops condition.Le) refl
condition_short condition.G = short_by 3 (condition_ops condition.G) refl

pub set_short : (c : Cond) → IsShort 4 (set_core c)
set_short condition.O = short_by 4 (set_core condition.O) refl
set_short condition.No = short_by 4 (set_core condition.No) refl
set_short condition.B = short_by 4 (set_core condition.B) refl
set_short condition.Ae = short_by 4 (set_core condition.Ae) refl
set_short condition.E = short_by 4 (set_core condition.E) refl
set_short condition.Ne = short_by 4 (set_core condition.Ne) refl
set_short condition.Be = short_by 4 (set_core condition.Be) refl
set_short condition.A = short_by 4 (set_core condition.A) refl
set_short condition.S = short_by 4 (set_core condition.S) refl
set_short condition.Ns = short_by 4 (set_core condition.Ns) refl
set_short condition.P = short_by 4 (set_core condition.P) refl
set_short condition.Np = short_by 4 (set_core condition.Np) refl
set_short condition.L = short_by 4 (set_core condition.L) refl
set_short condition.Ge = short_by 4 (set_core condition.Ge) refl
set_short condition.Le = short_by 4 (set_core condition.Le) refl
set_short condition.G = short_by 4 (set_core condition.G) refl

pub cmov_short : (c : Cond) (w : Width) → IsShort 5 (cmov_core c w)
cmov_short condition.O One = short_by 5 (cmov_core condition.O One) refl
cmov_short condition.O Two = short_by 5 (cmov_core condition.O Two) refl
cmov_short condition.O Four = short_by 5 (cmov_core condition.O Four) refl
cmov_short condition.No One = short_by 5 (cmov_core condition.No One) refl
cmov_short condition.No Two = short_by 5 (cmov_core condition.No Two) refl
cmov_short condition.No Four = short_by 5 (cmov_core condition.No Four) refl
cmov_short condition.B One = short_by 5 (cmov_core condition.B One) refl
cmov_short condition.B Two = short_by 5 (cmov_core condition.B Two) refl
cmov_short condition.B Four = short_by 5 (cmov_core condition.B Four) refl
cmov_short condition.Ae One = short_by 5 (cmov_core condition.Ae One) refl
cmov_short condition.Ae Two = short_by 5 (cmov_core condition.Ae Two) refl
cmov_short condition.Ae Four = short_by 5 (cmov_core condition.Ae Four) refl
cmov_short condition.E One = short_by 5 (cmov_core condition.E One) refl
cmov_short condition.E Two = short_by 5 (cmov_core condition.E Two) refl
cmov_short condition.E Four = short_by 5 (cmov_core condition.E Four) refl
cmov_short condition.Ne One = short_by 5 (cmov_core condition.Ne One) refl
cmov_short condition.Ne Two = short_by 5 (cmov_core condition.Ne Two) refl
cmov_short condition.Ne Four = short_by 5 (cmov_core condition.Ne Four) refl
cmov_short condition.Be One = short_by 5 (cmov_core condition.Be One) refl
cmov_short condition.Be Two = short_by 5 (cmov_core condition.Be Two) refl
cmov_short condition.Be Four = short_by 5 (cmov_core condition.Be Four) refl
cmov_short condition.A One = short_by 5 (cmov_core condition.A One) refl
cmov_short condition.A Two = short_by 5 (cmov_core condition.A Two) refl
cmov_short condition.A Four = short_by 5 (cmov_core condition.A Four) refl
cmov_short condition.S One = short_by 5 (cmov_core condition.S One) refl
cmov_short condition.S Two = short_by 5 (cmov_core condition.S Two) refl
cmov_short condition.S Four = short_by 5 (cmov_core condition.S Four) refl
cmov_short condition.Ns One = short_by 5 (cmov_core condition.Ns One) refl
cmov_short condition.Ns Two = short_by 5 (cmov_core condition.Ns Two) refl
cmov_short condition.Ns Four = short_by 5 (cmov_core condition.Ns Four) refl
cmov_short condition.P One = short_by 5 (cmov_core condition.P One) refl
cmov_short condition.P Two = short_by 5 (cmov_core condition.P Two) refl
cmov_short condition.P Four = short_by 5 (cmov_core condition.P Four) refl
cmov_short condition.Np One = short_by 5 (cmov_core condition.Np One) refl
cmov_short condition.Np Two = short_by 5 (cmov_core condition.Np Two) refl
cmov_short condition.Np Four = short_by 5 (cmov_core condition.Np Four) refl
cmov_short condition.L One = short_by 5 (cmov_core condition.L One) refl
cmov_short condition.L Two = short_by 5 (cmov_core condition.L Two) refl
cmov_short condition.L Four = short_by 5 (cmov_core condition.L Four) refl
cmov_short condition.Ge One = short_by 5 (cmov_core condition.Ge One) refl
cmov_short condition.Ge Two = short_by 5 (cmov_core condition.Ge Two) refl
cmov_short condition.Ge Four = short_by 5 (cmov_core condition.Ge Four) refl
cmov_short condition.Le One = short_by 5 (cmov_core condition.Le One) refl
cmov_short condition.Le Two = short_by 5 (cmov_core condition.Le Two) refl
cmov_short condition.Le Four = short_by 5 (cmov_core condition.Le Four) refl
cmov_short condition.G One = short_by 5 (cmov_core condition.G One) refl
cmov_short condition.G Two = short_by 5 (cmov_core condition.G Two) refl
cmov_short condition.G Four = short_by 5 (cmov_core condition.G Four) refl

pub shift_short : (op : ShiftOp) (w : Width) → IsShort 32 (shift_core op w)
unfolding shift_core
shift_short shiftop.Rol One = short_by 32 (shift_core shiftop.Rol One) refl
shift_short shiftop.Rol Two = short_by 32 (shift_core shiftop.Rol Two) refl
shift_short shiftop.Rol Four = short_by 32 (shift_core shiftop.Rol Four) refl
shift_short shiftop.Ror One = short_by 32 (shift_core shiftop.Ror One) refl
shift_short shiftop.Ror Two = short_by 32 (shift_core shiftop.Ror Two) refl
shift_short shiftop.Ror Four = short_by 32 (shift_core shiftop.Ror Four) refl
shift_short shiftop.Shl One = short_by 32 (shift_core shiftop.Shl One) refl
shift_short shiftop.Shl Two = short_by 32 (shift_core shiftop.Shl Two) refl
shift_short shiftop.Shl Four = short_by 32 (shift_core shiftop.Shl Four) refl
shift_short shiftop.Shr One = short_by 32 (shift_core shiftop.Shr One) refl
shift_short shiftop.Shr Two = short_by 32 (shift_core shiftop.Shr Two) refl
shift_short shiftop.Shr Four = short_by 32 (shift_core shiftop.Shr Four) refl
shift_short shiftop.Sar One = short_by 32 (shift_core shiftop.Sar One) refl
shift_short shiftop.Sar Two = short_by 32 (shift_core shiftop.Sar Two) refl
shift_short shiftop.Sar Four = short_by 32 (shift_core shiftop.Sar Four) refl

pub double_short : (right : Bool) → IsShort 32 (double_shift_core right)
unfolding double_shift_core
double_short false = short_by 32 (double_shift_core false) refl
double_short true = short_by 32 (double_shift_core true) refl
