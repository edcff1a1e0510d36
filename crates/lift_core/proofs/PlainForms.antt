-- The list of each instruction but INT 80h is plain, and no longer than it is said to be.
use Rattle.std.proofs.Common.{◌≡◌, ℕ, ◌+◌, ◌≤◌, Bool, true, false, cond, List, [], ◌∷◌, ◌++◌, length, All, refl, sym, subst, arith, inl, inr, ◌⊎◌}
use Rattle.std.proofs.lemmas.List.Elements.{All-nil, All-cons}
use Rattle.x86_types.specs.declared.operand.Rm.{Rm}
use Rattle.x86_types.specs.declared.operand.Reg.{Reg}
use Rattle.x86_types.specs.declared.operand.Src.{Src}
use Rattle.x86_types.specs.declared.operation.AluOp.{AluOp}
use Rattle.x86_types.specs.declared.operation.AluOp.TheVariants as alu
use Rattle.x86_types.specs.declared.operation.Count.{Count}
use Rattle.x86_types.specs.declared.width.Width.{Width}
use Rattle.x86_types.specs.declared.width.Width.TheVariants.{One, Two, Four}
use Rattle.x86_types.specs.Numbers.{size_of}
use Rattle.x86_types.specs.declared.instr.Instr.{Instr}
use Rattle.x86_types.specs.declared.instr.Instr.TheVariants as instr
use Rattle.flag_ir.specs.declared.operation.Op.{Op}
use Rattle.flag_ir.specs.declared.operation.Op.TheVariants as op
use Rattle.flag_ir.specs.declared.operation.Calc.TheVariants as calc
use Rattle.flag_ir.specs.Form.{IsOp, IsFrameless}
use Rattle.lift_core.specs.declared.operand.Operand.TheVariants as operand
use Rattle.lift_values.specs.Terms.{temp, word}
use Rattle.lift_core.specs.Pieces.{reg, to_reg, field_operand, read_ops, source_ops, source_of_rm, target}
use Rattle.lift_core.specs.Lists.{accumulator_operand, upper_operand, count_of, update_ops, combine_ops, alu_reads_ops, alu_writes_ops, both_writes, multiply_ops, divide_ops, double_shift_ops, lea_cut, call_ops, pop_ops, extend_ops, movs_ops, counted_ops, lift_of, way_of}
use Rattle.lift_core.specs.Lengths.{most_ops}
use Rattle.lift_core.specs.Laws.{IsWay}
use Rattle.lift_core.proofs.Plain.{IsShort, short_append, shorter, list_in_form, list_frameless}
use Rattle.lift_core.proofs.PlainCores.{alu_short, test_short, inc_short, dec_short, not_short, neg_short, mul_short, imul_short, div_short, scan_short, extend_short, cut_short, spread_short, swap_short, condition_short, set_short, cmov_short, shift_short, double_short}
use Rattle.lift_core.proofs.PlainPieces.{size_plain, address_short, target_short, field_plain, target_plain, upper_plain, count_plain, read_short, write_short, source_short}

-- ---- whether an instruction makes a call, and what is said of its list
abbrev makes_call : Instr → Bool
makes_call instr.Int80 = true
makes_call _ = false

abbrev pub ShortUnless : Bool → ℕ → List Op → Type 0
ShortUnless true n ops = ops ≡ op.System ∷ []
ShortUnless false n ops = IsShort n ops

-- ---- the shapes
update_short : (n : ℕ) (w : Width) (to : Rm) (core : List Op) → IsShort n core → IsShort (3 + (3 + (n + 4))) (update_ops w to core)
update_short n w to core h = short_append _ _ _ _ (target_short to) (short_append _ _ _ _ (read_short 1 w (target w to) (target_plain w to)) (short_append _ _ _ _ h (write_short 4 w (target w to) (target_plain w to))))

combine_short : (n m : ℕ) (w : Width) (to : Reg) (reads core : List Op) → IsShort n reads → IsShort m core → IsShort (n + (m + 4)) (combine_ops w to reads core)
combine_short n m w to reads core h k = short_append _ _ _ _ h (short_append _ _ _ _ k (write_short 4 w (field_operand w to) (field_plain w to)))

alu_reads_short : (op : AluOp) (w : Width) (to : Rm) (from : Src) → IsShort 7 (alu_reads_ops op w to from)
alu_reads_short op w to from = go _
  where
    go : (b : Bool) → IsShort 7 (cond b (read_ops 1 w (operand.Constant 0) ++ read_ops 2 w (operand.Constant 0)) (read_ops 1 w (target w to) ++ source_ops 2 w from))
    go true = shorter 6 7 _ (omega arith) (short_append 3 3 _ _ (read_short 1 w (operand.Constant 0) refl) (read_short 2 w (operand.Constant 0) refl))
    go false = short_append 3 4 _ _ (read_short 1 w (target w to) (target_plain w to)) (source_short 2 w from)

alu_writes_short : (op : AluOp) (w : Width) (to : Rm) → IsShort 4 (alu_writes_ops op w to)
alu_writes_short alu.Add w to = write_short 4 w (target w to) (target_plain w to)
alu_writes_short alu.Or w to = write_short 4 w (target w to) (target_plain w to)
alu_writes_short alu.Adc w to = write_short 4 w (target w to) (target_plain w to)
alu_writes_short alu.Sbb w to = write_short 4 w (target w to) (target_plain w to)
alu_writes_short alu.And w to = write_short 4 w (target w to) (target_plain w to)
alu_writes_short alu.Sub w to = write_short 4 w (target w to) (target_plain w to)
alu_writes_short alu.Xor w to = write_short 4 w (target w to) (target_plain w to)
alu_writes_short alu.Cmp w to = record { plain = refl; length = omega arith }

both_short : (w : Width) → IsShort 8 (both_writes w)
both_short w = short_append 4 4 _ _ (write_short 4 w accumulator_operand refl) (write_short 5 w (upper_operand w) (upper_plain w))

multiply_short : (signed : Bool) (w : Width) (from : Rm) → IsShort 29 (multiply_ops signed w from)
multiply_short signed w from = short_append 3 26 _ _ (read_short 1 w accumulator_operand refl) (short_append 4 22 _ _ (source_short 2 w (source_of_rm from)) (short_append 14 8 _ _ (mul_short signed w) (both_short w)))

divide_short : (signed : Bool) (w : Width) (from : Rm) → IsShort 19 (divide_ops signed w from)
divide_short signed w from =
    short_append 3 16 _ _ (read_short 1 w (upper_operand w) (upper_plain w)) (short_append 3 13 _ _ (read_short 2 w accumulator_operand refl) (short_append 4 9 _ _ (source_short 3 w (source_of_rm from)) (short_append 1 8 _ _ (div_short signed w) (both_short w))))

double_ops_short : (right : Bool) (to : Rm) (from : Reg) (n : Count) → IsShort 48 (double_shift_ops right to from n)
double_ops_short right to from n =
    short_append 3 45 _ _ (target_short to) (short_append 3 42 _ _ (read_short 1 Four (target Four to) (target_plain Four to)) (short_append 3 39 _ _ (read_short 2 Four (field_operand Four from) (field_plain Four from))
    (short_append 3 36 _ _ (read_short 3 One (count_of n) (count_plain n)) (short_append 32 4 _ _ (double_short right) (write_short 4 Four (target Four to) (target_plain Four to))))))

lea_short : (w : Width) → IsShort 1 (lea_cut w)
lea_short One = record { plain = refl; length = omega arith }
lea_short Two = record { plain = refl; length = omega arith }
lea_short Four = record { plain = refl; length = omega arith }

call_short : (next : ℕ) → IsShort 2 (call_ops next)
call_short next = record { plain = refl; length = omega arith }

pop_short : (n : ℕ) → IsShort 2 (pop_ops n)
pop_short n = record { plain = refl; length = omega arith }

extend_list_short : (w : Width) → IsShort 13 (extend_ops w)
extend_list_short One = record { plain = refl; length = omega arith }
extend_list_short Two = short_append 3 10 _ _ (read_short 1 One accumulator_operand refl) (short_append 6 4 _ _ (extend_short Two One) (write_short 4 Two accumulator_operand refl))
extend_list_short Four = short_append 3 10 _ _ (read_short 1 Two accumulator_operand refl) (short_append 6 4 _ _ (extend_short Four Two) (write_short 4 Four accumulator_operand refl))

movs_short : (w : Width) (repeat : Bool) → IsShort 5 (movs_ops w repeat)
movs_short w false = record { plain = rw (size_plain w) refl; length = omega arith }
movs_short w true = record { plain = rw (size_plain w) refl; length = omega arith }

stos_tail_short : (w : Width) (repeat : Bool) → IsShort 3 (op.Store (size_of w) (reg 7) (temp 4) ∷ to_reg 7 calc.Add (reg 7) (word (size_of w)) ∷ counted_ops repeat)
stos_tail_short w false = record { plain = rw (size_plain w) refl; length = omega arith }
stos_tail_short w true = record { plain = rw (size_plain w) refl; length = omega arith }

-- ---- each instruction
pub list_short : (i : Instr) (at len : ℕ) → ShortUnless (makes_call i) (most_ops i) (lift_of i at len)
unfolding lift_of most_ops
list_short (instr.Alu op w to from) at len = short_append 3 31 _ _ (target_short to) (short_append 7 24 _ _ (alu_reads_short op w to from) (short_append 20 4 _ _ (alu_short op w) (alu_writes_short op w to)))
list_short (instr.Test w to from) at len = short_append 3 18 _ _ (target_short to) (short_append 3 15 _ _ (read_short 1 w (target w to) (target_plain w to)) (short_append 4 11 _ _ (source_short 2 w from) (test_short w)))
list_short (instr.Mov w to from) at len = short_append 3 8 _ _ (target_short to) (short_append 4 4 _ _ (source_short 4 w from) (write_short 4 w (target w to) (target_plain w to)))
list_short (instr.Lea w to a) at len = short_append 3 5 _ _ (address_short 4 a) (short_append 1 4 _ _ (lea_short w) (write_short 4 w (field_operand w to) (field_plain w to)))
list_short (instr.Inc w to) at len = update_short 15 w to _ (inc_short w)
list_short (instr.Dec w to) at len = update_short 15 w to _ (dec_short w)
list_short (instr.Not w to) at len = update_short 1 w to _ (not_short w)
list_short (instr.Neg w to) at len = update_short 16 w to _ (neg_short w)
list_short (instr.Mul w from) at len = multiply_short false w from
list_short (instr.ImulWide w from) at len = multiply_short true w from
list_short (instr.Div w from) at len = divide_short false w from
list_short (instr.Idiv w from) at len = divide_short true w from
list_short (instr.Imul w to from) at len = combine_short 7 14 w to _ _ (short_append 3 4 _ _ (read_short 1 w (field_operand w to) (field_plain w to)) (source_short 2 w (source_of_rm from))) (imul_short w)
list_short (instr.ImulBy w to from by) at len = combine_short 7 14 w to _ _ (short_append 4 3 _ _ (source_short 1 w (source_of_rm from)) (read_short 2 w (operand.Constant by) refl)) (imul_short w)
list_short (instr.Shift op w to n) at len = short_append 3 42 _ _ (target_short to) (short_append 3 39 _ _ (read_short 1 w (target w to) (target_plain w to)) (short_append 3 36 _ _ (read_short 2 One (count_of n) (count_plain n)) (short_append 32 4 _ _ (shift_short op w) (write_short 4 w (target w to) (target_plain w to)))))
list_short (instr.Shld to from n) at len = double_ops_short false to from n
list_short (instr.Shrd to from n) at len = double_ops_short true to from n
list_short (instr.Push from) at len = short_append 4 2 _ _ (source_short 4 Four from) (record { plain = refl; length = omega arith })
list_short (instr.Pop to) at len = short_append 2 7 _ _ (pop_short 4) (short_append 3 4 _ _ (target_short to) (write_short 4 Four (target Four to) (target_plain Four to)))
list_short (instr.Xchg w to from) at len = short_append 3 14 _ _ (target_short to) (short_append 3 11 _ _ (read_short 5 w (target w to) (target_plain w to)) (short_append 3 8 _ _ (read_short 4 w (field_operand w from) (field_plain w from)) (short_append 4 4 _ _ (write_short 4 w (target w to) (target_plain w to)) (write_short 5 w (field_operand w from) (field_plain w from)))))
list_short (instr.Movzx wide w to from) at len = combine_short 4 1 wide to _ _ (source_short 4 w (source_of_rm from)) (cut_short wide w)
list_short (instr.Movsx wide w to from) at len = combine_short 4 6 wide to _ _ (source_short 1 w (source_of_rm from)) (extend_short wide w)
list_short (instr.Cmov c w to from) at len = combine_short 7 5 w to _ _ (short_append 3 4 _ _ (read_short 1 w (field_operand w to) (field_plain w to)) (source_short 2 w (source_of_rm from))) (cmov_short c w)
list_short (instr.Setcc c to) at len = short_append 3 8 _ _ (target_short to) (short_append 4 4 _ _ (set_short c) (write_short 4 One (target One to) (target_plain One to)))
list_short (instr.Extend w) at len = extend_list_short w
list_short (instr.Spread w) at len = short_append 3 9 _ _ (read_short 1 w accumulator_operand refl) (short_append 5 4 _ _ (spread_short w) (write_short 4 w (operand.Register 2 0) refl))
list_short (instr.Bsf w to from) at len = combine_short 4 29 w to _ _ (source_short 1 w (source_of_rm from)) (scan_short false w)
list_short (instr.Bsr w to from) at len = combine_short 4 29 w to _ _ (source_short 1 w (source_of_rm from)) (scan_short true w)
list_short (instr.Bswap to) at len = combine_short 3 17 Four to _ _ (read_short 1 Four (field_operand Four to) (field_plain Four to)) swap_short
list_short (instr.Movs w repeat) at len = movs_short w repeat
list_short (instr.Stos w repeat) at len = short_append 3 3 _ _ (read_short 4 w accumulator_operand refl) (stos_tail_short w repeat)
list_short (instr.Jmp by) at len = record { plain = refl; length = omega arith }
list_short (instr.JmpTo to) at len = source_short 4 Four (source_of_rm to)
list_short (instr.CallTo to) at len = short_append 4 2 _ _ (source_short 4 Four (source_of_rm to)) (call_short _)
list_short (instr.Jcc c by) at len = condition_short c
list_short (instr.Call by) at len = call_short _
list_short (instr.Ret drop) at len = pop_short _
list_short instr.Leave at len = record { plain = refl; length = omega arith }
list_short instr.Int80 at len = refl
list_short instr.Cld at len = record { plain = refl; length = omega arith }
list_short instr.Nop at len = record { plain = refl; length = omega arith }

-- ---- what is promised of the lists
in_form : (b : Bool) (n : ℕ) (ops : List Op) → ShortUnless b n ops → All (IsOp 0) ops
in_form true n ops h = subst (All (IsOp 0)) (sym h) (All-cons (IsOp 0) op.System [] tt (All-nil (IsOp 0)))
in_form false n ops h = list_in_form ops h.plain

frameless : (b : Bool) (n : ℕ) (ops : List Op) → ShortUnless b n ops → All IsFrameless ops
frameless true n ops h = subst (All IsFrameless) (sym h) (All-cons IsFrameless op.System [] tt (All-nil IsFrameless))
frameless false n ops h = list_frameless ops h.plain

pub ops_in_form : (i : Instr) (at len : ℕ) → All (IsOp 0) (lift_of i at len)
ops_in_form i at len = in_form (makes_call i) (most_ops i) (lift_of i at len) (list_short i at len)

pub ops_frameless : (i : Instr) (at len : ℕ) → All IsFrameless (lift_of i at len)
ops_frameless i at len = frameless (makes_call i) (most_ops i) (lift_of i at len) (list_short i at len)

short : (b : Bool) (n : ℕ) (ops : List Op) → 1 ≤ n ⊎ (b ≡ false) → ShortUnless b n ops → length ops ≤ n
short false n ops k h = h.length
short true n ops (inl k) h = subst (λ (ops : List Op). length ops ≤ n) (sym h) k
short true n ops (inr e) h = absurd cc

call_or_not : (i : Instr) → (1 ≤ most_ops i) ⊎ (makes_call i ≡ false)
unfolding most_ops
call_or_not instr.Int80 = inl (omega arith)
call_or_not _ = inr refl

pub ops_short : (i : Instr) (at len : ℕ) → length (lift_of i at len) ≤ most_ops i
ops_short i at len = short (makes_call i) (most_ops i) (lift_of i at len) (call_or_not i) (list_short i at len)

pub way_in_form : (i : Instr) (at len : ℕ) → IsWay (way_of i at len)
unfolding way_of
way_in_form (instr.Movs w true) at len = (omega arith, tt)
way_in_form (instr.Stos w true) at len = (omega arith, tt)
way_in_form _ at len = tt
