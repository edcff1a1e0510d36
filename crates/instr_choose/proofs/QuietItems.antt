-- The chosen instructions that access nothing of memory.
use Rattle.std.proofs.Common.{◌≡◌, ℕ, Bool, true, false, cond, List, [], ◌∷◌, ◌++◌, refl}
use Rattle.std.specs.List.{AllByRecursion}
use Rattle.x86_types.specs.declared.operand.Reg.{Reg}
use Rattle.x86_types.specs.declared.operand.Reg.TheVariants.{Eax, Ecx, Edx}
use Rattle.x86_types.specs.declared.operand.Rm.TheVariants as rm
use Rattle.x86_types.specs.declared.operation.AluOp.{AluOp}
use Rattle.x86_types.specs.declared.operation.AluOp.TheVariants as alu
use Rattle.x86_types.specs.declared.operation.ShiftOp.{ShiftOp}
use Rattle.x86_types.specs.declared.operation.Count.{Count}
use Rattle.x86_types.specs.declared.operation.Count.TheVariants as count
use Rattle.x86_types.specs.declared.operation.Cond.{Cond}
use Rattle.x86_types.specs.declared.width.Width.{Width}
use Rattle.x86_types.specs.declared.width.Width.TheVariants.{One, Two, Four}
use Rattle.x86_types.specs.declared.instr.Instr.TheVariants as instr
use Rattle.memory.specs.Memory.{Load, Store}
use Rattle.x86_meaning.specs.Operands.{InRegister, operand, accesses_of}
use Rattle.x86_meaning.specs.TransferShapes.{constant, alu_writes}
use Rattle.x86_meaning.specs.Transfers.{transfer}
use Rattle.x86_meaning.specs.Effect.{accesses}
use Rattle.flag_ir.specs.declared.variable.Var.{Var}
use Rattle.flag_ir.specs.declared.variable.Term.{Term}
use Rattle.flag_ir.specs.declared.variable.Term.TheVariants as term
use Rattle.flag_ir.specs.declared.operation.Calc.{Calc}
use Rattle.flag_ir.specs.declared.operation.Calc.TheVariants as calc
use Rattle.named_code.specs.declared.slot.Slot.{Slot}
use Rattle.named_code.specs.declared.slot.Slot.TheVariants.{Fixed}
use Rattle.named_code.specs.declared.named.VInstr.{VInstr}
use Rattle.named_code.specs.Items.{named_item, place_of}
use Rattle.named_code.specs.Running.{CodeState}
use Rattle.instr_choose.specs.Lists.{slot_of, made, put, copy, extend, copy_byte, alu_by, set_if, move_if, shift_by, multiply_by, divide_by, is_of, by_alu, choose_calc, byte_dividend, byte_results, choose_divide, choose_pick}
use Rattle.named_code.specs.TestedRun.{item_accesses}

-- in every state
abbrev pub IsQuiet : VInstr → Type 0
IsQuiet i = (s : CodeState) → item_accesses (named_item i) s ≡ []

abbrev pub AreQuiet : List VInstr → Type 0
AreQuiet xs = AllByRecursion IsQuiet xs

pub put_quiet : (to : Slot) (t : Term) → IsQuiet (put to t)
unfolding accesses transfer
put_quiet to (term.Var v) s = refl
put_quiet to (term.Word n) s = refl

pub copy_quiet : (to from : Slot) → IsQuiet (copy to from)
unfolding accesses transfer
copy_quiet to from s = refl

extend_quiet : (w : Width) (to from : Slot) → IsQuiet (extend w to from)
unfolding accesses transfer
extend_quiet One to from s = refl
extend_quiet Two to from s = refl
extend_quiet Four to from s = refl

byte_quiet : (to from : Slot) → IsQuiet (copy_byte to from)
unfolding accesses transfer
byte_quiet to from s = refl

-- whatever is read of registers
both_quiet : (b : Bool) (o : AluOp) (p q : ℕ) → (accesses_of Load (cond b (constant 4 0 ∷ constant 4 0 ∷ []) (operand 4 (InRegister p 0) ∷ operand 4 (InRegister q 0) ∷ [])) ++ accesses_of Store (alu_writes o 4 (InRegister p 0))) ++ [] ≡ []
both_quiet true alu.Add p q = refl
both_quiet true alu.Or p q = refl
both_quiet true alu.Adc p q = refl
both_quiet true alu.Sbb p q = refl
both_quiet true alu.And p q = refl
both_quiet true alu.Sub p q = refl
both_quiet true alu.Xor p q = refl
both_quiet true alu.Cmp p q = refl
both_quiet false alu.Add p q = refl
both_quiet false alu.Or p q = refl
both_quiet false alu.Adc p q = refl
both_quiet false alu.Sbb p q = refl
both_quiet false alu.And p q = refl
both_quiet false alu.Sub p q = refl
both_quiet false alu.Xor p q = refl
both_quiet false alu.Cmp p q = refl

pub alu_quiet : (o : AluOp) (to : Slot) (t : Term) → IsQuiet (alu_by o to t)
unfolding accesses transfer
alu_quiet o to (term.Var v) s = both_quiet _ o (place_of to) (place_of (slot_of v))
alu_quiet alu.Add to (term.Word n) s = refl
alu_quiet alu.Or to (term.Word n) s = refl
alu_quiet alu.Adc to (term.Word n) s = refl
alu_quiet alu.Sbb to (term.Word n) s = refl
alu_quiet alu.And to (term.Word n) s = refl
alu_quiet alu.Sub to (term.Word n) s = refl
alu_quiet alu.Xor to (term.Word n) s = refl
alu_quiet alu.Cmp to (term.Word n) s = refl

set_quiet : (c : Cond) (to : Slot) → IsQuiet (set_if c to)
unfolding accesses transfer
set_quiet c to s = refl

move_quiet : (c : Cond) (to from : Slot) → IsQuiet (move_if c to from)
unfolding accesses transfer
move_quiet c to from s = refl

shift_quiet : (o : ShiftOp) (n : Count) (to : Slot) → IsQuiet (shift_by o n to)
unfolding accesses transfer
shift_quiet o (count.Imm n) to s = refl
shift_quiet o count.Cl to s = refl

multiply_quiet : (signed : Bool) (from : Slot) → IsQuiet (multiply_by signed from)
unfolding accesses transfer
multiply_quiet false from s = refl
multiply_quiet true from s = refl

divide_quiet : (signed : Bool) (w : Width) → IsQuiet (divide_by signed w (Fixed Ecx))
unfolding accesses transfer
divide_quiet false One s = refl
divide_quiet false Two s = refl
divide_quiet false Four s = refl
divide_quiet true One s = refl
divide_quiet true Two s = refl
divide_quiet true Four s = refl

pub jump_quiet : (n : ℕ) → IsQuiet (made (instr.Jmp n) [])
unfolding accesses transfer
jump_quiet n s = refl

pub branch_quiet : (c : Cond) (n : ℕ) → IsQuiet (made (instr.Jcc c n) [])
unfolding accesses transfer
branch_quiet c n s = refl

pub old_quiet : IsQuiet (made (instr.JmpTo (rm.Reg Eax)) (Fixed Eax ∷ []))
unfolding accesses transfer
old_quiet s = refl

pub nothing_quiet : IsQuiet (made instr.Nop [])
unfolding accesses transfer
nothing_quiet s = refl

-- ---- lists
by_alu_quiet : (o : AluOp) (to : Var) (x y : Term) → AreQuiet (by_alu o to x y)
by_alu_quiet o to x y = by (is_of to y)
  where
    by : (b : Bool) → AreQuiet (cond b (put (Fixed Eax) x ∷ alu_by o (Fixed Eax) y ∷ copy (slot_of to) (Fixed Eax) ∷ []) (put (slot_of to) x ∷ alu_by o (slot_of to) y ∷ []))
    by true = (put_quiet (Fixed Eax) x, (alu_quiet o (Fixed Eax) y, (copy_quiet (slot_of to) (Fixed Eax), tt)))
    by false = (put_quiet (slot_of to) x, (alu_quiet o (slot_of to) y, tt))

multiply_list_quiet : (signed : Bool) (half : Reg) (to : Var) (x y : Term) → AreQuiet (put (Fixed Eax) x ∷ put (Fixed Ecx) y ∷ multiply_by signed (Fixed Ecx) ∷ copy (slot_of to) (Fixed half) ∷ [])
multiply_list_quiet signed half to x y = (put_quiet (Fixed Eax) x, (put_quiet (Fixed Ecx) y, (multiply_quiet signed (Fixed Ecx), (copy_quiet (slot_of to) (Fixed half), tt))))

shift_list_quiet : (o : ShiftOp) (to : Var) (x y : Term) → AreQuiet (put (Fixed Ecx) y ∷ put (slot_of to) x ∷ shift_by o count.Cl (slot_of to) ∷ [])
shift_list_quiet o to x y = (put_quiet (Fixed Ecx) y, (put_quiet (slot_of to) x, (shift_quiet o count.Cl (slot_of to), tt)))

compare_list_quiet : (c : Cond) (to : Var) (x y : Term) → AreQuiet (put (Fixed Eax) x ∷ alu_by alu.Cmp (Fixed Eax) y ∷ put (slot_of to) (term.Word 0) ∷ set_if c (slot_of to) ∷ [])
compare_list_quiet c to x y = (put_quiet (Fixed Eax) x, (alu_quiet alu.Cmp (Fixed Eax) y, (put_quiet (slot_of to) (term.Word 0), (set_quiet c (slot_of to), tt))))

pub calc_quiet : (c : Calc) (to : Var) (x y : Term) → AreQuiet (choose_calc c to x y)
calc_quiet calc.Add to x y = by_alu_quiet alu.Add to x y
calc_quiet calc.Sub to x y = by_alu_quiet alu.Sub to x y
calc_quiet calc.And to x y = by_alu_quiet alu.And to x y
calc_quiet calc.Or to x y = by_alu_quiet alu.Or to x y
calc_quiet calc.Xor to x y = by_alu_quiet alu.Xor to x y
calc_quiet calc.Mul to x y = multiply_list_quiet false _ to x y
calc_quiet calc.Mulhu to x y = multiply_list_quiet false _ to x y
calc_quiet calc.Mulhs to x y = multiply_list_quiet true _ to x y
calc_quiet calc.Shl to x y = shift_list_quiet _ to x y
calc_quiet calc.Shr to x y = shift_list_quiet _ to x y
calc_quiet calc.Sar to x y = shift_list_quiet _ to x y
calc_quiet calc.Eq to x y = compare_list_quiet _ to x y
calc_quiet calc.Ltu to x y = compare_list_quiet _ to x y
calc_quiet calc.Lts to x y = compare_list_quiet _ to x y

pub divide_list_quiet : (w : Width) (signed : Bool) (q r : Var) (high low by : Term) → AreQuiet (choose_divide w signed q r high low by)
unfolding byte_dividend byte_results
divide_list_quiet Four signed q r high low by =
    (put_quiet (Fixed Ecx) by, (put_quiet (Fixed Edx) high, (put_quiet (Fixed Eax) low, (divide_quiet signed Four, (copy_quiet (slot_of q) (Fixed Eax), (copy_quiet (slot_of r) (Fixed Edx), tt))))))
divide_list_quiet Two signed q r high low by =
    (put_quiet (Fixed Ecx) by, (put_quiet (Fixed Edx) high, (put_quiet (Fixed Eax) low, (divide_quiet signed Two, (extend_quiet Two (slot_of q) (Fixed Eax), (extend_quiet Two (slot_of r) (Fixed Edx), tt))))))
divide_list_quiet One signed q r high low by = (
  put_quiet (Fixed Ecx) by,
  (
    put_quiet (Fixed Edx) high,
    (
      extend_quiet One (Fixed Eax) (Fixed Edx),
      (
        shift_quiet _ (count.Imm 8) (Fixed Eax),
        (
          put_quiet (Fixed Edx) low,
          (
            byte_quiet (Fixed Eax) (Fixed Edx),
            (
              divide_quiet signed One,
              (
                extend_quiet One (slot_of q) (Fixed Eax),
                (extend_quiet Two (Fixed Eax) (Fixed Eax), (shift_quiet _ (count.Imm 8) (Fixed Eax), (copy_quiet (slot_of r) (Fixed Eax), tt))),
              ),
            ),
          ),
        ),
      ),
    ),
  ),
)

pub pick_quiet : (to : Var) (test x y : Term) → AreQuiet (choose_pick to test x y)
pick_quiet to test x y =
    (put_quiet (Fixed Eax) test, (alu_quiet alu.Cmp (Fixed Eax) (term.Word 0), (put_quiet (Fixed Ecx) x, (put_quiet (slot_of to) y, (move_quiet _ (slot_of to) (Fixed Ecx), tt)))))
