-- What lists of instructions over names cost.
use Rattle.std.proofs.Common.{◌≡◌, ℕ, ◌+◌, ◌*◌, ◌≤◌, ◌&&◌, Bool, true, false, cond, List, [], ◌∷◌, ◌++◌, length, map, ap, arith}
use Rattle.x86_types.specs.declared.operand.Reg.{Reg}
use Rattle.x86_types.specs.declared.operand.Reg.TheVariants.{Eax}
use Rattle.x86_types.specs.declared.operation.AluOp.{AluOp}
use Rattle.x86_types.specs.declared.operation.ShiftOp.{ShiftOp}
use Rattle.x86_types.specs.declared.operation.Count.TheVariants as count
use Rattle.x86_types.specs.declared.operation.Cond.{Cond}
use Rattle.x86_types.specs.declared.width.Width.{Width}
use Rattle.x86_types.specs.declared.width.Width.TheVariants.{One, Two, Four}
use Rattle.x86_types.specs.declared.operand.Rm.TheVariants as rm
use Rattle.x86_types.specs.declared.instr.Instr.{Instr}
use Rattle.x86_types.specs.declared.instr.Instr.TheVariants as instr
use Rattle.flag_ir.specs.declared.variable.Term.{Term}
use Rattle.flag_ir.specs.declared.variable.Term.TheVariants as term
use Rattle.named_code.specs.declared.slot.Slot.TheVariants.{Fixed, Name}
use Rattle.named_code.specs.declared.named.VInstr.{VInstr}
use Rattle.named_code.specs.Items.{Item, named_item}
use Rattle.name_cells.specs.Holders.{has_byte_field}
use Rattle.instr_choose.specs.Lists.{made, put, copy, extend, copy_byte, alu_by, set_if, move_if, shift_by, multiply_by, divide_by, load_by, store_by}
use Rattle.named_code.specs.Weight.{items_cost}
use Rattle.laid_code.specs.LaidRun.{instr_steps}
use Rattle.code_bounds.specs.Steps.{move_count, steps}
use Rattle.code_bounds.specs.Bytes.{opcode_length, most_bytes, bytes}
use Rattle.code_bounds.proofs.Names.{moves_of, moves_are}

abbrev pub list_cost : (Item → ℕ) → List VInstr → ℕ
list_cost c xs = items_cost c (map named_item xs)

-- so many steps and so many bytes at most
pub record IsPriced (s b : ℕ) (xs : List VInstr) : Type 0 where
  pub in_steps : list_cost steps xs ≤ s
  pub in_bytes : list_cost bytes xs ≤ b

pub none : IsPriced 0 0 []
none = record { in_steps = omega arith; in_bytes = omega arith }

one : (s b : ℕ) (x : VInstr) → length x.slots ≤ 3 → instr_steps x.instr + moves_of x ≤ s → most_bytes x.instr + 6 * moves_of x ≤ b → IsPriced s b (x ∷ [])
one s b x few h k =
    let e : move_count (named_item x) ≡ moves_of x = moves_are x few in
    let g : 6 * move_count (named_item x) ≡ 6 * moves_of x = ap (λ n. 6 * n) e in
    record { in_steps = omega (arith, e, h); in_bytes = omega (arith, g, k) }

append : (c : Item → ℕ) (xs ys : List VInstr) → list_cost c (xs ++ ys) ≡ list_cost c xs + list_cost c ys
append c [] ys = omega arith
append c (x ∷ xs) ys = let e : list_cost c (xs ++ ys) ≡ list_cost c xs + list_cost c ys = append c xs ys in omega (arith, e)

pub both : (s t b c : ℕ) (xs ys : List VInstr) → IsPriced s b xs → IsPriced t c ys → IsPriced (s + t) (b + c) (xs ++ ys)
both s t b c xs ys h k = record { in_steps = omega (arith, append steps xs ys, h.in_steps, k.in_steps); in_bytes = omega (arith, append bytes xs ys, h.in_bytes, k.in_bytes) }

pub then : {s t b c : ℕ} {x : VInstr} {ys : List VInstr} → IsPriced s b (x ∷ []) → IsPriced t c ys → IsPriced (s + t) (b + c) (x ∷ ys)
then h k = both _ _ _ _ (_ ∷ []) _ h k

pub within : (s t b c : ℕ) (xs : List VInstr) → s ≤ t → b ≤ c → IsPriced s b xs → IsPriced t c xs
within s t b c xs h k p = record { in_steps = omega (arith, h, p.in_steps); in_bytes = omega (arith, k, p.in_bytes) }

-- ---- one instruction
pub put_fixed_word : (r : Reg) (n : ℕ) → IsPriced 1 5 (put (Fixed r) (term.Word n) ∷ [])
unfolding has_byte_field
put_fixed_word r n = one _ _ _ (omega arith) (omega arith) (omega arith)

pub put_fixed : (r : Reg) (t : Term) → IsPriced 3 14 (put (Fixed r) t ∷ [])
unfolding has_byte_field
put_fixed r (term.Var v) = one _ _ _ (omega arith) (omega arith) (omega arith)
put_fixed r (term.Word n) = within _ _ _ _ _ (omega arith) (omega arith) (put_fixed_word r n)

pub put_name_word : (k n : ℕ) → IsPriced 3 17 (put (Name k) (term.Word n) ∷ [])
unfolding has_byte_field
put_name_word k n = one _ _ _ (omega arith) (omega arith) (omega arith)

pub put_name : (k : ℕ) (t : Term) → IsPriced 5 26 (put (Name k) t ∷ [])
unfolding has_byte_field
put_name k (term.Var v) = one _ _ _ (omega arith) (omega arith) (omega arith)
put_name k (term.Word n) = within _ _ _ _ _ (omega arith) (omega arith) (put_name_word k n)

pub alu_fixed_word : (o : AluOp) (r : Reg) (n : ℕ) → IsPriced 1 6 (alu_by o (Fixed r) (term.Word n) ∷ [])
unfolding has_byte_field
alu_fixed_word o r n = one _ _ _ (omega arith) (omega arith) (omega arith)

pub alu_fixed : (o : AluOp) (r : Reg) (t : Term) → IsPriced 3 14 (alu_by o (Fixed r) t ∷ [])
unfolding has_byte_field
alu_fixed o r (term.Var v) = one _ _ _ (omega arith) (omega arith) (omega arith)
alu_fixed o r (term.Word n) = within _ _ _ _ _ (omega arith) (omega arith) (alu_fixed_word o r n)

pub alu_name_word : (o : AluOp) (k n : ℕ) → IsPriced 3 18 (alu_by o (Name k) (term.Word n) ∷ [])
unfolding has_byte_field
alu_name_word o k n = one _ _ _ (omega arith) (omega arith) (omega arith)

pub alu_name : (o : AluOp) (k : ℕ) (t : Term) → IsPriced 5 26 (alu_by o (Name k) t ∷ [])
unfolding has_byte_field
alu_name o k (term.Var v) = one _ _ _ (omega arith) (omega arith) (omega arith)
alu_name o k (term.Word n) = within _ _ _ _ _ (omega arith) (omega arith) (alu_name_word o k n)

pub copy_out : (k : ℕ) (r : Reg) → IsPriced 3 14 (copy (Name k) (Fixed r) ∷ [])
unfolding has_byte_field
copy_out k r = one _ _ _ (omega arith) (omega arith) (omega arith)

pub copy_in : (r : Reg) (k : ℕ) → IsPriced 3 14 (copy (Fixed r) (Name k) ∷ [])
unfolding has_byte_field
copy_in r k = one _ _ _ (omega arith) (omega arith) (omega arith)

pub set_name : (c : Cond) (k : ℕ) → IsPriced 5 27 (set_if c (Name k) ∷ [])
unfolding has_byte_field
set_name c k = one _ _ _ (omega arith) (omega arith) (omega arith)

pub move_name : (c : Cond) (k : ℕ) (r : Reg) → IsPriced 3 15 (move_if c (Name k) (Fixed r) ∷ [])
unfolding has_byte_field
move_name c k r = one _ _ _ (omega arith) (omega arith) (omega arith)

pub shift_name : (o : ShiftOp) (k : ℕ) → IsPriced 3 14 (shift_by o count.Cl (Name k) ∷ [])
unfolding has_byte_field
shift_name o k = one _ _ _ (omega arith) (omega arith) (omega arith)

pub shift_fixed : (o : ShiftOp) (n : ℕ) (r : Reg) → IsPriced 1 3 (shift_by o (count.Imm n) (Fixed r) ∷ [])
unfolding has_byte_field
shift_fixed o n r = one _ _ _ (omega arith) (omega arith) (omega arith)

pub multiply_fixed : (signed : Bool) (r : Reg) → IsPriced 1 2 (multiply_by signed (Fixed r) ∷ [])
unfolding has_byte_field
multiply_fixed false r = one _ _ _ (omega arith) (omega arith) (omega arith)
multiply_fixed true r = one _ _ _ (omega arith) (omega arith) (omega arith)

pub divide_fixed : (signed : Bool) (w : Width) (r : Reg) → IsPriced 1 (opcode_length w + 1) (divide_by signed w (Fixed r) ∷ [])
unfolding has_byte_field
divide_fixed false One r = one _ _ _ (omega arith) (omega arith) (omega arith)
divide_fixed false Two r = one _ _ _ (omega arith) (omega arith) (omega arith)
divide_fixed false Four r = one _ _ _ (omega arith) (omega arith) (omega arith)
divide_fixed true One r = one _ _ _ (omega arith) (omega arith) (omega arith)
divide_fixed true Two r = one _ _ _ (omega arith) (omega arith) (omega arith)
divide_fixed true Four r = one _ _ _ (omega arith) (omega arith) (omega arith)

pub extend_byte : (k : ℕ) (r : Reg) → IsPriced 5 27 (extend One (Name k) (Fixed r) ∷ [])
unfolding has_byte_field
extend_byte k r = one _ _ _ (omega arith) (omega arith) (omega arith)

pub extend_half : (k : ℕ) (r : Reg) → IsPriced 3 15 (extend Two (Name k) (Fixed r) ∷ [])
unfolding has_byte_field
extend_half k r = one _ _ _ (omega arith) (omega arith) (omega arith)

pub extend_byte_fixed : (q r : Reg) → IsPriced 1 3 (extend One (Fixed q) (Fixed r) ∷ [])
unfolding has_byte_field
extend_byte_fixed q r = one _ _ _ (omega arith) (omega arith) (omega arith)

pub extend_half_fixed : (q r : Reg) → IsPriced 1 3 (extend Two (Fixed q) (Fixed r) ∷ [])
unfolding has_byte_field
extend_half_fixed q r = one _ _ _ (omega arith) (omega arith) (omega arith)

pub copy_byte_fixed : (q r : Reg) → IsPriced 1 2 (copy_byte (Fixed q) (Fixed r) ∷ [])
unfolding has_byte_field
copy_byte_fixed q r = one _ _ _ (omega arith) (omega arith) (omega arith)

pub plain_one : (s b : ℕ) (i : Instr) → instr_steps i ≤ s → most_bytes i ≤ b → has_byte_field i ≡ false → IsPriced s b (made i [] ∷ [])
plain_one s b i h k e = one _ _ _ (omega arith) (moves_none s (instr_steps i) h) (moves_six b (most_bytes i) k)
  where
    no_moves : moves_of (made i []) ≡ 0
    no_moves = ap (λ b. 2 * (0 + cond (b && false) 1 0)) e

    moves_none : (s n : ℕ) → n ≤ s → n + moves_of (made i []) ≤ s
    moves_none s n h = omega (arith, h, no_moves)

    moves_six : (b n : ℕ) → n ≤ b → n + 6 * moves_of (made i []) ≤ b
    moves_six b n h = let g : 6 * moves_of (made i []) ≡ 6 * 0 = ap (λ n. 6 * n) no_moves in omega (arith, h, g)

-- ---- memory
pub load_name : (w : Width) (k : ℕ) (at : Term) → IsPriced 5 28 (load_by w (Name k) at ∷ [])
unfolding has_byte_field
load_name One k (term.Var v) = one _ _ _ (omega arith) (omega arith) (omega arith)
load_name Two k (term.Var v) = one _ _ _ (omega arith) (omega arith) (omega arith)
load_name Four k (term.Var v) = one _ _ _ (omega arith) (omega arith) (omega arith)
load_name One k (term.Word n) = one _ _ _ (omega arith) (omega arith) (omega arith)
load_name Two k (term.Word n) = one _ _ _ (omega arith) (omega arith) (omega arith)
load_name Four k (term.Word n) = one _ _ _ (omega arith) (omega arith) (omega arith)

pub store_name : (w : Width) (at : Term) (k : ℕ) → IsPriced 7 39 (store_by w at (Name k) ∷ [])
unfolding has_byte_field
store_name One (term.Var v) k = one _ _ _ (omega arith) (omega arith) (omega arith)
store_name Two (term.Var v) k = one _ _ _ (omega arith) (omega arith) (omega arith)
store_name Four (term.Var v) k = one _ _ _ (omega arith) (omega arith) (omega arith)
store_name One (term.Word n) k = one _ _ _ (omega arith) (omega arith) (omega arith)
store_name Two (term.Word n) k = one _ _ _ (omega arith) (omega arith) (omega arith)
store_name Four (term.Word n) k = one _ _ _ (omega arith) (omega arith) (omega arith)

pub store_fixed : (w : Width) (at : Term) (r : Reg) → IsPriced 5 27 (store_by w at (Fixed r) ∷ [])
unfolding has_byte_field
store_fixed One (term.Var v) r = one _ _ _ (omega arith) (omega arith) (omega arith)
store_fixed Two (term.Var v) r = one _ _ _ (omega arith) (omega arith) (omega arith)
store_fixed Four (term.Var v) r = one _ _ _ (omega arith) (omega arith) (omega arith)
store_fixed One (term.Word n) r = one _ _ _ (omega arith) (omega arith) (omega arith)
store_fixed Two (term.Word n) r = one _ _ _ (omega arith) (omega arith) (omega arith)
store_fixed Four (term.Word n) r = one _ _ _ (omega arith) (omega arith) (omega arith)

pub store_fixed_at : (w : Width) (n : ℕ) (r : Reg) → IsPriced 1 7 (store_by w (term.Word n) (Fixed r) ∷ [])
unfolding has_byte_field
store_fixed_at One n r = one _ _ _ (omega arith) (omega arith) (omega arith)
store_fixed_at Two n r = one _ _ _ (omega arith) (omega arith) (omega arith)
store_fixed_at Four n r = one _ _ _ (omega arith) (omega arith) (omega arith)

-- at a number, of a word
pub store_word : (n : ℕ) (r : Reg) → IsPriced 1 6 (store_by Four (term.Word n) (Fixed r) ∷ [])
unfolding has_byte_field
store_word n r = one _ _ _ (omega arith) (omega arith) (omega arith)

pub load_word : (r : Reg) (n : ℕ) → IsPriced 1 6 (load_by Four (Fixed r) (term.Word n) ∷ [])
unfolding has_byte_field
load_word r n = one _ _ _ (omega arith) (omega arith) (omega arith)

pub jump_fixed : (r : Reg) → IsPriced 6 40 (made (instr.JmpTo (rm.Reg Eax)) (Fixed r ∷ []) ∷ [])
unfolding has_byte_field
jump_fixed r = one _ _ _ (omega arith) (omega arith) (omega arith)
