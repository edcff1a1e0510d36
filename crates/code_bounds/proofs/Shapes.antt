-- How long an instruction is at most, whatever registers stand in its fields.
use Rattle.std.proofs.Common.{◌≡◌, ℕ, zero, ◌+◌, ◌≤◌, ◌==◌, ◌%◌, Bool, true, false, if◌then◌else◌, length, Option, Some, None, refl, inl, inr, arith, length-append}
use Rattle.x86_types.specs.declared.operand.Reg.{Reg}
use Rattle.x86_types.specs.declared.operand.Reg.TheVariants as reg
use Rattle.x86_types.specs.declared.operand.Address.{Address}
use Rattle.x86_types.specs.declared.operand.Rm.{Rm}
use Rattle.x86_types.specs.declared.operand.Rm.TheVariants as rm
use Rattle.x86_types.specs.declared.operand.Src.{Src}
use Rattle.x86_types.specs.declared.operand.Src.TheVariants as src
use Rattle.x86_types.specs.declared.operation.AluOp.{AluOp}
use Rattle.x86_types.specs.declared.operation.AluOp.TheVariants as alu
use Rattle.x86_types.specs.declared.operation.ShiftOp.{ShiftOp}
use Rattle.x86_types.specs.declared.operation.Count.{Count}
use Rattle.x86_types.specs.declared.operation.Count.TheVariants as count
use Rattle.x86_types.specs.declared.operation.Cond.{Cond}
use Rattle.x86_types.specs.declared.operation.Cond.TheVariants as condition
use Rattle.x86_types.specs.declared.width.Width.{Width}
use Rattle.x86_types.specs.declared.width.Width.TheVariants.{One, Two, Four}
use Rattle.x86_types.specs.declared.instr.Instr.{Instr}
use Rattle.x86_types.specs.declared.instr.Instr.TheVariants as instr
use Rattle.x86_types.specs.Numbers.{number_of_reg, number_of_shift, size_of}
use Rattle.x86_types.specs.Registers.{Renaming, Whole, field_of, renamed_address, renamed_rm, renamed}
use Rattle.x86_grammar.specs.declared.row.Row.TheVariants as row
use Rattle.x86_grammar.specs.Operand.{sibs}
use Rattle.x86_grammar.specs.Parts.{signed, plain}
use Rattle.x86_grammar.specs.Rows.{opcode_of}
use Rattle.x86_grammar.specs.Spells.{opcode_bytes}
use Rattle.x86_encode.specs.BestOperand.{class_of, best_size, best_sibs, best_disp, best_bytes}
use Rattle.x86_encode.specs.BestForm.{best_operand}
use Rattle.x86_encode.specs.Choice.{best_wide}
use Rattle.code_bounds.specs.Bytes.{own_bytes, address_bytes, operand_bytes, opcode_length, mov_bytes, alu_bytes, movzx_bytes, cmov_bytes, most_bytes}
use Rattle.code_bounds.proofs.Spelled.{le_length, any, by_parts}

-- ---- addresses
sibs_short : (b : Bool) (n : ℕ) → length (sibs b n) ≤ 1
sibs_short true n = omega arith
sibs_short false n = omega arith

size_short : (base : Option Reg) (disp : ℕ) → best_size base (class_of disp) ≤ 4
size_short None disp = omega arith
size_short (Some b) disp = by (disp == 0) (signed Four (disp % 256) == disp)
  where
    by : (x y : Bool) → best_size (Some b) (if x then 0 else (if y then 1 else 2)) ≤ 4
    by true y = elim b as (λ r. best_size (Some r) 0 ≤ 4) [ reg.Eax ↦ omega arith | _ ↦ omega arith ]
    by false true = omega arith
    by false false = omega arith

any_address : (n : ℕ) (a : Address) → length (best_bytes n a) ≤ 6
any_address n a =
    let e = length-append (best_sibs a) (best_disp a) in
    let s : length (best_sibs a) ≤ 1 = sibs_short _ _ in
    let d : length (best_disp a) ≡ best_size a.base (class_of a.disp) = le_length _ _ in
    let l = size_short a.base a.disp in
    omega (arith, e, s, d, l)

address_within : (n : ℕ) (f : Renaming) (base index : Option Reg) (scale disp : ℕ) → length (best_bytes n (renamed_address f (record { base = base; index = index; scale = scale; disp = disp }))) ≤ address_bytes base index disp
address_within n f None None scale disp = omega arith
address_within n f (Some b) None scale zero = elim (f Whole b) as (λ r. length (best_bytes n (record { base = Some r; index = None; scale = scale; disp = 0 })) ≤ 2) [ reg.Eax ↦ omega arith | _ ↦ omega arith ]
address_within n f base index scale disp = any_address n (renamed_address f (record { base = base; index = index; scale = scale; disp = disp }))

operand_within : (n : ℕ) (f : Renaming) (w : Width) (m : Rm) → length (best_operand (Some (renamed_rm f w m)) n) ≤ operand_bytes m
operand_within n f w (rm.Reg r) = omega arith
operand_within n f w (rm.Mem a) = address_within n f a.base a.index a.scale a.disp

-- ---- opcodes: one byte, or two where 0F stands before it
mov_opcode : (t : Reg) (w : Bool) → length (opcode_bytes (opcode_of (row.MovReg t w))) ≡ 1
mov_opcode t true = elim t as (λ t. length (opcode_bytes (opcode_of (row.MovReg t true))) ≡ 1) [ reg.Eax ↦ refl | _ ↦ refl ]
mov_opcode t false = elim t as (λ t. length (opcode_bytes (opcode_of (row.MovReg t false))) ≡ 1) [ reg.Eax ↦ refl | _ ↦ refl ]

alu_opcode : (op : AluOp) (w : Bool) → length (opcode_bytes (opcode_of (row.AluToRm op w))) ≡ 1
alu_opcode op true = elim op as (λ o. length (opcode_bytes (opcode_of (row.AluToRm o true))) ≡ 1) [ alu.Add ↦ refl | _ ↦ refl ]
alu_opcode op false = elim op as (λ o. length (opcode_bytes (opcode_of (row.AluToRm o false))) ≡ 1) [ alu.Add ↦ refl | _ ↦ refl ]

set_opcode : (c : Cond) → length (opcode_bytes (opcode_of (row.Setcc c))) ≡ 2
set_opcode c = elim c as (λ c. length (opcode_bytes (opcode_of (row.Setcc c))) ≡ 2) [ condition.O ↦ refl | _ ↦ refl ]

cmov_opcode : (c : Cond) → length (opcode_bytes (opcode_of (row.Cmov c))) ≡ 2
cmov_opcode c = elim c as (λ c. length (opcode_bytes (opcode_of (row.Cmov c))) ≡ 2) [ condition.O ↦ refl | _ ↦ refl ]

jcc_opcode : (c : Cond) → length (opcode_bytes (opcode_of (row.JccNear c))) ≡ 2
jcc_opcode c = elim c as (λ c. length (opcode_bytes (opcode_of (row.JccNear c))) ≡ 2) [ condition.O ↦ refl | _ ↦ refl ]

-- ---- MOV
constant : (w : Width) (t : Reg) (n : ℕ) → length (best_wide (instr.Mov w (rm.Reg t) (src.Imm n))) ≤ opcode_length w + size_of w
constant One t n = by_parts _ (plain (row.MovReg t false) One n) 0 _ (inr (inl refl)) (omega arith) (omega (arith, mov_opcode t false))
constant Two t n = by_parts _ (plain (row.MovReg t true) Two n) 0 _ (inr (inl refl)) (omega arith) (omega (arith, mov_opcode t true))
constant Four t n = by_parts _ (plain (row.MovReg t true) Four n) 0 _ (inr (inl refl)) (omega arith) (omega (arith, mov_opcode t true))

copy : (w : Width) (to from : Reg) → length (best_wide (instr.Mov w (rm.Reg to) (src.Reg from))) ≤ opcode_length w + 1
copy One to from = by_parts _ _ 1 _ (inl refl) (omega arith) (omega arith)
copy Two to from = by_parts _ _ 1 _ (inl refl) (omega arith) (omega arith)
copy Four to from = by_parts _ _ 1 _ (inl refl) (omega arith) (omega arith)

load : (f : Renaming) (w : Width) (to : Reg) (from : Address) → length (best_wide (instr.Mov w (rm.Reg to) (src.Mem (renamed_address f from)))) ≤ opcode_length w + operand_bytes (rm.Mem from)
load f One to from = by_parts _ _ _ _ (inl refl) (operand_within (number_of_reg to) f One (rm.Mem from)) (omega arith)
load f Two to from = by_parts _ _ _ _ (inl refl) (operand_within (number_of_reg to) f Two (rm.Mem from)) (omega arith)
load f Four to from = by_parts _ _ _ _ (inl refl) (operand_within (number_of_reg to) f Four (rm.Mem from)) (omega arith)

store : (f : Renaming) (w : Width) (to : Address) (from : Reg) → length (best_wide (instr.Mov w (rm.Mem (renamed_address f to)) (src.Reg from))) ≤ opcode_length w + operand_bytes (rm.Mem to)
store f One to from = by_parts _ _ _ _ (inl refl) (operand_within (number_of_reg from) f One (rm.Mem to)) (omega arith)
store f Two to from = by_parts _ _ _ _ (inl refl) (operand_within (number_of_reg from) f Two (rm.Mem to)) (omega arith)
store f Four to from = by_parts _ _ _ _ (inl refl) (operand_within (number_of_reg from) f Four (rm.Mem to)) (omega arith)

mov_within : (f : Renaming) (w : Width) (to : Rm) (from : Src) → length (best_wide (renamed f (instr.Mov w to from))) ≤ mov_bytes w to from
mov_within f w (rm.Reg r) (src.Imm n) = constant w (f (field_of w) r) n
mov_within f w (rm.Reg r) (src.Reg from) = copy w (f (field_of w) r) (f (field_of w) from)
mov_within f w (rm.Reg r) (src.Mem a) = load f w (f (field_of w) r) a
mov_within f w (rm.Mem a) (src.Reg from) = store f w a (f (field_of w) from)
mov_within f w to from = any _

-- ---- ADD to CMP
alu_constant : (op : AluOp) (w : Width) (t : Reg) (n : ℕ) → length (best_wide (instr.Alu op w (rm.Reg t) (src.Imm n))) ≤ opcode_length w + 1 + size_of w
alu_constant op One t n = by_parts _ _ 1 _ (inl refl) (omega arith) (omega arith)
alu_constant op Two t n = by_parts _ _ 1 _ (inl refl) (omega arith) (omega arith)
alu_constant op Four t n = by_parts _ _ 1 _ (inl refl) (omega arith) (omega arith)

alu_both : (op : AluOp) (w : Width) (to from : Reg) → length (best_wide (instr.Alu op w (rm.Reg to) (src.Reg from))) ≤ opcode_length w + 1
alu_both op One to from = by_parts _ _ 1 _ (inl refl) (omega arith) (omega (arith, alu_opcode op false))
alu_both op Two to from = by_parts _ _ 1 _ (inl refl) (omega arith) (omega (arith, alu_opcode op true))
alu_both op Four to from = by_parts _ _ 1 _ (inl refl) (omega arith) (omega (arith, alu_opcode op true))

alu_within : (f : Renaming) (op : AluOp) (w : Width) (to : Rm) (from : Src) → length (best_wide (renamed f (instr.Alu op w to from))) ≤ alu_bytes w to from
alu_within f op w (rm.Reg r) (src.Imm n) = alu_constant op w (f (field_of w) r) n
alu_within f op w (rm.Reg r) (src.Reg from) = alu_both op w (f (field_of w) r) (f (field_of w) from)
alu_within f op w to from = any _

-- ---- MOVZX, CMOV, shifts
movzx_within : (f : Renaming) (wide w : Width) (to : Reg) (from : Rm) → length (best_wide (renamed f (instr.Movzx wide w to from))) ≤ movzx_bytes wide w from
movzx_within f Four One to from = by_parts _ _ _ _ (inl refl) (operand_within (number_of_reg (f Whole to)) f One from) (omega arith)
movzx_within f Four Two to from = by_parts _ _ _ _ (inl refl) (operand_within (number_of_reg (f Whole to)) f Two from) (omega arith)
movzx_within f wide w to from = any _

cmov_within : (f : Renaming) (c : Cond) (w : Width) (to : Reg) (from : Rm) → length (best_wide (renamed f (instr.Cmov c w to from))) ≤ cmov_bytes w from
cmov_within f c Four to from = by_parts _ _ _ _ (inl refl) (operand_within (number_of_reg (f Whole to)) f Four from) (omega (arith, cmov_opcode c))
cmov_within f c w to from = any _

shift_within : (f : Renaming) (op : ShiftOp) (w : Width) (to : Rm) (n : Count) → length (best_wide (renamed f (instr.Shift op w to n))) ≤ most_bytes (instr.Shift op w to n)
shift_within f op One to (count.Imm v) = by_parts _ _ _ _ (inl refl) (operand_within (number_of_shift op) f One to) (omega arith)
shift_within f op Two to (count.Imm v) = by_parts _ _ _ _ (inl refl) (operand_within (number_of_shift op) f Two to) (omega arith)
shift_within f op Four to (count.Imm v) = by_parts _ _ _ _ (inl refl) (operand_within (number_of_shift op) f Four to) (omega arith)
shift_within f op One to count.Cl = by_parts _ _ _ _ (inl refl) (operand_within (number_of_shift op) f One to) (omega arith)
shift_within f op Two to count.Cl = by_parts _ _ _ _ (inl refl) (operand_within (number_of_shift op) f Two to) (omega arith)
shift_within f op Four to count.Cl = by_parts _ _ _ _ (inl refl) (operand_within (number_of_shift op) f Four to) (omega arith)

-- ---- products and divisions
mul_within : (f : Renaming) (w : Width) (from : Rm) → length (best_wide (renamed f (instr.Mul w from))) ≤ most_bytes (instr.Mul w from)
mul_within f One from = by_parts _ _ _ _ (inl refl) (operand_within 4 f One from) (omega arith)
mul_within f Two from = by_parts _ _ _ _ (inl refl) (operand_within 4 f Two from) (omega arith)
mul_within f Four from = by_parts _ _ _ _ (inl refl) (operand_within 4 f Four from) (omega arith)

imul_within : (f : Renaming) (w : Width) (from : Rm) → length (best_wide (renamed f (instr.ImulWide w from))) ≤ most_bytes (instr.ImulWide w from)
imul_within f One from = by_parts _ _ _ _ (inl refl) (operand_within 5 f One from) (omega arith)
imul_within f Two from = by_parts _ _ _ _ (inl refl) (operand_within 5 f Two from) (omega arith)
imul_within f Four from = by_parts _ _ _ _ (inl refl) (operand_within 5 f Four from) (omega arith)

div_within : (f : Renaming) (w : Width) (from : Rm) → length (best_wide (renamed f (instr.Div w from))) ≤ most_bytes (instr.Div w from)
div_within f One from = by_parts _ _ _ _ (inl refl) (operand_within 6 f One from) (omega arith)
div_within f Two from = by_parts _ _ _ _ (inl refl) (operand_within 6 f Two from) (omega arith)
div_within f Four from = by_parts _ _ _ _ (inl refl) (operand_within 6 f Four from) (omega arith)

idiv_within : (f : Renaming) (w : Width) (from : Rm) → length (best_wide (renamed f (instr.Idiv w from))) ≤ most_bytes (instr.Idiv w from)
idiv_within f One from = by_parts _ _ _ _ (inl refl) (operand_within 7 f One from) (omega arith)
idiv_within f Two from = by_parts _ _ _ _ (inl refl) (operand_within 7 f Two from) (omega arith)
idiv_within f Four from = by_parts _ _ _ _ (inl refl) (operand_within 7 f Four from) (omega arith)

-- ---- each instruction
pub shape : (f : Renaming) (i : Instr) → own_bytes (renamed f i) ≤ most_bytes i
shape f (instr.Mov w to from) = mov_within f w to from
shape f (instr.Alu op w to from) = alu_within f op w to from
shape f (instr.Movzx wide w to from) = movzx_within f wide w to from
shape f (instr.Cmov c w to from) = cmov_within f c w to from
shape f (instr.Setcc c to) = by_parts _ _ _ _ (inl refl) (operand_within 0 f One to) (omega (arith, set_opcode c))
shape f (instr.Shift op w to n) = shift_within f op w to n
shape f (instr.Mul w from) = mul_within f w from
shape f (instr.ImulWide w from) = imul_within f w from
shape f (instr.Div w from) = div_within f w from
shape f (instr.Idiv w from) = idiv_within f w from
shape f (instr.Jmp by) = by_parts (instr.Jmp by) _ 0 _ (inl refl) (omega arith) (omega arith)
shape f (instr.JmpTo to) = omega arith
shape f (instr.Jcc c by) = by_parts (instr.Jcc c by) _ 0 _ (inl refl) (omega arith) (omega (arith, jcc_opcode c))
shape f instr.Int80 = by_parts instr.Int80 _ 0 _ (inl refl) (omega arith) (omega arith)
shape f instr.Nop = by_parts instr.Nop _ 0 _ (inl refl) (omega arith) (omega arith)
shape f i = any (renamed f i)
