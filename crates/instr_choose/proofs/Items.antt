-- What the chosen instructions do to places.
use Rattle.std.proofs.Common.{◌≡◌, ℕ, ◌==◌, Bool, true, false, List, [], ◌∷◌, Some, refl}
use Rattle.traces.specs.Trace.{Move, Go, Halt}
use Rattle.x86_values.specs.declared.word.Word.{Word}
use Rattle.x86_values.specs.declared.word.Flags.{Flags}
use Rattle.x86_values.specs.declared.answered.Answered.{Answered}
use Rattle.x86_values.specs.declared.logic.Bit.TheVariants as bit
use Rattle.x86_values.specs.Words.{word_of, padded}
use Rattle.x86_values.specs.Sums.{add, sub}
use Rattle.x86_values.specs.Logic.{bitwise}
use Rattle.x86_values.specs.Shifts.{shift}
use Rattle.x86_values.specs.Products.{multiply}
use Rattle.x86_types.specs.declared.operation.AluOp.{AluOp}
use Rattle.x86_types.specs.declared.operation.AluOp.TheVariants as alu
use Rattle.x86_types.specs.declared.operation.ShiftOp.{ShiftOp}
use Rattle.x86_types.specs.declared.operation.Count.TheVariants as count
use Rattle.x86_types.specs.declared.operand.Reg.TheVariants.{Eax, Ecx, Edx}
use Rattle.x86_types.specs.declared.width.Width.TheVariants.{One, Two, Four}
use Rattle.x86_types.specs.declared.operation.Cond.{Cond}
use Rattle.x86_types.specs.declared.width.Width.{Width}
use Rattle.x86_types.specs.declared.instr.Instr.TheVariants as instr
use Rattle.x86_types.specs.Numbers.{size_of}
use Rattle.x86_values.specs.declared.byte.Byte.{Byte}
use Rattle.x86_values.specs.declared.product.Product.{Product}
use Rattle.x86_values.specs.declared.divided.Divided.{Divided}
use Rattle.x86_values.specs.declared.divided.Divided.TheVariants as divide_to
use Rattle.x86_values.specs.Sizes.{cut}
use Rattle.x86_values.specs.Results.{no_flags}
use Rattle.x86_values.specs.Divisions.{divide}
use Rattle.x86_values.specs.Conditions.{condition}
use Rattle.traces.specs.Trace.{DivideFault, Unspecified}
use Rattle.memory.specs.SystemCall.{system_call}
use Rattle.x86_meaning.specs.Outcomes.{chosen, quotient_and_remainder}
use Rattle.x86_meaning.specs.TransferShapes.{accumulator, upper_accumulator}
use Rattle.x86_meaning.specs.Step.{request_of}
use Rattle.x86_meaning.specs.Effect.{effect_of}
use Rattle.x86_meaning.specs.Registers.{with_register}
use Rattle.x86_meaning.specs.Effect.{accesses, effect}
use Rattle.x86_meaning.specs.Transfers.{transfer}
use Rattle.x86_meaning.specs.Computing.{compute}
use Rattle.flag_ir.specs.declared.variable.Var.{Var}
use Rattle.flag_ir.specs.declared.variable.Term.{Term}
use Rattle.flag_ir.specs.declared.variable.Term.TheVariants as term
use Rattle.named_code.specs.declared.slot.Slot.{Slot}
use Rattle.named_code.specs.declared.slot.Slot.TheVariants.{Fixed}
use Rattle.named_code.specs.declared.named.VInstr.{VInstr}
use Rattle.named_code.specs.Items.{Item, named_item, place_of}
use Rattle.named_code.specs.Running.{CodeState, CodePoint, CodePosition, standing_at, after_call, by_loads, act}
use Rattle.instr_choose.specs.Lists.{made, put, copy, extend, copy_byte, alu_by, set_if, move_if, shift_by, multiply_by, divide_by, slot_of}
use Rattle.instr_choose.specs.Relation.{place_of_var}

-- a state with another word at a place, and with other flags
abbrev pub with_place : ℕ → Word → CodeState → CodeState
with_place p w s = record s { cpu = record s.cpu { regs = with_register p w s.cpu.regs } }

abbrev pub with_flags : Flags → CodeState → CodeState
with_flags f s = record s { cpu = record s.cpu { flags = f } }

-- what a term is in places
abbrev pub term_at : Term → CodeState → Word
term_at (term.Var v) s = s.cpu.regs (place_of_var v)
term_at (term.Word n) s = word_of n

abbrev pub On : VInstr → CodeState → CodeState → Type 0
On x s t = (rest : List Item) → act (named_item x) rest s ≡ Go [] (standing_at (CodePoint.Inside rest) t)

pub put_is : (to : Slot) (t : Term) (s : CodeState) → On (put to t) s (with_place (place_of to) (term_at t s) s)
unfolding act accesses effect transfer compute
put_is to (term.Var v) s rest = refl
put_is to (term.Word n) s rest = refl

pub copy_is : (to from : Slot) (s : CodeState) → On (copy to from) s (with_place (place_of to) (s.cpu.regs (place_of from)) s)
unfolding act accesses effect transfer compute
copy_is to from s rest = refl

-- ---- the flags and the result of an operation of two words
abbrev pub alu_answer : AluOp → Word → Word → Flags → Answered
alu_answer alu.Add x y f = add 4 x y (Some false)
alu_answer alu.Or x y f = bitwise bit.Or 4 x y
alu_answer alu.Adc x y f = add 4 x y f.cf
alu_answer alu.Sbb x y f = sub 4 x y f.cf
alu_answer alu.And x y f = bitwise bit.And 4 x y
alu_answer alu.Sub x y f = sub 4 x y (Some false)
alu_answer alu.Xor x y f = bitwise bit.Xor 4 x y
alu_answer alu.Cmp x y f = sub 4 x y (Some false)

abbrev pub alu_after : AluOp → ℕ → Answered → CodeState → CodeState
alu_after alu.Add p a s = with_place p a.value (with_flags a.flags s)
alu_after alu.Or p a s = with_place p a.value (with_flags a.flags s)
alu_after alu.Adc p a s = with_place p a.value (with_flags a.flags s)
alu_after alu.Sbb p a s = with_place p a.value (with_flags a.flags s)
alu_after alu.And p a s = with_place p a.value (with_flags a.flags s)
alu_after alu.Sub p a s = with_place p a.value (with_flags a.flags s)
alu_after alu.Xor p a s = with_place p a.value (with_flags a.flags s)
alu_after alu.Cmp p a s = with_flags a.flags s

-- a term doesn't stand in a place
abbrev pub IsApart : ℕ → Term → Type 0
IsApart p (term.Var v) = (p == place_of_var v) ≡ false
IsApart p (term.Word n) = Unit {0}

pub alu_is : (o : AluOp) (to : Slot) (t : Term) (s : CodeState) → IsApart (place_of to) t → On (alu_by o to t) s (alu_after o (place_of to) (alu_answer o (s.cpu.regs (place_of to)) (term_at t s) s.cpu.flags) s)
unfolding act accesses effect transfer compute
alu_is alu.Add to (term.Var v) s h rest = refl
alu_is alu.Or to (term.Var v) s h rest = refl
alu_is alu.Adc to (term.Var v) s h rest = refl
alu_is alu.And to (term.Var v) s h rest = refl
alu_is alu.Sbb to (term.Var v) s h rest = rw h refl
alu_is alu.Sub to (term.Var v) s h rest = rw h refl
alu_is alu.Xor to (term.Var v) s h rest = rw h refl
alu_is alu.Cmp to (term.Var v) s h rest = rw h refl
alu_is alu.Add to (term.Word n) s h rest = refl
alu_is alu.Or to (term.Word n) s h rest = refl
alu_is alu.Adc to (term.Word n) s h rest = refl
alu_is alu.And to (term.Word n) s h rest = refl
alu_is alu.Sbb to (term.Word n) s h rest = refl
alu_is alu.Sub to (term.Word n) s h rest = refl
alu_is alu.Xor to (term.Word n) s h rest = refl
alu_is alu.Cmp to (term.Word n) s h rest = refl

-- ---- one byte, and conditions
abbrev pub with_lowest_byte : Word → Word → Word
with_lowest_byte new old = record old { b0 = new.b0 }

pub set_is : (c : Cond) (v : Var) (s : CodeState) → On (set_if c (slot_of v)) s (with_place (place_of_var v) (with_lowest_byte (chosen (condition c s.cpu.flags) (word_of 0) (word_of 1)) (s.cpu.regs (place_of_var v))) s)
unfolding act accesses effect transfer compute cut
set_is c v s rest = refl

pub move_if_is : (c : Cond) (to from : Slot) (s : CodeState) → On (move_if c to from) s (with_place (place_of to) (chosen (condition c s.cpu.flags) (s.cpu.regs (place_of to)) (s.cpu.regs (place_of from))) s)
unfolding act accesses effect transfer compute cut
move_if_is c to from s rest = refl

pub copy_byte_is : (s : CodeState) → On (copy_byte (Fixed Eax) (Fixed Edx)) s (with_place 0 (with_lowest_byte (s.cpu.regs 2) (s.cpu.regs 0)) s)
unfolding act accesses effect transfer compute
copy_byte_is s rest = refl

pub extend_two_is : (to from : Slot) (s : CodeState) → On (extend Two to from) s (with_place (place_of to) (cut 2 (s.cpu.regs (place_of from))) s)
unfolding act accesses effect transfer compute cut
extend_two_is to from s rest = refl

-- from AL and DL
pub extend_one_is : (to : Slot) (s : CodeState) → On (extend One to (Fixed Eax)) s (with_place (place_of to) (cut 1 (s.cpu.regs 0)) s)
unfolding act accesses effect transfer compute cut
extend_one_is to s rest = refl

pub extend_dl_is : (to : Slot) (s : CodeState) → On (extend One to (Fixed Edx)) s (with_place (place_of to) (cut 1 (s.cpu.regs 2)) s)
unfolding act accesses effect transfer compute cut
extend_dl_is to s rest = refl

-- ---- shifts, products, divisions
abbrev pub shifted : ShiftOp → ℕ → Byte → CodeState → CodeState
shifted o p n s = let a = shift o 4 (s.cpu.regs p) n s.cpu.flags in with_place p a.value (with_flags a.flags s)

pub shift_is : (o : ShiftOp) (to : Slot) (s : CodeState) → On (shift_by o count.Cl to) s (shifted o (place_of to) (s.cpu.regs 1).b0 s)
unfolding act accesses effect transfer compute
shift_is o to s rest = refl

pub shift_by_is : (o : ShiftOp) (n : ℕ) (to : Slot) (s : CodeState) → On (shift_by o (count.Imm n) to) s (shifted o (place_of to) (word_of n).b0 s)
unfolding act accesses effect transfer compute
shift_by_is o n to s rest = refl

abbrev pub multiplied : Product → CodeState → CodeState
multiplied p s = with_place 2 p.high (with_place 0 p.low (with_flags p.flags s))

pub multiply_is : (signed : Bool) (from : Slot) (s : CodeState) → On (multiply_by signed from) s (multiplied (multiply signed 4 (s.cpu.regs 0) (s.cpu.regs (place_of from))) s)
unfolding act accesses effect transfer compute
multiply_is false from s rest = refl
multiply_is true from s rest = refl

-- a quotient and a remainder are written to the accumulator and to what stands above it
abbrev pub divided : Width → Word → Word → CodeState → CodeState
divided One q r s = with_place 0 (record (s.cpu.regs 0) { b0 = q.b0; b1 = r.b0 }) (with_place 0 (with_lowest_byte q (s.cpu.regs 0)) (with_flags no_flags s))
divided Two q r s = with_place 2 (record (s.cpu.regs 2) { b0 = r.b0; b1 = r.b1 }) (with_place 0 (record (s.cpu.regs 0) { b0 = q.b0; b1 = q.b1 }) (with_flags no_flags s))
divided Four q r s = with_place 2 r (with_place 0 q (with_flags no_flags s))

abbrev pub upper_of : Width → CodeState → Word
upper_of One s = padded ((s.cpu.regs 0).b1 ∷ [])
upper_of Two s = cut 2 (s.cpu.regs 2)
upper_of Four s = s.cpu.regs 2

abbrev pub division_at : Bool → Width → CodeState → Divided
division_at signed w s = divide signed (size_of w) (upper_of w s) (cut (size_of w) (s.cpu.regs 0)) (cut (size_of w) (s.cpu.regs 1))

abbrev pub after_division : Divided → Width → List Item → CodeState → Move CodePosition
after_division (divide_to.Got q r) w rest s = Go [] (standing_at (CodePoint.Inside rest) (divided w q r s))
after_division divide_to.Fault w rest s = Halt [] DivideFault
after_division divide_to.Unspecified w rest s = Halt [] Unspecified

by_division : (d : Divided) (w : Width) (x : Item) (rest : List Item) (s : CodeState) → by_loads true true (effect_of (accumulator w ∷ upper_accumulator w ∷ []) s.cpu.regs (quotient_and_remainder d)) x rest s ≡ after_division d w rest s
unfolding with_register
by_division (divide_to.Got q r) One x rest s = refl
by_division (divide_to.Got q r) Two x rest s = refl
by_division (divide_to.Got q r) Four x rest s = refl
by_division divide_to.Fault w x rest s = refl
by_division divide_to.Unspecified w x rest s = refl

pub divide_is : (signed : Bool) (w : Width) (s : CodeState) (rest : List Item) → act (named_item (divide_by signed w (Fixed Ecx))) rest s ≡ after_division (division_at signed w s) w rest s
unfolding act accesses effect transfer compute cut
divide_is false One s rest = by_division _ One _ rest s
divide_is false Two s rest = by_division _ Two _ rest s
divide_is false Four s rest = by_division _ Four _ rest s
divide_is true One s rest = by_division _ One _ rest s
divide_is true Two s rest = by_division _ Two _ rest s
divide_is true Four s rest = by_division _ Four _ rest s

-- ---- a call
pub call_is : (s : CodeState) (rest : List Item) → act (named_item (made instr.Int80 [])) rest s ≡ after_call (system_call (request_of s.cpu) s.memory s.left) rest s
unfolding act accesses effect transfer compute
call_is s rest = refl
