-- What instructions compute from the operands that they read: the values that they write, the flags, and how the run goes on; or a
-- stop (Intel SDM volume 2, "Operation" and "Flags Affected" of each instruction). Nothing here knows of registers or memory.
use Rattle.std.specs.Prelude.{ℕ, ◌+◌, Bool, true, false, List, [], ◌∷◌, Option, Some, None, Result, Ok, Err}
use Rattle.x86_values.specs.declared.word.Word.{Word}
use Rattle.x86_values.specs.declared.word.Flags.{Flags}
use Rattle.x86_values.specs.declared.answered.Answered.{Answered}
use Rattle.x86_values.specs.declared.logic.Bit.TheVariants as bit
use Rattle.x86_values.specs.declared.product.Product.{Product}
use Rattle.x86_values.specs.declared.divided.Divided.{Divided}
use Rattle.x86_values.specs.declared.divided.Divided.TheVariants as divided
use Rattle.x86_values.specs.Words.{word_of, known}
use Rattle.x86_values.specs.Sizes.{cut, no_word}
use Rattle.x86_values.specs.Sums.{add, sub}
use Rattle.x86_values.specs.Logic.{bitwise}
use Rattle.x86_values.specs.Shifts.{shift}
use Rattle.x86_values.specs.DoubleShifts.{double_shift}
use Rattle.x86_values.specs.Products.{multiply}
use Rattle.x86_values.specs.Divisions.{divide}
use Rattle.x86_values.specs.Scans.{scan}
use Rattle.x86_values.specs.Extensions.{sign_extended, sign_word, bytes_swapped}
use Rattle.x86_values.specs.Results.{no_flags}
use Rattle.x86_types.specs.declared.operation.AluOp.{AluOp}
use Rattle.x86_types.specs.declared.operation.AluOp.TheVariants as alu
use Rattle.x86_types.specs.declared.operation.ShiftOp.{ShiftOp}
use Rattle.x86_meaning.specs.declared.stop.Stop.{Stop}
use Rattle.x86_meaning.specs.declared.stop.Stop.TheVariants.{DivideFault, Unspecified}

-- how a step goes on: to the next instruction; by so much from there; to an address; to the same instruction again; or through a
-- system call
pub data Way : Type 0 where
  Falls : Way
  JumpsBy : (by : ℕ) → Way
  JumpsTo : (target : ℕ) → Way
  Repeats : Way
  Calls : Way

-- a value for each operand that is written, in order
pub record Computed : Type 0 where
  pub values : List Word
  pub flags : Flags
  pub way : Way

abbrev pub Computation : Type 0
Computation = Result Computed Stop

-- ---- outcomes
abbrev pub computed : List Word → Flags → Way → Computation
computed values flags way = Ok (record { values = values; flags = flags; way = way })

-- values alone: the flags stay, and the next instruction follows
abbrev pub values_alone : List Word → Flags → Computation
values_alone values flags = computed values flags Falls

-- a value and its flags
abbrev pub value_and_flags : Answered → Computation
value_and_flags a = computed (a.value ∷ []) a.flags Falls

abbrev pub flags_alone : Answered → Computation
flags_alone a = computed [] a.flags Falls

abbrev pub goes : Way → Flags → Computation
goes way flags = computed [] flags way

-- to an address that has to be known (own)
abbrev pub goes_to : List Word → Option ℕ → Flags → Computation
goes_to values None flags = Err Unspecified
goes_to values (Some target) flags = computed values flags (JumpsTo target)

-- ---- by how many operands were read; no instruction reads another number
abbrev pub on_one : (Word → Computation) → List Word → Computation
on_one f (x ∷ []) = f x
on_one f _ = Err Unspecified

abbrev pub on_two : (Word → Word → Computation) → List Word → Computation
on_two f (x ∷ y ∷ []) = f x y
on_two f _ = Err Unspecified

abbrev pub on_three : (Word → Word → Word → Computation) → List Word → Computation
on_three f (x ∷ y ∷ z ∷ []) = f x y z
on_three f _ = Err Unspecified

-- ---- addresses that rise and fall
abbrev pub raised_by : ℕ → Word → Word
raised_by n w = (add 4 w (word_of n) (Some false)).value

abbrev pub lowered_by : ℕ → Word → Word
lowered_by n w = (sub 4 w (word_of n) (Some false)).value

-- ---- ADD to CMP
abbrev pub alu_computed : AluOp → ℕ → Flags → Word → Word → Computation
alu_computed alu.Add size f x y = value_and_flags (add size x y (Some false))
alu_computed alu.Or size f x y = value_and_flags (bitwise bit.Or size x y)
alu_computed alu.Adc size f x y = value_and_flags (add size x y f.cf)
alu_computed alu.Sbb size f x y = value_and_flags (sub size x y f.cf)
alu_computed alu.And size f x y = value_and_flags (bitwise bit.And size x y)
alu_computed alu.Sub size f x y = value_and_flags (sub size x y (Some false))
alu_computed alu.Xor size f x y = value_and_flags (bitwise bit.Xor size x y)
alu_computed alu.Cmp size f x y = flags_alone (sub size x y (Some false))

abbrev pub test_computed : ℕ → Word → Word → Computation
test_computed size x y = flags_alone (bitwise bit.And size x y)

-- INC and DEC keep CF
abbrev pub with_carry : Option Bool → Answered → Answered
with_carry carry a = record a { flags = record a.flags { cf = carry } }

abbrev pub inc_computed : ℕ → Flags → Word → Computation
inc_computed size f x = value_and_flags (with_carry f.cf (add size x (word_of 1) (Some false)))

abbrev pub dec_computed : ℕ → Flags → Word → Computation
dec_computed size f x = value_and_flags (with_carry f.cf (sub size x (word_of 1) (Some false)))

abbrev pub not_computed : ℕ → Flags → Word → Computation
not_computed size f x = values_alone ((bitwise bit.Xor size x (word_of 0xFFFFFFFF)).value ∷ []) f

abbrev pub neg_computed : ℕ → Word → Computation
neg_computed size x = value_and_flags (sub size (word_of 0) x (Some false))

-- ---- products and divisions
abbrev pub both_halves : Product → Computation
both_halves p = computed (p.low ∷ p.high ∷ []) p.flags Falls

abbrev pub lower_half : Product → Computation
lower_half p = computed (p.low ∷ []) p.flags Falls

abbrev pub mul_computed : Bool → ℕ → Word → Word → Computation
mul_computed signed size x y = both_halves (multiply signed size x y)

abbrev pub imul_computed : ℕ → Word → Word → Computation
imul_computed size x y = lower_half (multiply true size x y)

-- all flags are unspecified after a division
abbrev pub quotient_and_remainder : Divided → Computation
quotient_and_remainder (divided.Got q r) = computed (q ∷ r ∷ []) no_flags Falls
quotient_and_remainder divided.Fault = Err DivideFault
quotient_and_remainder divided.Unspecified = Err Unspecified

abbrev pub div_computed : Bool → ℕ → Word → Word → Word → Computation
div_computed signed size high low by = quotient_and_remainder (divide signed size high low by)

-- ---- shifts: the count is the lowest byte of its operand
abbrev pub shift_computed : ShiftOp → ℕ → Flags → Word → Word → Computation
shift_computed op size f x n = value_and_flags (shift op size x n.b0 f)

abbrev pub double_shift_computed : Bool → Flags → Word → Word → Word → Computation
double_shift_computed right f x filler n = value_and_flags (double_shift right x filler n.b0 f)

-- ---- the stack
abbrev pub push_computed : Flags → Word → Word → Computation
push_computed f e x = values_alone (x ∷ lowered_by 4 e ∷ []) f

abbrev pub pop_computed : Flags → Word → Word → Computation
pop_computed f e x = values_alone (raised_by 4 e ∷ x ∷ []) f

-- the return address is pushed
abbrev pub call_computed : ℕ → ℕ → Flags → Word → Computation
call_computed by next f e = computed (word_of next ∷ lowered_by 4 e ∷ []) f (JumpsBy by)

abbrev pub call_to_computed : ℕ → Flags → Word → Word → Computation
call_to_computed next f e x = goes_to (word_of next ∷ lowered_by 4 e ∷ []) (known x) f

abbrev pub ret_computed : ℕ → Flags → Word → Word → Computation
ret_computed drop f e x = goes_to (raised_by (4 + drop) e ∷ []) (known x) f

-- ---- moves and jumps
abbrev pub jump_to_computed : Flags → Word → Computation
jump_to_computed f x = goes_to [] (known x) f

abbrev pub move_computed : Flags → Word → Computation
move_computed f x = values_alone (x ∷ []) f

abbrev pub exchange_computed : Flags → Word → Word → Computation
exchange_computed f x y = values_alone (y ∷ x ∷ []) f

abbrev pub extend_computed : ℕ → ℕ → Flags → Word → Computation
extend_computed wide size f x = values_alone (cut wide (sign_extended size x) ∷ []) f

abbrev pub spread_computed : ℕ → Flags → Word → Computation
spread_computed size f x = values_alone (sign_word size x ∷ []) f

abbrev pub scan_computed : Bool → ℕ → Word → Computation
scan_computed reverse size x = value_and_flags (scan reverse size x)

abbrev pub swap_computed : Flags → Word → Computation
swap_computed f x = values_alone (bytes_swapped x ∷ []) f

-- ---- conditions; one that reads an unspecified flag makes the result unspecified, and ends a jump (own)
abbrev pub chosen : Option Bool → Word → Word → Word
chosen None x y = no_word
chosen (Some true) x y = y
chosen (Some false) x y = x

abbrev pub picked : ℕ → Option Bool → Word → Word → Word
picked size holds x y = cut size (chosen holds x y)

abbrev pub cmov_computed : ℕ → Option Bool → Flags → Word → Word → Computation
cmov_computed size holds f x y = values_alone (picked size holds x y ∷ []) f

abbrev pub set_computed : Option Bool → Flags → Computation
set_computed holds f = values_alone (picked 1 holds (word_of 0) (word_of 1) ∷ []) f

abbrev pub jump_computed : Option Bool → ℕ → Flags → Computation
jump_computed None by f = Err Unspecified
jump_computed (Some true) by f = goes (JumpsBy by) f
jump_computed (Some false) by f = goes Falls f

-- ---- strings: ESI and EDI rise, and with a repeat ECX falls and the instruction comes again, until ECX is 0 and nothing is read
abbrev pub movs_computed : ℕ → Flags → List Word → Computation
movs_computed size f (x ∷ si ∷ di ∷ []) = values_alone (x ∷ raised_by size si ∷ raised_by size di ∷ []) f
movs_computed size f (x ∷ si ∷ di ∷ cx ∷ []) = computed (x ∷ raised_by size si ∷ raised_by size di ∷ lowered_by 1 cx ∷ []) f Repeats
movs_computed size f _ = values_alone [] f

abbrev pub stos_computed : ℕ → Flags → List Word → Computation
stos_computed size f (x ∷ di ∷ []) = values_alone (x ∷ raised_by size di ∷ []) f
stos_computed size f (x ∷ di ∷ cx ∷ []) = computed (x ∷ raised_by size di ∷ lowered_by 1 cx ∷ []) f Repeats
stos_computed size f _ = values_alone [] f
