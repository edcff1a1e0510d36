-- How many steps of the written file an instruction over names takes. All of this is own.
use Rattle.std.specs.Prelude.{ℕ, ◌+◌, ◌*◌, ◌==◌, ◌&&◌, not, Bool, cond, ltb}
use Rattle.x86_types.specs.declared.operand.Reg.TheVariants.{Eax, Ecx, Edx}
use Rattle.x86_meaning.specs.Registers.{Naming}
use Rattle.named_code.specs.Items.{Item}
use Rattle.name_cells.specs.Holders.{has_byte_field}
use Rattle.laid_code.specs.LaidRun.{instr_steps}

-- ---- a MOV of each name from its cell, and one back
-- places 0 to 7 are the registers
abbrev pub count_of_place : ℕ → ℕ
count_of_place p = cond (ltb p 8) 0 1

-- how many of the fields that hold EAX, ECX and EDX hold names
abbrev pub named_fields : Naming → ℕ
named_fields names = count_of_place (names.whole Eax) + count_of_place (names.whole Ecx) + count_of_place (names.whole Edx)

-- EBX stands in the spare cell while a name borrows it
abbrev pub lent_count : Bool → ℕ → ℕ
lent_count byte names = cond (byte && not (names == 0)) 1 0

abbrev pub move_count : Item → ℕ
move_count x = let names = named_fields x.naming in 2 * (names + lent_count (has_byte_field x.instr) names)

abbrev pub steps : Item → ℕ
steps x = instr_steps x.instr + move_count x
