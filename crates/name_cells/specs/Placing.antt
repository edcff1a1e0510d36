-- Placed code in which each name lives in its cell: an instruction is that with registers in its slots, behind a MOV of each of its
-- names from its cell and before a MOV of each back. All of this is own.
use Rattle.std.specs.Prelude.{ℕ, ◌+◌, Bool, cond, List, [], ◌∷◌, ◌++◌, map, flat_map, Option}
use Rattle.x86_types.specs.declared.operand.Reg.TheVariants.{Ebx}
use Rattle.x86_types.specs.Registers.{renamed}
use Rattle.named_code.specs.declared.slot.Slot.{Slot}
use Rattle.named_code.specs.declared.slot.Slot.TheVariants.{Fixed, Name}
use Rattle.named_code.specs.declared.named.VInstr.{VInstr}
use Rattle.named_code.specs.declared.named.VBlock.{VBlock}
use Rattle.named_code.specs.declared.placed.PInstr.{PInstr}
use Rattle.named_code.specs.declared.placed.PInstr.TheVariants as item
use Rattle.named_code.specs.declared.placed.PBlock.{PBlock}
use Rattle.named_code.specs.declared.placed.Placed.{Placed}
use Rattle.name_cells.specs.Cells.{homes_of, name_count}
use Rattle.name_cells.specs.Holders.{last_name, has_byte_field, holder, field_registers, borrows_ebx}
use Rattle.name_cells.specs.Renaming.{by_registers}

abbrev pub fetch_slot : Bool → Option ℕ → Slot → List PInstr
fetch_slot byte last (Fixed r) = []
fetch_slot byte last (Name n) = item.Fetch n (holder byte last n) ∷ []

abbrev pub keep_slot : Bool → Option ℕ → Slot → List PInstr
keep_slot byte last (Fixed r) = []
keep_slot byte last (Name n) = item.Keep n (holder byte last n) ∷ []

abbrev pub fetches : Bool → Option ℕ → List Slot → List PInstr
fetches byte last slots = flat_map (fetch_slot byte last) slots

abbrev pub keeps : Bool → Option ℕ → List Slot → List PInstr
keeps byte last slots = flat_map (keep_slot byte last) slots

abbrev pub own : VInstr → PInstr
own x = item.Own (renamed (by_registers (field_registers (has_byte_field x.instr) x.slots)) x.instr)

-- EBX stands in the spare cell while it is borrowed
abbrev pub lend : Bool → ℕ → List PInstr
lend borrows spare = cond borrows (item.Keep spare Ebx ∷ []) []

abbrev pub give_back : Bool → ℕ → List PInstr
give_back borrows spare = cond borrows (item.Fetch spare Ebx ∷ []) []

abbrev pub place_instr : ℕ → VInstr → List PInstr
place_instr spare x =
    let byte = has_byte_field x.instr in
    let last = last_name x.slots in
    lend (borrows_ebx x) spare ++ (fetches byte last x.slots ++ own x ∷ (keeps byte last x.slots ++ give_back (borrows_ebx x) spare))

abbrev pub place_instrs : ℕ → List VInstr → List PInstr
place_instrs spare xs = flat_map (place_instr spare) xs

abbrev pub place_block : ℕ → VBlock → PBlock
place_block spare b = record { number = b.number; at = b.at; code = place_instrs spare b.code }

-- the spare cell follows those of the names
abbrev pub cells_of : List VBlock → Placed
cells_of code = record { homes = homes_of (name_count code + 1); blocks = map (place_block (name_count code)) code }
