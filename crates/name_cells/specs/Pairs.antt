-- The places that an instruction and its own item use, in pairs. All of this is own.
use Rattle.std.specs.Prelude.{◌≡◌, ℕ, ◌<◌, Bool, true, cond, [], ◌∷◌, ◌++◌, flat_map, Option}
use Rattle.x86_types.specs.Numbers.{number_of_reg}
use Rattle.x86_types.specs.Registers.{Renaming}
use Rattle.x86_meaning.specs.Registers.{Registers, Naming, machine_naming}
use Rattle.field_places.specs.Pairs.{Pairs, renamed_naming}
use Rattle.named_code.specs.declared.slot.Slot.{Slot}
use Rattle.named_code.specs.declared.slot.Slot.TheVariants.{Fixed, Name}
use Rattle.named_code.specs.declared.named.VInstr.{VInstr}
use Rattle.named_code.specs.Items.{name_place}
use Rattle.name_cells.specs.Holders.{has_byte_field, last_name, holder, field_registers, borrows_ebx}
use Rattle.name_cells.specs.CanBePlaced.{HasName}
use Rattle.name_cells.specs.Renaming.{by_registers}

abbrev pub slot_pair : Bool → Option ℕ → Slot → Pairs
slot_pair byte last (Fixed r) = []
slot_pair byte last (Name n) = (name_place n, number_of_reg (holder byte last n)) ∷ []

-- EAX, ECX and EDX with themselves, EBX too where it isn't borrowed, and each name with the register that holds it
abbrev pub pairs_of : VInstr → Pairs
pairs_of x = (0, 0) ∷ (1, 1) ∷ (2, 2) ∷ (cond (borrows_ebx x) [] ((3, 3) ∷ []) ++ flat_map (slot_pair (has_byte_field x.instr) (last_name x.slots)) x.slots)

-- the registers of the own item's fields
abbrev pub own_renaming : VInstr → Renaming
own_renaming x = by_registers (field_registers (has_byte_field x.instr) x.slots)

-- the places that the fields of the own item name
abbrev pub own_naming : VInstr → Naming
own_naming x = renamed_naming (own_renaming x) machine_naming

-- the registers of the named code and those of the placed code hold the same, as far as the instruction uses them
pub record HoldAlike (x : VInstr) (r q : Registers) : Type 0 where
  pub registers : (k : ℕ) → k < 4 → (borrows_ebx x ≡ true → k < 3) → r k ≡ q k
  pub names : (n : ℕ) → HasName n x.slots → r (name_place n) ≡ q (number_of_reg (holder (has_byte_field x.instr) (last_name x.slots) n))
