-- Instructions over places, and blocks of them. Places 0 to 7 are the registers by number, and place 8 + n is name n. All of this is own.
use Rattle.std.specs.Prelude.{ℕ, ◌+◌, List, map, slice_get, Option, Some, None}
use Rattle.x86_types.specs.declared.operand.Reg.{Reg}
use Rattle.x86_types.specs.declared.operand.Rm.TheVariants as rm
use Rattle.x86_types.specs.declared.operand.Src.TheVariants as src
use Rattle.x86_types.specs.declared.operand.Address.{Address}
use Rattle.x86_types.specs.declared.width.Width.TheVariants.{Four}
use Rattle.x86_types.specs.declared.instr.Instr.{Instr}
use Rattle.x86_types.specs.declared.instr.Instr.TheVariants as instr
use Rattle.x86_types.specs.Numbers.{number_of_reg}
use Rattle.x86_meaning.specs.Registers.{Naming, byte_place, machine_naming}
use Rattle.named_code.specs.declared.slot.Slot.{Slot}
use Rattle.named_code.specs.declared.slot.Slot.TheVariants.{Fixed, Name}
use Rattle.named_code.specs.declared.named.VInstr.{VInstr}
use Rattle.named_code.specs.declared.named.VBlock.{VBlock}
use Rattle.named_code.specs.declared.placed.Home.{Home}
use Rattle.named_code.specs.declared.placed.PInstr.{PInstr}
use Rattle.named_code.specs.declared.placed.PInstr.TheVariants as item
use Rattle.named_code.specs.declared.placed.PBlock.{PBlock}
use Rattle.named_code.specs.declared.placed.Placed.{Placed}

-- an instruction, with the places that its register fields name
pub record Item : Type 0 where
  pub naming : Naming
  pub instr : Instr

pub record CodeBlock : Type 0 where
  pub number : ℕ
  pub at : ℕ
  pub items : List Item

-- ---- the places of slots
abbrev pub name_place : ℕ → ℕ
name_place n = 8 + n

abbrev pub place_of : Slot → ℕ
place_of (Fixed r) = number_of_reg r
place_of (Name n) = name_place n

-- a field of one byte is the lowest byte of a name
abbrev pub byte_of : Slot → ℕ × ℕ
byte_of (Fixed r) = byte_place r
byte_of (Name n) = (name_place n, 0)

-- a register for which there is no slot stands for itself
abbrev pub slot_or : Reg → Option Slot → Slot
slot_or r None = Fixed r
slot_or r (Some s) = s

abbrev pub slot_at : List Slot → Reg → Slot
slot_at slots r = slot_or r (slice_get slots (number_of_reg r))

abbrev pub naming_of : List Slot → Naming
naming_of slots = record { whole = λ r. place_of (slot_at slots r); byte = λ r. byte_of (slot_at slots r) }

-- ---- named code
abbrev pub named_item : VInstr → Item
named_item i = record { naming = naming_of i.slots; instr = i.instr }

abbrev pub named_block : VBlock → CodeBlock
named_block b = record { number = b.number; at = b.at; items = map named_item b.code }

abbrev pub named_blocks : List VBlock → List CodeBlock
named_blocks code = map named_block code

-- ---- placed code: each field names its register
abbrev pub own_item : Instr → Item
own_item i = record { naming = machine_naming; instr = i }

-- a MOV of a word, from and to the memory at an address
abbrev pub word_at : ℕ → Address
word_at at = record { base = None; index = None; scale = 1; disp = at }

abbrev pub fetch_from : ℕ → Reg → Item
fetch_from cell r = own_item (instr.Mov Four (rm.Reg r) (src.Mem (word_at cell)))

abbrev pub keep_to : ℕ → Reg → Item
keep_to cell r = own_item (instr.Mov Four (rm.Mem (word_at cell)) (src.Reg r))

-- the cell of a name, where it has a home, and else 0, at which nothing is mapped
abbrev pub cell_or : Option Home → ℕ
cell_or None = 0
cell_or (Some h) = h.cell

abbrev pub cell_of : List Home → ℕ → ℕ
cell_of homes n = cell_or (slice_get homes n)

abbrev pub placed_item : List Home → PInstr → Item
placed_item homes (item.Own i) = own_item i
placed_item homes (item.Fetch n r) = fetch_from (cell_of homes n) r
placed_item homes (item.Keep n r) = keep_to (cell_of homes n) r

abbrev pub placed_block : List Home → PBlock → CodeBlock
placed_block homes b = record { number = b.number; at = b.at; items = map (placed_item homes) b.code }

abbrev pub placed_blocks : Placed → List CodeBlock
placed_blocks p = map (placed_block p.homes) p.blocks
