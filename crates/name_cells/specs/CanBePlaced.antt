-- Which code can be placed with its names in cells: what `choose` gives. All of this is own.
use Rattle.std.specs.Prelude.{◌≡◌, ◌≢◌, ℕ, ◌<◌, ◌≤◌, true, false, is_some, List, [], ◌∷◌, length, All, ◌⊎◌}
use Rattle.x86_types.specs.declared.operand.Reg.TheVariants.{Ebx}
use Rattle.x86_types.specs.declared.instr.Instr.{Instr}
use Rattle.x86_types.specs.declared.instr.Instr.TheVariants as instr
use Rattle.x86_types.specs.Numbers.{number_of_reg}
use Rattle.x86_types.specs.Registers.{RegisterField, Index, Whole, Byte}
use Rattle.field_places.specs.Fields.{Field, fields, implicit_registers}
use Rattle.named_code.specs.declared.slot.Slot.{Slot}
use Rattle.named_code.specs.declared.slot.Slot.TheVariants.{Fixed, Name}
use Rattle.named_code.specs.declared.named.VInstr.{VInstr}
use Rattle.named_code.specs.declared.named.VBlock.{VBlock}
use Rattle.named_code.specs.Items.{slot_at}
use Rattle.name_cells.specs.Holders.{last_name, is_last, borrows_ebx}

-- one of EAX, ECX, EDX and EBX, or a name that has a cell and leaves room for one more
abbrev pub IsPlaceable : Slot → Type 0
IsPlaceable (Fixed r) = number_of_reg r < 4
IsPlaceable (Name n) = n < 1540095

-- a name in a field of one byte is the last
abbrev pub FitsField : List Slot → RegisterField → Slot → Type 0
FitsField slots Index s = Unit {0}
FitsField slots Whole s = Unit {0}
FitsField slots Byte (Fixed r) = Unit {0}
FitsField slots Byte (Name n) = is_last (last_name slots) n ≡ true

-- a name is one of the slots
abbrev pub HasName : ℕ → List Slot → Type 0
HasName n [] = ⊥
HasName n (s ∷ slots) = (s ≡ Name n) ⊎ HasName n slots

-- a field is one of the first three
pub record IsFieldPlaceable (slots : List Slot) (f : Field) : Type 0 where
  pub early : number_of_reg f.register < 3
  pub fits : FitsField slots f.kind (slot_at slots f.register)

-- the next instruction follows
abbrev pub IsFalling : Instr → Type 0
IsFalling (instr.Movs w repeat) = ⊥
IsFalling (instr.Stos w repeat) = ⊥
IsFalling (instr.Jmp by) = ⊥
IsFalling (instr.JmpTo to) = ⊥
IsFalling (instr.CallTo to) = ⊥
IsFalling (instr.Jcc c by) = ⊥
IsFalling (instr.Call by) = ⊥
IsFalling (instr.Ret drop) = ⊥
IsFalling instr.Int80 = ⊥
IsFalling _ = Unit {0}

-- EBX is used neither by a slot nor without a field
pub record LeavesEbx (x : VInstr) : Type 0 where
  pub slots : All (λ s. s ≢ Fixed Ebx) x.slots
  pub implicit : All (λ n. n < 3) (implicit_registers x.instr)

pub record IsInstrPlaceable (x : VInstr) : Type 0 where
  pub few : length x.slots ≤ 3
  pub slots : All IsPlaceable x.slots
  pub by_field : All (IsFieldPlaceable x.slots) (fields x.instr)
  -- without a field it uses none but EAX, ECX, EDX and EBX
  pub implicit : All (λ n. n < 4) (implicit_registers x.instr)
  -- it has at most two names
  pub two : (n m : ℕ) → HasName n x.slots → HasName m x.slots → is_last (last_name x.slots) n ≡ false → is_last (last_name x.slots) m ≡ false → n ≡ m
  pub ebx : borrows_ebx x ≡ true → LeavesEbx x
  pub falls : is_some (last_name x.slots) ≡ true → IsFalling x.instr

abbrev pub IsBlockPlaceable : VBlock → Type 0
IsBlockPlaceable b = All IsInstrPlaceable b.code

abbrev pub CanBePlaced : List VBlock → Type 0
CanBePlaced code = All IsBlockPlaceable code
