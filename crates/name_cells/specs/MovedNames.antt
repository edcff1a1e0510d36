-- What the MOVs beside an instruction do: names come from their cells to registers, and go back. All of this is own.
use Rattle.std.specs.Prelude.{◌≡◌, ℕ, ◌<◌, Bool, true, List, [], ◌∷◌, Option}
use Rattle.x86_values.specs.declared.word.Word.{Word}
use Rattle.x86_values.specs.Words.{word_list, padded}
use Rattle.memory.specs.Memory.{Memory, bytes_at, put_all}
use Rattle.x86_types.specs.declared.operand.Reg.{Reg}
use Rattle.x86_types.specs.Numbers.{number_of_reg}
use Rattle.x86_meaning.specs.Registers.{Registers, with_register}
use Rattle.named_code.specs.declared.slot.Slot.{Slot}
use Rattle.named_code.specs.declared.slot.Slot.TheVariants.{Fixed, Name}
use Rattle.named_code.specs.declared.named.VInstr.{VInstr}
use Rattle.named_code.specs.Items.{name_place}
use Rattle.named_code.specs.Running.{CodeState}
use Rattle.name_cells.specs.Cells.{cell_at}
use Rattle.name_cells.specs.Holders.{holder, borrows_ebx}
use Rattle.name_cells.specs.CanBePlaced.{HasName}

-- a word stands in a name's cell
abbrev pub StandsIn : Memory → ℕ → Word → Type 0
StandsIn m n w = bytes_at m (cell_at n) 4 ≡ word_list w

-- ---- one MOV
abbrev pub fetched : ℕ → Reg → CodeState → CodeState
fetched n r t = record t { cpu = record t.cpu { regs = with_register (number_of_reg r) (padded (bytes_at t.memory (cell_at n) 4)) t.cpu.regs } }

abbrev pub kept : ℕ → Reg → CodeState → CodeState
kept n r t = record t { memory = put_all (cell_at n) (word_list (t.cpu.regs (number_of_reg r))) t.memory }

-- ---- those of the names in slots, in order
abbrev pub with_fetched : Bool → Option ℕ → List Slot → CodeState → CodeState
with_fetched byte last [] t = t
with_fetched byte last (Fixed r ∷ slots) t = with_fetched byte last slots t
with_fetched byte last (Name n ∷ slots) t = with_fetched byte last slots (fetched n (holder byte last n) t)

abbrev pub with_kept : Bool → Option ℕ → List Slot → CodeState → CodeState
with_kept byte last [] t = t
with_kept byte last (Fixed r ∷ slots) t = with_kept byte last slots t
with_kept byte last (Name n ∷ slots) t = with_kept byte last slots (kept n (holder byte last n) t)

-- so many names have cells
abbrev pub HaveCells : ℕ → List Slot → Type 0
HaveCells count slots = (n : ℕ) → HasName n slots → n < count

-- before an instruction: its registers hold the same on both sides, and its names stand in their cells
pub record StandsBefore (x : VInstr) (r : Registers) (t : CodeState) : Type 0 where
  pub registers : (k : ℕ) → k < 4 → (borrows_ebx x ≡ true → k < 3) → r k ≡ t.cpu.regs k
  pub names : (n : ℕ) → HasName n x.slots → StandsIn t.memory n (r (name_place n))
