-- The laws of code whose names live in cells.
use Rattle.std.specs.Prelude.{◌≡◌, ◌≢◌, ℕ, ◌≤◌, ◌<◌, Bool, List, [], ◌++◌, length, map, All, Option}
use Rattle.traces.specs.Steps.{Reaches}
use Rattle.x86_values.specs.declared.word.Word.{Word}
use Rattle.x86_values.specs.declared.word.Flags.{Flags}
use Rattle.memory.specs.Memory.{Memory}
use Rattle.x86_types.specs.Numbers.{number_of_reg}
use Rattle.x86_types.specs.Registers.{renamed}
use Rattle.x86_meaning.specs.Registers.{Registers, machine_naming}
use Rattle.x86_meaning.specs.Effect.{accesses, effect}
use Rattle.field_places.specs.Pairs.{ResultsAlike}
use Rattle.field_places.specs.FieldPlaceLaws.{processor}
use Rattle.private_memory.specs.PrivateArea.{IsApartAccess, HasPrivateArea}
use Rattle.named_code.specs.declared.slot.Slot.{Slot}
use Rattle.named_code.specs.declared.named.VInstr.{VInstr}
use Rattle.named_code.specs.Items.{Item, CodeBlock, naming_of, named_item, placed_item}
use Rattle.named_code.specs.Running.{CodeState, Marks}
use Rattle.named_code.specs.TestedRun.{item_accesses}
use Rattle.name_cells.specs.Cells.{homes_of}
use Rattle.name_cells.specs.Holders.{has_byte_field, last_name, holder}
use Rattle.name_cells.specs.CanBePlaced.{HasName, IsInstrPlaceable}
use Rattle.name_cells.specs.Pairs.{pairs_of, own_renaming, HoldAlike}
use Rattle.name_cells.specs.Placing.{fetches, keeps, place_instr}
use Rattle.name_cells.specs.Living.{clear_next, before_items, LiveInCells, ItemsRun}
use Rattle.name_cells.specs.OwnSteps.{MissCells, StandsBeside, RunAlike}
use Rattle.name_cells.specs.MovedNames.{StandsIn, with_fetched, with_kept, HaveCells, StandsBefore}

pub record CellLaws : Type 0 where
  -- an instruction is placed as itself and at most eight MOVs
  pub few_items : (spare : ℕ) (x : VInstr) → IsInstrPlaceable x → length (place_instr spare x) ≤ 9
  -- its own item makes its accesses, and has its effect over the registers that hold its names
  pub own_accesses : (x : VInstr) (r q : Registers) → IsInstrPlaceable x → HoldAlike x r q → accesses (naming_of x.slots) x.instr r ≡ accesses machine_naming (renamed (own_renaming x) x.instr) q
  pub own_effect : (x : VInstr) (next : ℕ) (flags : Flags) (r q : Registers) (m : Memory) → IsInstrPlaceable x → HoldAlike x r q
      → ResultsAlike (pairs_of x) r q (effect (naming_of x.slots) x.instr next (processor r flags) m) (effect machine_naming (renamed (own_renaming x) x.instr) next (processor q flags) m)
  -- over a memory in which the cells lie it runs as the instruction does, where that misses the cells
  pub own_step : (x : VInstr) (rest rest' : List Item) (s t : CodeState) → IsInstrPlaceable x → StandsBeside x s t → MissCells (accesses (naming_of x.slots) x.instr s.cpu.regs) s.memory → RunAlike x rest rest' s t
  -- the MOVs before it run to the state in which its names stand in their registers, and those behind it to that in which they stand in
  -- their cells
  pub fetches_run : (marks : Marks) (code : List CodeBlock) (count : ℕ) (byte : Bool) (last : Option ℕ) (slots : List Slot) (rest : List Item) (t : CodeState) → count ≤ 1540096 → HaveCells count slots → HasPrivateArea t.memory
      → Reaches (clear_next marks code) (before_items (map (placed_item (homes_of count)) (fetches byte last slots) ++ rest) t) (length (fetches byte last slots)) [] (before_items rest (with_fetched byte last slots t))
  pub keeps_run : (marks : Marks) (code : List CodeBlock) (count : ℕ) (byte : Bool) (last : Option ℕ) (slots : List Slot) (rest : List Item) (t : CodeState) → count ≤ 1540096 → HaveCells count slots → HasPrivateArea t.memory
      → Reaches (clear_next marks code) (before_items (map (placed_item (homes_of count)) (keeps byte last slots) ++ rest) t) (length (keeps byte last slots)) [] (before_items rest (with_kept byte last slots t))
  -- so its own item finds what the instruction finds
  pub fetched_alike : (x : VInstr) (r : Registers) (t : CodeState) → IsInstrPlaceable x → StandsBefore x r t → HoldAlike x r (with_fetched (has_byte_field x.instr) (last_name x.slots) x.slots t).cpu.regs
  -- and then each of its names stands in its cell, and each other name stays in its own
  pub kept_there : (x : VInstr) (t : CodeState) (n : ℕ) → IsInstrPlaceable x → HaveCells 1540096 x.slots → HasPrivateArea t.memory → HasName n x.slots
      → StandsIn (with_kept (has_byte_field x.instr) (last_name x.slots) x.slots t).memory n (t.cpu.regs (number_of_reg (holder (has_byte_field x.instr) (last_name x.slots) n)))
  pub kept_elsewhere : (x : VInstr) (t : CodeState) (n : ℕ) (w : Word) → HaveCells 1540096 x.slots → n < 1540096 → ((m : ℕ) → HasName m x.slots → m ≢ n) → StandsIn t.memory n w
      → StandsIn (with_kept (has_byte_field x.instr) (last_name x.slots) x.slots t).memory n w
  -- So an instruction's items run as the instruction does: where its accesses are apart, those of its items are clear, and the run ends so,
  -- or both go on to states beside each other again
  pub items_run : (marks : Marks) (code : List CodeBlock) (count : ℕ) (x : VInstr) (rest rest' : List Item) (s t : CodeState) → IsInstrPlaceable x → count ≤ 1540095 → HaveCells count x.slots → LiveInCells count s t
      → All (IsApartAccess s.memory) (item_accesses (named_item x) s) → ItemsRun marks code count x rest rest' s t
