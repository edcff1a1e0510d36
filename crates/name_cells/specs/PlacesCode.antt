-- What code with its names in cells promises. All of this is own.
use Rattle.std.specs.Prelude.{◌≡◌, ℕ, ◌≤◌, List, map}
use Rattle.outside.specs.Environment.{Environment, IsEnvironment}
use Rattle.traces.specs.Turns.{RefinesByTurns}
use Rattle.memory.specs.Memory.{Memory, HasBytes}
use Rattle.x86_meaning.specs.Run.{IsStart}
use Rattle.private_memory.specs.PrivateArea.{IsUsual}
use Rattle.named_code.specs.declared.named.VInstr.{VInstr}
use Rattle.named_code.specs.declared.named.VBlock.{VBlock}
use Rattle.named_code.specs.declared.placed.Placed.{Placed}
use Rattle.named_code.specs.Items.{Item, named_item, named_blocks, placed_item, placed_blocks}
use Rattle.named_code.specs.Running.{Marks}
use Rattle.named_code.specs.ApartRun.{apart_run}
use Rattle.named_code.specs.ClearRun.{clear_run}
use Rattle.named_code.specs.Form.{IsCodeInForm}
use Rattle.named_code.specs.PlacedForm.{IsPlacedInForm}
use Rattle.named_code.specs.Weight.{items_cost, BoundsCode}
use Rattle.name_cells.specs.Cells.{name_count}
use Rattle.name_cells.specs.Placing.{place_instr, cells_of}
use Rattle.name_cells.specs.CanBePlaced.{IsInstrPlaceable, CanBePlaced}

-- ---- the blocks have the same numbers and old addresses
abbrev pub HasBlocksOf : List VBlock → Placed → Type 0
HasBlocksOf code p = map {B = ℕ × ℕ} (λ b. (b.number, b.at)) p.blocks ≡ map (λ b. (b.number, b.at)) code

-- ---- each turn of the code has so many steps at most
abbrev pub HasShortTurns : Marks → List VBlock → Type 0
HasShortTurns marks code = (rest : ℕ → ℕ) × (w : ℕ) × BoundsCode marks (λ x. 1) rest w (named_blocks code)

-- ---- over every usual memory, from every start, the placed code does by turns what the code does, where the code's turns are short and
-- its accesses are apart; and then its own are clear
abbrev pub KeepsCode : List VBlock → Placed → Type 0
KeepsCode code p =
    (marks : Marks) (m : Memory) (entry esp0 : ℕ) (stack : List ℕ) (left : Environment) → HasShortTurns marks code → HasBytes m → IsUsual esp0 m → IsStart esp0 stack → IsEnvironment left →
    RefinesByTurns (apart_run marks code m entry esp0 stack left) (clear_run marks p m entry esp0 stack left)

-- ---- a turn costs what its instructions become
abbrev pub CostsAsCode : List VBlock → Placed → Type 0
CostsAsCode code p =
    (marks : Marks) (c d : Item → ℕ) (rest : ℕ → ℕ) (w : ℕ) → ((x : VInstr) → IsInstrPlaceable x → items_cost c (map (placed_item p.homes) (place_instr (name_count code) x)) ≤ d (named_item x)) →
    BoundsCode marks d rest w (named_blocks code) → BoundsCode marks c rest w (placed_blocks p)

pub record PlacesCode (code : List VBlock) (p : Placed) : Type 0 where
  pub form : IsCodeInForm code → IsPlacedInForm p
  pub ats : HasBlocksOf code p
  pub keeps : KeepsCode code p
  pub costs : CostsAsCode code p

abbrev pub PlacingLaw : Type 0
PlacingLaw = (code : List VBlock) → CanBePlaced code → PlacesCode code (cells_of code)
