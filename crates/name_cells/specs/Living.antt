-- Named code beside placed code whose names live in cells, before an instruction and after it. All of this is own.
use Rattle.std.specs.Prelude.{◌≡◌, ◌⊎◌, ℕ, ◌+◌, ◌<◌, ◌≤◌, List, [], ◌∷◌, ◌++◌, map, Ok}
use Rattle.traces.specs.Trace.{End, Move, Go, Halt}
use Rattle.traces.specs.Steps.{Reaches}
use Rattle.x86_meaning.specs.Effect.{Effect, effect}
use Rattle.private_memory.specs.PrivateArea.{is_clear_access, HasPrivateArea}
use Rattle.named_code.specs.declared.named.VInstr.{VInstr}
use Rattle.named_code.specs.Items.{Item, CodeBlock, name_place, naming_of, named_item, placed_item}
use Rattle.named_code.specs.Running.{CodeState, CodePosition, Inside, Marks, standing_at, act, onward, performed}
use Rattle.named_code.specs.TestedRun.{tested_next}
use Rattle.name_cells.specs.Cells.{homes_of}
use Rattle.name_cells.specs.Placing.{own, place_instr}
use Rattle.name_cells.specs.MovedNames.{StandsIn}
use Rattle.name_cells.specs.OwnSteps.{SameButCells, placed_own}

-- the machine of placed code, which ends at an access that isn't clear
abbrev pub clear_next : Marks → List CodeBlock → CodePosition → Move CodePosition
clear_next marks code = tested_next is_clear_access marks code

-- before these items, in a state
abbrev pub before_items : List Item → CodeState → CodePosition
before_items items t = standing_at (Inside items) t

-- EAX, ECX, EDX, EBX and ESP and the flags are the same, so many names stand in their cells, and all else is the same
pub record LiveInCells (count : ℕ) (s t : CodeState) : Type 0 where
  pub registers : (k : ℕ) → k < 5 → s.cpu.regs k ≡ t.cpu.regs k
  pub flags : s.cpu.flags ≡ t.cpu.flags
  pub names : (n : ℕ) → n < count → StandsIn t.memory n (s.cpu.regs (name_place n))
  pub memory : SameButCells s.memory t.memory
  pub area : HasPrivateArea t.memory
  pub left : s.left ≡ t.left

module _ (marks : Marks) (code : List CodeBlock) (count : ℕ) (x : VInstr) (rest rest' : List Item) (s t : CodeState) where
  -- where the items of the instruction begin
  abbrev pub placed_start : CodePosition
  placed_start = before_items (map (placed_item (homes_of (count + 1))) (place_instr count x) ++ rest') t

  -- the instruction ends the run, and so does one of its items, before anything is shown
  pub record ItemsEnd : Type 0 where
    pub end : End
    pub named : act (named_item x) rest s ≡ Halt [] end
    pub steps : ℕ
    pub position : CodePosition
    pub reaches : Reaches (clear_next marks code) placed_start steps [] position
    pub placed : clear_next marks code position ≡ Halt [] end

  -- the next instruction follows, and its items follow those of this one
  pub record ItemsFall : Type 0 where
    pub state : CodeState
    pub named : act (named_item x) rest s ≡ Go [] (before_items rest state)
    pub steps : ℕ
    pub some : 1 ≤ steps
    pub state' : CodeState
    pub reaches : Reaches (clear_next marks code) placed_start steps [] (before_items rest' state')
    pub living : LiveInCells count state state'

  -- an instruction without names: it has one item, and both go on the same way
  pub record ItemGoes : Type 0 where
    pub alone : place_instr count x ≡ own x ∷ []
    pub left : Effect
    pub right : Effect
    pub is_left : effect (naming_of x.slots) x.instr 0 s.cpu s.memory ≡ Ok left
    pub same : left.way ≡ right.way
    pub named : act (named_item x) rest s ≡ onward left.way (named_item x) rest (performed left s)
    pub placed : clear_next marks code placed_start ≡ onward right.way (placed_own x) rest' (performed right t)
    pub living : LiveInCells count (performed left s) (performed right t)

  abbrev pub ItemsRun : Type 0
  ItemsRun = ItemsEnd ⊎ ItemsFall ⊎ ItemGoes
