-- How an own item runs beside its instruction, over a memory in which the cells lie. All of this is own.
use Rattle.std.specs.Prelude.{◌≡◌, ◌⊎◌, ℕ, ◌<◌, true, List, [], ◌∷◌, Ok}
use Rattle.traces.specs.Trace.{End, Halt}
use Rattle.x86_values.specs.declared.word.Word.{Word}
use Rattle.memory.specs.Memory.{Memory, allows_all, kind_of, SameOutside, AreApart}
use Rattle.x86_types.specs.Registers.{renamed}
use Rattle.x86_meaning.specs.Operands.{Access}
use Rattle.x86_meaning.specs.Effect.{Effect, effect}
use Rattle.private_memory.specs.PrivateArea.{HasPrivateArea}
use Rattle.field_places.specs.Pairs.{EffectsAlike}
use Rattle.named_code.specs.declared.named.VInstr.{VInstr}
use Rattle.named_code.specs.Items.{Item, named_item, own_item, naming_of}
use Rattle.named_code.specs.Running.{CodeState, act, onward, performed}
use Rattle.name_cells.specs.Pairs.{pairs_of, own_renaming, HoldAlike}
use Rattle.name_cells.specs.MovedNames.{StandsIn}

-- where an access is allowed it reaches none of the names' cells
abbrev pub MissCells : List Access → Memory → Type 0
MissCells [] m = Unit {0}
MissCells (a ∷ more) m = (allows_all a.kind m a.at a.size ≡ true → AreApart a.at a.size 0x75220000 0x5E0000) × MissCells more m

-- two memories are the same but for what the cells hold
pub record SameButCells (l m : Memory) : Type 0 where
  pub outside : SameOutside 0x75220000 0x5E0000 l m
  pub kinds : (a : ℕ) → kind_of (l a) ≡ kind_of (m a)

-- the states before an instruction of named code, and before its own item
pub record StandsBeside (x : VInstr) (s t : CodeState) : Type 0 where
  pub registers : HoldAlike x s.cpu.regs t.cpu.regs
  pub flags : s.cpu.flags ≡ t.cpu.flags
  pub memory : SameButCells s.memory t.memory
  pub area : HasPrivateArea t.memory

abbrev pub placed_own : VInstr → Item
placed_own x = own_item (renamed (own_renaming x) x.instr)

-- both come to the same end
pub record EndAlike (x : VInstr) (rest rest' : List Item) (s t : CodeState) : Type 0 where
  pub end : End
  pub named : act (named_item x) rest s ≡ Halt [] end
  pub placed : act (placed_own x) rest' t ≡ Halt [] end

-- or both go on, by effects that are alike; the memories are the same again but for the cells, and each cell holds what it held
pub record GoAlike (x : VInstr) (rest rest' : List Item) (s t : CodeState) : Type 0 where
  pub left : Effect
  pub right : Effect
  pub is_left : effect (naming_of x.slots) x.instr 0 s.cpu s.memory ≡ Ok left
  pub named : act (named_item x) rest s ≡ onward left.way (named_item x) rest (performed left s)
  pub placed : act (placed_own x) rest' t ≡ onward right.way (placed_own x) rest' (performed right t)
  pub effects : EffectsAlike (pairs_of x) s.cpu.regs t.cpu.regs left right
  pub memory : SameButCells (performed left s).memory (performed right t).memory
  pub area : HasPrivateArea (performed right t).memory
  pub cells : (n : ℕ) (w : Word) → n < 1540096 → StandsIn t.memory n w → StandsIn (performed right t).memory n w

abbrev pub RunAlike : VInstr → List Item → List Item → CodeState → CodeState → Type 0
RunAlike x rest rest' s t = EndAlike x rest rest' s t ⊎ GoAlike x rest rest' s t
