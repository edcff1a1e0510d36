-- What a step looks at: its effect looks at memory in the loads alone; and a step over two memories that differ only where it makes no
-- access comes to the same on both.
use Rattle.std.specs.Prelude.{◌≡◌, ℕ, ◌+◌, List, [], ◌∷◌, Some, Ok}
use Rattle.x86_values.specs.Words.{known}
use Rattle.traces.specs.Trace.{Move, Stand, Go, Halt}
use Rattle.memory.specs.Memory.{Memory, wrapped, AccessKind, Load, Store, SameIn, SameOutside, AreApart}
use Rattle.memory.specs.SystemCall.{Request}
use Rattle.x86_types.specs.declared.instr.Instr.{Instr}
use Rattle.x86_meaning.specs.Registers.{Processor, Naming, machine_naming}
use Rattle.x86_meaning.specs.Operands.{Access}
use Rattle.x86_meaning.specs.Outcomes.{Calls}
use Rattle.x86_meaning.specs.Effect.{Effect, accesses, effect}
use Rattle.x86_meaning.specs.Step.{State, request_of, step}

-- two memories are the same in each load
abbrev pub SameLoad : AccessKind → ℕ → ℕ → Memory → Memory → Type 0
SameLoad Load at size l m = SameIn at size l m
SameLoad Store at size l m = Unit {0}

abbrev pub SameLoads : List Access → Memory → Memory → Type 0
SameLoads [] l m = Unit {0}
SameLoads (a ∷ more) l m = SameLoad a.kind a.at a.size l m × SameLoads more l m

-- no access has an address of a range, nor has the buffer of a call
abbrev pub AllApart : List Access → ℕ → ℕ → Type 0
AllApart [] at count = Unit {0}
AllApart (a ∷ more) at count = AreApart a.at a.size at count × AllApart more at count

abbrev pub BufferIsApart : Request → ℕ → ℕ → Type 0
BufferIsApart q at count = (from n : ℕ) → known q.at ≡ Some from → known q.count ≡ Some n → AreApart from n at count

-- two states are the same but for the bytes of a range
pub record SameButRange (at count : ℕ) (s t : State) : Type 0 where
  pub cpu : s.cpu ≡ t.cpu
  pub eip : s.eip ≡ t.eip
  pub memory : SameOutside at count s.memory t.memory
  pub left : s.left ≡ t.left

abbrev pub MovesAlike : ℕ → ℕ → Move State → Move State → Type 0
MovesAlike at count (Go ls s) (Go ks t) = (ls ≡ ks) × SameButRange at count s t
MovesAlike at count (Go ls s) (Stand ks e) = ⊥
MovesAlike at count (Go ls s) (Halt ks e) = ⊥
MovesAlike at count (Stand ls e) m = m ≡ Stand ls e
MovesAlike at count (Halt ls e) m = m ≡ Halt ls e

-- where a step makes a call, its buffer is apart from the range
abbrev pub CallIsApart : Instr → ℕ → ℕ → ℕ → State → Type 0
CallIsApart i len at count s = (e : Effect) → effect machine_naming i (wrapped (s.eip + len)) s.cpu s.memory ≡ Ok e → e.way ≡ Calls → BufferIsApart (request_of e.cpu) at count

pub record AccessLaws : Type 0 where
  pub effect_by_loads : (v : Naming) (i : Instr) (n : ℕ) (cpu : Processor) (l m : Memory) → SameLoads (accesses v i cpu.regs) l m → effect v i n cpu l ≡ effect v i n cpu m
  pub step_outside : (i : Instr) (len at count : ℕ) (s t : State) → SameButRange at count s t → AllApart (accesses machine_naming i s.cpu.regs) at count → CallIsApart i len at count s → MovesAlike at count (step i len s) (step i len t)
