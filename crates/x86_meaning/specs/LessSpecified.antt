-- States that are less specified than others: each byte and flag that is known on the left is the same on the right, and all else is
-- the same. The input is one of bytes, so that what is read into memory is. Where a step of the left state goes on, the right one's goes on to a state like that.
use Rattle.std.specs.Prelude.{◌≡◌, ℕ, Result, Ok, Err}
use Rattle.x86_values.specs.LessSpecified.{WordLessSpecified, FlagsLessSpecified}
use Rattle.outside.specs.Environment.{IsEnvironment}
use Rattle.traces.specs.Trace.{Move, Stand, Go, Halt}
use Rattle.memory.specs.Memory.{Memory}
use Rattle.memory.specs.LessSpecified.{MemoryLessSpecified, StoresLessSpecified, EndLessSpecified}
use Rattle.x86_types.specs.declared.instr.Instr.{Instr}
use Rattle.x86_code.specs.Code.{Code}
use Rattle.x86_meaning.specs.declared.stop.Stop.{Stop}
use Rattle.x86_meaning.specs.declared.stop.Stop.TheVariants.{MemoryFault, DivideFault, Unspecified}
use Rattle.x86_meaning.specs.Registers.{Registers, Processor, Naming}
use Rattle.x86_meaning.specs.Effect.{Effect, effect}
use Rattle.x86_meaning.specs.Step.{State, next}

abbrev pub RegistersLessSpecified : Registers → Registers → Type 0
RegistersLessSpecified r q = (k : ℕ) → WordLessSpecified (r k) (q k)

pub record ProcessorLessSpecified (p q : Processor) : Type 0 where
  pub regs : RegistersLessSpecified p.regs q.regs
  pub flags : FlagsLessSpecified p.flags q.flags

pub record StateLessSpecified (s t : State) : Type 0 where
  pub cpu : ProcessorLessSpecified s.cpu t.cpu
  pub eip : s.eip ≡ t.eip
  pub memory : MemoryLessSpecified s.memory t.memory
  pub left : s.left ≡ t.left
  pub environment : IsEnvironment s.left

-- where the left move goes on, so does the right one; where the left ends as `Unspecified`, nothing is asked; another end is the same
abbrev pub MoveLessSpecified : Move State → Move State → Type 0
MoveLessSpecified (Go ls s) (Go ks t) = (ls ≡ ks) × StateLessSpecified s t
MoveLessSpecified (Go ls s) (Stand ks e) = ⊥
MoveLessSpecified (Go ls s) (Halt ks e) = ⊥
MoveLessSpecified (Stand ls e) m = EndLessSpecified e (Stand ls e) m
MoveLessSpecified (Halt ls e) m = EndLessSpecified e (Halt ls e) m

-- so with effects
pub record EffectLessSpecified (d e : Effect) : Type 0 where
  pub cpu : ProcessorLessSpecified d.cpu e.cpu
  pub stores : StoresLessSpecified d.stores e.stores
  pub way : d.way ≡ e.way

abbrev pub StopLessSpecified : {A : Type 0} → Stop → A → A → Type 0
StopLessSpecified Unspecified x y = Unit {0}
StopLessSpecified MemoryFault x y = x ≡ y
StopLessSpecified DivideFault x y = x ≡ y

abbrev pub ResultLessSpecified : Result Effect Stop → Result Effect Stop → Type 0
ResultLessSpecified (Ok d) (Ok e) = EffectLessSpecified d e
ResultLessSpecified (Ok d) (Err x) = ⊥
ResultLessSpecified (Err x) r = StopLessSpecified x (Err x) r

pub record MonotoneLaws : Type 0 where
  -- an effect is monotone, whatever the fields name
  pub effect_less : (v : Naming) (i : Instr) (n : ℕ) (p q : Processor) (l m : Memory) → ProcessorLessSpecified p q → MemoryLessSpecified l m → ResultLessSpecified (effect v i n p l) (effect v i n q m)
  -- and so is a step
  pub step_less : (code : Code) (s t : State) → StateLessSpecified s t → MoveLessSpecified (next code s) (next code t)
