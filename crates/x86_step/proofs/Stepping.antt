-- The answer of the code is that of the step.
use Rattle.std.proofs.Common.{◌≡◌, ℕ, [], Bool, true, refl, Option, Result, Ok, Err, ◌∙◌, false}
use Rattle.std.specs.declared.alloc.AllocError.{AllocError}
use Rattle.outside.specs.Environment.{Environment}
use Rattle.traces.specs.Trace.{Halt}
use Rattle.memory.specs.Memory.{Memory}
use Rattle.mem_pages.specs.declared.pages.Pages.{Pages}
use Rattle.mem_pages.specs.Accesses.{KeepsPages}
use Rattle.x86_types.specs.declared.instr.Instr.{Instr}
use Rattle.x86_types.specs.declared.instr.Instr.TheVariants.{Int80}
use Rattle.x86_meaning.specs.declared.state.Cpu.{Cpu}
use Rattle.x86_meaning.specs.declared.stop.Stop.{Stop}
use Rattle.x86_meaning.specs.declared.stop.Stop.TheVariants as stop
use Rattle.x86_meaning.specs.Registers.{Processor}
use Rattle.x86_meaning.specs.TransferShapes.{Transfer}
use Rattle.x86_meaning.specs.Step.{end_of, step}
use Rattle.x86_step.specs.declared.effect.Effect.{Effect}
use Rattle.x86_step.specs.declared.stepped.Stepped.{Stepped}
use Rattle.x86_step.specs.declared.stepped.Stepped.TheVariants as stepped
use Rattle.x86_step.specs.Computed.{way_of}
use Rattle.x86_step.specs.Judged.{effect_read, effect_seen}
use Rattle.x86_step.specs.Steps.{state_of, Stays, Steps, StepsOrStays}
use Rattle.x86_step.specs.Making.{FastOrStays}
use Rattle.x86_step.specs.Finishing.{MovesOrStays, Moves, is_call, rest_of_step, stepped_by}
use Rattle.x86_step.proofs.Calling.{effect_calls_none}

answers : (i : Instr) (len : ℕ) (e : Effect) (answer : Stepped) (c d : Cpu) (m n : Memory) → ((left : Environment) → step i len (state_of c m left) ≡ rest_of_step e len c m left)
    → Moves (rest_of_step e len c m) answer c m d n → Steps i len answer c m d n
answers i len e stepped.Next c d m n f h = λ left. f left ∙ h left
answers i len e stepped.Call c d m n f h = absurd h
answers i len e stepped.MemoryFault c d m n f h = record { halts = λ left. f left ∙ h.halts left; cpu = h.cpu; memory = h.memory }
answers i len e stepped.DivideFault c d m n f h = record { halts = λ left. f left ∙ h.halts left; cpu = h.cpu; memory = h.memory }
answers i len e stepped.Unspecified c d m n f h = record { halts = λ left. f left ∙ h.halts left; cpu = h.cpu; memory = h.memory }

pub step_answers : (i : Instr) (len : ℕ) (e : Effect) (r : Result Stepped AllocError) (c d : Cpu) (m n : Memory) → ((left : Environment) → step i len (state_of c m left) ≡ rest_of_step e len c m left)
    → MovesOrStays (rest_of_step e len c m) r c m d n → StepsOrStays i len r c m d n
step_answers i len e (Ok answer) c d m n f h = answers i len e answer c d m n f h
step_answers i len e (Err _) c d m n f h = h

pub plain : (o : Option Transfer) (i : Instr) → (i ≡ Int80 → ⊥) → (n : ℕ) (cpu : Processor) (m : Memory) (e : Effect) → Ok (effect_seen e) ≡ effect_read o i n cpu m → is_call (way_of e.way) ≡ false
plain o i h n cpu m e k = rw (← k) at (effect_calls_none o i h n cpu m)

stops_by : (i : Instr) (len : ℕ) (x : Stop) (c : Cpu) (m : Memory) → ((left : Environment) → step i len (state_of c m left) ≡ Halt [] (end_of x)) → Steps i len (stepped_by x) c m c m
stops_by i len stop.MemoryFault c m h = record { halts = h; cpu = refl; memory = refl }
stops_by i len stop.DivideFault c m h = record { halts = h; cpu = refl; memory = refl }
stops_by i len stop.Unspecified c m h = record { halts = h; cpu = refl; memory = refl }

pub stops : (i : Instr) (len : ℕ) (x : Stop) (answer : Stepped) (c : Cpu) (m : Memory) → answer ≡ stepped_by x → ((left : Environment) → step i len (state_of c m left) ≡ Halt [] (end_of x)) → Steps i len answer c m c m
stops i len x answer c m e h = rw e (stops_by i len x c m h)

-- ---- a step in place, or else the whole way
pub keeps_then : (p q r : Pages) → KeepsPages p q → KeepsPages q r → KeepsPages p r
keeps_then p q r h k = record { kept = λ a g. k.kept a (h.kept a g) }

pub made_in_place : (i : Instr) (len : ℕ) (b : Bool) (c d : Cpu) (m n : Memory) → b ≡ true → FastOrStays i len b c m d n → Steps i len stepped.Next c m d n
made_in_place i len true c d m n e h = h
made_in_place i len false c d m n e h = cc

same_start : (i : Instr) (len : ℕ) (r : Result Stepped AllocError) (c e d : Cpu) (m l n : Memory) → Stays c m e l → StepsOrStays i len r e l d n → StepsOrStays i len r c m d n
same_start i len r c e d m l n h k = rw (h.cpu, h.memory) at k

pub steps_after : (i : Instr) (len : ℕ) (b : Bool) (r : Result Stepped AllocError) (c e d : Cpu) (m l n : Memory) → b ≡ false → FastOrStays i len b c m e l → StepsOrStays i len r e l d n → StepsOrStays i len r c m d n
steps_after i len false r c e d m l n f h k = same_start i len r c e d m l n h k
steps_after i len true r c e d m l n f h k = cc

-- ---- a step directly, or else in place
begins_there : (i : Instr) (len : ℕ) (b : Bool) (c e d : Cpu) (m l n : Memory) → Stays c m e l → FastOrStays i len b e l d n → FastOrStays i len b c m d n
begins_there i len b c e d m l n h k = rw (h.cpu, h.memory) at k

pub fast_after : (i : Instr) (len : ℕ) (a b : Bool) (c e d : Cpu) (m l n : Memory) → a ≡ false → FastOrStays i len a c m e l → FastOrStays i len b e l d n → FastOrStays i len b c m d n
fast_after i len false b c e d m l n f h k = begins_there i len b c e d m l n h k
fast_after i len true b c e d m l n f h k = cc

pub fast_there : (i : Instr) (len : ℕ) (a : Bool) (c d : Cpu) (m n : Memory) → a ≡ true → FastOrStays i len a c m d n → FastOrStays i len true c m d n
fast_there i len true c d m n f h = h
fast_there i len false c d m n f h = cc
