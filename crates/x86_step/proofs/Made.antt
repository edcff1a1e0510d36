-- What is made in place is what the step does.
use Rattle.std.proofs.Common.{◌≡◌, ℕ, ◌+◌, Bool, true, false, List, Option, Some, Result, Ok, ap, ◌∙◌}
use Rattle.x86_values.specs.declared.word.Word.{Word}
use Rattle.x86_values.specs.declared.word.Flags.{Flags}
use Rattle.x86_values.specs.Words.{known}
use Rattle.memory.specs.Memory.{Memory, wrapped}
use Rattle.x86_types.specs.declared.instr.Instr.{Instr}
use Rattle.x86_meaning.specs.declared.state.Cpu.{Cpu}
use Rattle.x86_meaning.specs.declared.stop.Stop.{Stop}
use Rattle.x86_meaning.specs.Registers.{Registers, machine_naming}
use Rattle.x86_meaning.specs.Operands.{SizedOperand}
use Rattle.x86_meaning.specs.TransferShapes.{Transfer}
use Rattle.x86_meaning.specs.Transfers.{transfer}
use Rattle.x86_meaning.specs.Outcomes.{Computation}
use Rattle.x86_meaning.specs.Computing.{compute}
use Rattle.x86_meaning.specs.Effect as spec
use Rattle.x86_meaning.specs.Effect.{effect_of}
use Rattle.x86_meaning.specs.StepLaws.{StepLaws}
use Rattle.x86_step.specs.declared.effect.Stored.{Stored}
use Rattle.x86_step.specs.declared.effect.Effect.{Effect}
use Rattle.x86_step.specs.declared.outcome.Way.{Way}
use Rattle.x86_step.specs.Computed.{way_of}
use Rattle.x86_step.specs.Judged.{effect_from, effect_read, effect_seen, processor_of, stores_of, values_read}
use Rattle.x86_step.specs.Finishing.{is_call}
use Rattle.x86_step.specs.Making.{IsMade, MadeOrStays, FastOrStays, PerformsOrStays}
use Rattle.x86_step.specs.Steps.{registers_of}
use Rattle.x86_step.proofs.Storing.{goes_on}
use Rattle.x86_step.proofs.Judging.{step_goes}

-- the effect of registers, flags, a store and a way
abbrev pub effect_with : Registers → Flags → Option Stored → Way → spec.Effect
effect_with regs f store way = record { cpu = record { regs = regs; flags = f }; stores = stores_of store; way = way_of way }

made_effect : (regs : Registers) (f : Flags) (store : Option Stored) (way : Way) (len : ℕ) (c d : Cpu) (m n : Memory) → IsMade regs f store way len c m d n
    → effect_seen (record { regs = d.regs; flags = d.flags; store = store; way = way }) ≡ effect_with regs f store way
made_effect regs f store way len c d m n h = ap (λ r. effect_with r d.flags store way) h.registers_are ∙ ap (λ g. effect_with regs g store way) h.flags_are

-- what is made in place performs an outcome whose effect it is
pub made_performs : (writes : List SizedOperand) (k : Computation) (regs : Registers) (f : Flags) (store : Option Stored) (way : Way) (len : ℕ) (b : Bool) (c d : Cpu) (m n : Memory) → MadeOrStays regs f store way len b c m d n
    → is_call (way_of way) ≡ false → Ok (effect_with regs f store way) ≡ effect_of writes (registers_of c.regs) k → PerformsOrStays writes k len b c m d n
made_performs writes k regs f store way len false c d m n h p e = h
made_performs writes k regs f store way len true c d m n h p e =
    let made : Effect = record { regs = d.regs; flags = d.flags; store = store; way = way } in
    (made, ap (λ (x : spec.Effect). let r : Result spec.Effect Stop = Ok x in r) (made_effect regs f store way len c d m n h) ∙ e, goes_on made len c m n h.esp d.eip p h.is_allowed (ap (λ r. known (r 4)) h.registers_are ∙ h.is_esp) h.eip_is h.memory_is)

-- and what performs the outcome of an instruction is its step
pub performs : (laws : StepLaws) (i : Instr) (writes : List SizedOperand) (k : Computation) (len : ℕ) (b : Bool) (c d : Cpu) (m n : Memory) → PerformsOrStays writes k len b c m d n
    → effect_of writes (registers_of c.regs) k ≡ effect_read (transfer machine_naming i (registers_of c.regs)) i (wrapped (c.eip + len)) (processor_of c) m → FastOrStays i len b c m d n
performs laws i writes k len false c d m n h e = h
performs laws i writes k len true c d m n h e = λ left. step_goes laws i len c m h.0 (h.1 ∙ e) left ∙ h.2 left

-- the effect of an instruction by its operands, their values and its outcome
pub effect_is : (i : Instr) (t : Transfer) (xs : List Word) (k : Computation) (next : ℕ) (c : Cpu) (m : Memory) → Some t ≡ transfer machine_naming i (registers_of c.regs) → Some xs ≡ values_read t.reads (registers_of c.regs) m → k ≡ compute i next c.flags xs
    → effect_of t.writes (registers_of c.regs) k ≡ effect_read (transfer machine_naming i (registers_of c.regs)) i next (processor_of c) m
effect_is i t xs k next c m a b e = ap (effect_of t.writes (registers_of c.regs)) e ∙ (ap (effect_from t i next (processor_of c)) b ∙ ap (λ o. effect_read o i next (processor_of c) m) a)
