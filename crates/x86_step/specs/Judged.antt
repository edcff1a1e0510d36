-- A step in the order in which the code makes it: each operand is judged as it is read, and what is stored by where it goes.
use Rattle.std.specs.Prelude.{ℕ, ◌+◌, Bool, true, List, [], ◌∷◌, take, drop, Option, Some, None, Result, Ok, Err}
use Rattle.x86_values.specs.declared.word.Word.{Word}
use Rattle.x86_values.specs.Words.{word_list, padded}
use Rattle.memory.specs.Memory as memory
use Rattle.memory.specs.Memory.{Memory, Store, allows_all, wrapped}
use Rattle.mem_pages.specs.Accesses.{loaded}
use Rattle.x86_types.specs.declared.instr.Instr.{Instr}
use Rattle.x86_types.specs.Numbers.{number_of_reg}
use Rattle.x86_meaning.specs.declared.state.Cpu.{Cpu}
use Rattle.x86_meaning.specs.declared.stop.Stop.{Stop}
use Rattle.x86_meaning.specs.declared.stop.Stop.TheVariants as stop
use Rattle.x86_meaning.specs.Registers.{Registers, Processor}
use Rattle.x86_meaning.specs.Operands as operands
use Rattle.x86_meaning.specs.Operands.{InRegister, InMemory, Constant, SizedOperand, bytes_in, word_if}
use Rattle.x86_meaning.specs.TransferShapes.{Transfer}
use Rattle.x86_meaning.specs.Outcomes as outcomes
use Rattle.x86_meaning.specs.Outcomes.{Falls, JumpsBy, JumpsTo, Repeats, Calls}
use Rattle.x86_meaning.specs.Computing.{compute}
use Rattle.x86_meaning.specs.Effect as spec
use Rattle.x86_meaning.specs.Effect.{effect_of}
use Rattle.x86_step.specs.declared.operand.Place.{Place}
use Rattle.x86_step.specs.declared.operand.Place.TheVariants.{Lowest, Second}
use Rattle.x86_step.specs.declared.effect.Stored.{Stored}
use Rattle.x86_step.specs.declared.effect.Effect.{Effect}
use Rattle.x86_step.specs.Computed.{way_of}
use Rattle.x86_step.specs.Steps.{registers_of}
use Rattle.x86_step.specs.Transferred.{bytes_in_size}

-- ---- what is read
-- the lowest bytes of a word, and zeros above them
abbrev pub lowest : ℕ → Word → Word
lowest size w = padded (take size (word_list w))

-- the value of an operand in a register
abbrev pub place_value : ℕ → Place → Registers → Word
place_value size (Lowest r) regs = lowest size (regs (number_of_reg r))
place_value size (Second r) regs = padded (take size (drop 1 (word_list (regs (number_of_reg r)))))

-- the value of an operand, where its load is allowed
abbrev pub value_read : ℕ → operands.Location → Registers → Memory → Option Word
value_read size (InRegister p i) regs m = Some (padded (bytes_in size (InRegister p i) regs m))
value_read size (InMemory at) regs m = loaded m at size
value_read size (Constant n) regs m = Some (lowest size (word_if n))

abbrev pub with_value : Option Word → Option (List Word) → Option (List Word)
with_value (Some w) (Some ws) = Some (w ∷ ws)
with_value _ _ = None

-- the values of operands, where all of their loads are allowed
abbrev pub values_read : List SizedOperand → Registers → Memory → Option (List Word)
values_read [] regs m = Some []
values_read (o ∷ os) regs m = with_value (value_read o.size o.location regs m) (values_read os regs m)

-- ---- what comes of it
abbrev pub effect_from : Transfer → Instr → ℕ → Processor → Option (List Word) → Result spec.Effect Stop
effect_from t i next cpu None = Err stop.MemoryFault
effect_from t i next cpu (Some xs) = effect_of t.writes cpu.regs (compute i next cpu.flags xs)

-- the effect, or the end to which the loads or the computation come
abbrev pub effect_read : Option Transfer → Instr → ℕ → Processor → Memory → Result spec.Effect Stop
effect_read None i next cpu m = Err stop.Unspecified
effect_read (Some t) i next cpu m = effect_from t i next cpu (values_read t.reads cpu.regs m)

abbrev pub processor_of : Cpu → Processor
processor_of c = record { regs = registers_of c.regs; flags = c.flags }

abbrev pub stores_of : Option Stored → List memory.Stored
stores_of None = []
stores_of (Some s) = record { at = s.at; bytes = take (bytes_in_size s.size) (word_list s.word) } ∷ []

abbrev pub effect_seen : Effect → spec.Effect
effect_seen e = record { cpu = record { regs = registers_of e.regs; flags = e.flags }; stores = stores_of e.store; way = way_of e.way }

abbrev pub effect_seen_if : Result Effect Stop → Result spec.Effect Stop
effect_seen_if (Ok e) = Ok (effect_seen e)
effect_seen_if (Err x) = Err x

-- ---- how it ends
-- the store of an effect is allowed
abbrev pub store_allowed : Option Stored → Memory → Bool
store_allowed None m = true
store_allowed (Some s) m = allows_all Store m s.at (bytes_in_size s.size)

-- the address to which a step goes from one, where the next instruction stands at another; a system call comes later
abbrev pub eip_after : outcomes.Way → ℕ → ℕ → ℕ
eip_after Falls eip next = wrapped next
eip_after (JumpsBy by) eip next = wrapped (next + by)
eip_after (JumpsTo target) eip next = wrapped target
eip_after Repeats eip next = eip
eip_after Calls eip next = wrapped next
