-- The accesses and the effect of an instruction, over places that its fields name. The effect judges no access: whoever makes a step
-- does that before.
use Rattle.std.specs.Prelude.{ℕ, List, [], ◌∷◌, ◌++◌, take, Option, Some, None, Result, Ok, Err}
use Rattle.x86_values.specs.declared.word.Word.{Word}
use Rattle.x86_values.specs.Words.{word_list}
use Rattle.memory.specs.Memory.{Memory, Stored, Load, Store}
use Rattle.x86_types.specs.declared.instr.Instr.{Instr}
use Rattle.x86_meaning.specs.declared.stop.Stop.{Stop}
use Rattle.x86_meaning.specs.declared.stop.Stop.TheVariants.{Unspecified}
use Rattle.x86_meaning.specs.Registers.{Registers, Processor, Naming, with_register, with_bytes}
use Rattle.x86_meaning.specs.Operands.{Location, InRegister, InMemory, Constant, SizedOperand, Access, accesses_of, values_in}
use Rattle.x86_meaning.specs.TransferShapes.{Transfer}
use Rattle.x86_meaning.specs.Transfers.{transfer}
use Rattle.x86_meaning.specs.Outcomes.{Way, Computation}
use Rattle.x86_meaning.specs.Computing.{compute}

-- what an instruction does: the new registers and flags, the bytes that it stores, in order, and its way
pub record Effect : Type 0 where
  pub cpu : Processor
  pub stores : List Stored
  pub way : Way

-- ---- the accesses: those that load, and then those that store
abbrev pub transfer_accesses : Option Transfer → List Access
transfer_accesses None = []
transfer_accesses (Some t) = accesses_of Load t.reads ++ accesses_of Store t.writes

-- The accesses of memory that an instruction makes, in the order in which it makes them; none where the run ends before. Those of
-- the buffer of a system call are the call's.
unfoldable pub accesses : Naming → Instr → Registers → List Access
accesses v i regs = transfer_accesses (transfer v i regs)

-- ---- the effect
-- the lowest bytes of a word are written to a place of a register
abbrev pub with_lowest : ℕ → ℕ → ℕ → Word → Registers → Registers
with_lowest size p i w regs = with_register p (with_bytes i (take size (word_list w)) (regs p)) regs

-- so many bytes of a word are written to a location
abbrev pub written_to : ℕ → Location → Word → Effect → Effect
written_to size (InRegister p i) w e = record e { cpu = record e.cpu { regs = with_lowest size p i w e.cpu.regs } }
written_to size (InMemory at) w e = record e { stores = e.stores ++ record { at = at; bytes = take size (word_list w) } ∷ [] }
written_to size (Constant n) w e = e

-- a value is written to each operand, in order
abbrev pub all_written : List SizedOperand → List Word → Effect → Effect
all_written [] ws e = e
all_written (o ∷ os) [] e = e
all_written (o ∷ os) (w ∷ ws) e = all_written os ws (written_to o.size o.location w e)

abbrev pub effect_of : List SizedOperand → Registers → Computation → Result Effect Stop
effect_of writes regs (Err stop) = Err stop
effect_of writes regs (Ok c) = Ok (all_written writes c.values (record { cpu = record { regs = regs; flags = c.flags }; stores = []; way = c.way }))

abbrev pub effect_by : Option Transfer → Instr → ℕ → Processor → Memory → Result Effect Stop
effect_by None i next cpu m = Err Unspecified
effect_by (Some t) i next cpu m = effect_of t.writes cpu.regs (compute i next cpu.flags (values_in t.reads cpu.regs m))

-- The effect of an instruction behind which the next one stands at an address, over a memory that is only read here; or the end to
-- which it comes before it writes anything.
unfoldable pub effect : Naming → Instr → ℕ → Processor → Memory → Result Effect Stop
effect v i next cpu m = effect_by (transfer v i cpu.regs) i next cpu m
