-- Worked units, lowered: what is seen of their runs over a usual memory, by hand. EFAULT is 14 (Linux).
use Rattle.std.specs.Prelude.{◌≡◌, ℕ, false, List, [], ◌∷◌, None, Some}
use Rattle.traces.specs.Trace.{Label, Turn, Made, Write, Exited, MemoryFault, Stopped, Seen, seen}
use Rattle.memory.specs.Memory.{Memory}
use Rattle.flag_ir.specs.declared.variable.Var.TheVariants as var
use Rattle.flag_ir.specs.declared.variable.Term.TheVariants as term
use Rattle.flag_ir.specs.declared.operation.Op.{Op}
use Rattle.flag_ir.specs.declared.operation.Op.TheVariants as op
use Rattle.flag_ir.specs.declared.block.Block.{Block}
use Rattle.flag_ir.specs.declared.block.Exit.{Exit}
use Rattle.flag_ir.specs.declared.block.Exit.TheVariants as exit
use Rattle.flag_ir.specs.UnitRun.{unit_run}
use Rattle.private_memory.specs.PrivateArea.{with_private}
use Rattle.guards.specs.Guarding.{guarded_unit}

-- nothing is mapped but the private area and a stack of four bytes, from esp 0x80001000 on
abbrev pub four_bytes : List ℕ
four_bytes = 0x29 ∷ 0 ∷ 0 ∷ 0 ∷ []

abbrev pub nowhere : Memory
nowhere a = None

abbrev pub lowered_seen : List Block → ℕ → Seen
lowered_seen blocks n = unit_run (guarded_unit (record { lowered = false; whole = blocks; procs = [] })) (with_private 0x80001000 nowhere) 0x1000 0x80001000 four_bytes (record { input = []; answers = [] }) n

abbrev pub block_of : ℕ → ℕ → List Op → Exit → Block
block_of number at ops e = record { number = number; at = at; ops = ops; exit = e }

abbrev pub set : ℕ → ℕ → Op
set n w = op.Set (var.Reg n) (term.Word w)

abbrev pub one_turn : List Label
one_turn = Turn 0x1000 ∷ []

-- ---- a load from an address: the store of the turn, the address, three operations of the test, and the load
abbrev pub loads : ℕ → List Block
loads a = block_of 0 0x1000 (set 1 a ∷ op.Load (var.Reg 3) 1 (term.Var (var.Reg 1)) ∷ set 0 1 ∷ op.System ∷ []) exit.Stop ∷ []

pub record LoadRows : Type 0 where
  pub first_inside : lowered_seen (loads 0x60000000) 6 ≡ seen one_turn (Some MemoryFault)
  pub before_the_load : lowered_seen (loads 0x60000000) 5 ≡ seen one_turn None
  -- where esp stands, in a cell
  pub cell : lowered_seen (loads 0x75000000) 6 ≡ seen one_turn (Some MemoryFault)
  pub last_inside : lowered_seen (loads 0x7BFFFFFF) 6 ≡ seen one_turn (Some MemoryFault)
  -- the stack is loaded: its byte is the status
  pub stack : lowered_seen (loads 0x80001000) 13 ≡ seen one_turn (Some (Exited 0x29))

-- ---- a write of two bytes of the area gives -14, and ecx is what it was: its lowest byte is the status
abbrev pub writes : List Block
writes = block_of 0 0x1000 (set 0 4 ∷ set 3 1 ∷ set 1 0x70000035 ∷ set 2 2 ∷ op.System ∷ op.Set (var.Reg 3) (term.Var (var.Reg 1)) ∷ set 0 1 ∷ op.System ∷ []) exit.Fault ∷ []

pub record WriteRows : Type 0 where
  pub refused : lowered_seen writes 18 ≡ seen (Turn 0x1000 ∷ Made (Write 1 [] 0xFFFFFFF2) ∷ []) (Some (Exited 0x35))

-- ---- stops: a block that begins no turn stops where the turn began
abbrev pub stops : List Block
stops = block_of 0 0x1000 [] (exit.Go 1) ∷ block_of 1 0x1010 [] (exit.Go 2) ∷ block_of 2 0 [] exit.Stop ∷ []

pub record StopRows : Type 0 where
  pub at_the_turn : lowered_seen stops 5 ≡ seen (Turn 0x1000 ∷ Turn 0x1010 ∷ []) (Some (Stopped 0x1010))
  pub alone : lowered_seen (block_of 0 0x1000 [] exit.Stop ∷ []) 2 ≡ seen one_turn (Some (Stopped 0x1000))
