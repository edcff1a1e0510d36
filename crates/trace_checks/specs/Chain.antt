-- One chain of small machines: a cut run, a unit, the unit after a pass, code of that unit, and the code laid out. A program writes
-- one byte as many times as its state tells, and then comes to a place that is not found. There is a program for each byte.
use Rattle.std.specs.Prelude.{ℕ, zero, suc, List, [], ◌∷◌, Option, None, Some}
use Rattle.traces.specs.Trace.{Write, Label, Turn, Made, Code, Outside, Exited, Guard, Stopped, Move, Go, Halt, Behaviour, run}
use Rattle.traces.specs.Steps.{clock_of}
use Rattle.traces.specs.Turns.{RefinesByTurns, RefinesCut}
use Rattle.traces.specs.Weight.{PacedBy}
use Rattle.traces.specs.Agree.{Covers, Costs, outside_run}
use Rattle.traces.specs.TurnBounds.{CostsByTurns, FollowsByTurns}
use Rattle.traces.specs.Machines.{turned, Cut, guarded}
use Rattle.traces.specs.Plain.{AgreePlainly}

-- a write of one byte
abbrev pub written_byte : ℕ → List Label
written_byte byte = Made (Write 1 (byte ∷ []) 1) ∷ []

-- the program, whose state tells how many bytes are left to write: a step writes one
abbrev pub small_program : ℕ → ℕ → Move ℕ
small_program byte zero = Halt [] (Exited 0)
small_program byte (suc n) = Go (written_byte byte) n

-- the program is cut where no byte is left
abbrev pub cut_at_end : ℕ → Option Cut
cut_at_end zero = Some (record { trace = []; end = Guard Code 5 })
cut_at_end (suc n) = None

-- the cut run: each step is a turn at 8
abbrev pub small_cut : ℕ → ℕ → Move ℕ
small_cut byte = turned (λ n. 8) (guarded cut_at_end (small_program byte))

-- the cut run with a number of bytes to write
abbrev pub small_cut_run : ℕ → ℕ → Behaviour
small_cut_run byte n = run (small_cut byte) n

-- a place of a unit: before a turn, before an operation that shows nothing, or before a write; and how many bytes are left
pub data UnitPlace : Type 0 where
  Begin : (left : ℕ) → UnitPlace
  Idle : (left : ℕ) → UnitPlace
  Put : (left : ℕ) → UnitPlace

-- the unit takes three steps for each turn, and stops at 5
abbrev pub small_unit : ℕ → UnitPlace → Move UnitPlace
small_unit byte (Begin zero) = Halt (Turn 5 ∷ []) (Stopped 5)
small_unit byte (Begin (suc n)) = Go (Turn 8 ∷ []) (Idle n)
small_unit byte (Idle n) = Go [] (Put n)
small_unit byte (Put n) = Go (written_byte byte) (Begin n)

-- the unit's run with a number of bytes to write
abbrev pub small_unit_run : ℕ → ℕ → Behaviour
small_unit_run byte n = run (small_unit byte) (Begin n)

-- the unit after a pass that drops the operation that shows nothing takes two steps for each turn
abbrev pub small_swept : ℕ → UnitPlace → Move UnitPlace
small_swept byte (Begin zero) = Halt (Turn 5 ∷ []) (Stopped 5)
small_swept byte (Begin (suc n)) = Go (Turn 8 ∷ []) (Put n)
small_swept byte (Idle n) = Go [] (Put n)
small_swept byte (Put n) = Go (written_byte byte) (Begin n)

-- the run of the unit after the pass
abbrev pub small_swept_run : ℕ → ℕ → Behaviour
small_swept_run byte n = run (small_swept byte) (Begin n)

-- a place of code: within a beginning of two steps, before a jump that begins a turn, or before a call; and how many bytes are left
pub data CodePlace : Type 0 where
  First : (left : ℕ) → CodePlace
  Second : (left : ℕ) → CodePlace
  Jump : (left : ℕ) → CodePlace
  Call : (left : ℕ) → CodePlace

-- the code of that unit
abbrev pub small_code : ℕ → CodePlace → Move CodePlace
small_code byte (First n) = Go [] (Second n)
small_code byte (Second n) = Go [] (Jump n)
small_code byte (Jump zero) = Halt (Turn 5 ∷ []) Outside
small_code byte (Jump (suc n)) = Go (Turn 8 ∷ []) (Call n)
small_code byte (Call n) = Go (written_byte byte) (Jump n)

-- the code's run, from its first instruction
abbrev pub small_code_run : ℕ → ℕ → Behaviour
small_code_run byte n = run (small_code byte) (First n)

-- how many steps the laid code takes for the instruction at a place
abbrev pub laid_steps : CodePlace → ℕ
laid_steps (First n) = 1
laid_steps (Second n) = 1
laid_steps (Jump n) = 2
laid_steps (Call n) = 1

-- what the first steps of the code cost
abbrev pub small_code_clock : ℕ → ℕ → ℕ → ℕ
small_code_clock byte n = clock_of (small_code byte) laid_steps (First n)

-- a place of laid code: at an instruction, within a jump, or past the code
pub data LaidPlace : Type 0 where
  At : (instruction : CodePlace) → LaidPlace
  Landing : (left : ℕ) → LaidPlace
  Past : LaidPlace

-- the laid code takes two steps for a jump, and where no byte is left a third step ends it
abbrev pub small_laid : ℕ → LaidPlace → Move LaidPlace
small_laid byte (At (First n)) = Go [] (At (Second n))
small_laid byte (At (Second n)) = Go [] (At (Jump n))
small_laid byte (At (Jump n)) = Go [] (Landing n)
small_laid byte (At (Call n)) = Go (written_byte byte) (At (Jump n))
small_laid byte (Landing zero) = Go [] Past
small_laid byte (Landing (suc n)) = Go [] (At (Call n))
small_laid byte Past = Halt [] Outside

-- the laid code's run, from its first instruction
abbrev pub small_laid_run : ℕ → ℕ → Behaviour
small_laid_run byte n = run (small_laid byte) (At (First n))

-- the unit does by turns what the cut run does by steps
abbrev pub UnitRefinesCut : Type 0
UnitRefinesCut = (byte n : ℕ) → RefinesCut 0 (small_cut_run byte n) (small_unit_run byte n)

-- the unit after the pass does by turns what the unit does
abbrev pub SweptRefinesUnit : Type 0
SweptRefinesUnit = (byte n : ℕ) → RefinesByTurns (small_unit_run byte n) (small_swept_run byte n)

-- the code does by turns what that unit does, but that it ends `Outside` where the unit stops
abbrev pub CodeRefinesSwept : Type 0
CodeRefinesSwept = (byte n : ℕ) → RefinesByTurns (outside_run (small_swept_run byte n)) (small_code_run byte n)

-- the code has weight w with constant b, in steps of the laid code
abbrev pub CodeWeighs : ℕ → ℕ → Type 0
CodeWeighs w b = (byte n : ℕ) → PacedBy (small_code_clock byte n) w b (small_code_run byte n)

-- the code costs 3 for each turn of the unit, and 2 more
abbrev pub CodeCostsSwept : Type 0
CodeCostsSwept = (byte n : ℕ) → CostsByTurns (small_code_clock byte n) 3 2 (small_swept_run byte n) (small_code_run byte n)

-- the laid code takes for each instruction as many steps as it costs, and b more
abbrev pub LaidCostsCode : ℕ → Type 0
LaidCostsCode b = (byte n : ℕ) → Covers (Costs (small_code_clock byte n) b) (small_code_run byte n) (small_laid_run byte n)

-- the laid code takes three steps for each turn of the unit, and three more
abbrev pub LaidFollowsUnit : Type 0
LaidFollowsUnit = (byte n : ℕ) → FollowsByTurns 3 3 (small_unit_run byte n) (small_laid_run byte n)

-- the laid code agrees with the cut run within three steps for each: a jump's 2 and a call's 1 are summed. The most steps of an
-- instruction, 2, times the instructions of a turn, 2, would be 4
abbrev pub LaidAgreesWithCut : Type 0
LaidAgreesWithCut = (byte n : ℕ) → AgreePlainly 3 3 (small_cut_run byte n) (small_laid_run byte n)

-- two steps for each step of the cut run are too few, whatever the constant
abbrev pub RefusesTwoSteps : Type 0
RefusesTwoSteps = (byte b : ℕ) → ((n : ℕ) → AgreePlainly 2 b (small_cut_run byte n) (small_laid_run byte n)) → ⊥
