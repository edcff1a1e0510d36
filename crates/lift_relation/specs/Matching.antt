-- When a state of the machine and a storage of a unit match: what is known of the state is the same in the storage. So an unspecified byte
-- of the state may be any byte of the storage. All of this is own.
use Rattle.std.specs.Prelude.{◌≡◌, ℕ, ◌<◌, Bool, List, [], Option, Some, None, Result, Ok, Err}
use Rattle.x86_values.specs.declared.word.Word.{Word}
use Rattle.x86_values.specs.declared.word.Flags.{Flags}
use Rattle.x86_values.specs.Words.{word_of}
use Rattle.x86_values.specs.LessSpecified.{WordLessSpecified}
use Rattle.outside.specs.Environment.{IsEnvironment}
use Rattle.traces.specs.Trace.{Label, End, Move, Stand, Go, Halt}
use Rattle.memory.specs.LessSpecified.{MemoryLessSpecified, EndLessSpecified}
use Rattle.x86_meaning.specs.Step.{State}
use Rattle.flag_ir.specs.Calculations.{one_if}
use Rattle.flag_ir.specs.Storage.{Storage}

-- a flag of the machine is a word of 0 or 1
abbrev pub FlagMatches : Option Bool → Word → Type 0
FlagMatches None w = Unit {0}
FlagMatches (Some b) w = w ≡ word_of (one_if b)

pub record FlagsMatch (f : Flags) (flags : ℕ → Word) : Type 0 where
  pub cf : FlagMatches f.cf (flags 0)
  pub pf : FlagMatches f.pf (flags 1)
  pub zf : FlagMatches f.zf (flags 2)
  pub sf : FlagMatches f.sf (flags 3)
  pub of : FlagMatches f.of (flags 4)

-- no frame is open; the input is one of bytes, so that what is read into memory is
pub record StateMatches (s : State) (u : Storage) : Type 0 where
  pub regs : (n : ℕ) → n < 8 → WordLessSpecified (s.cpu.regs n) (u.regs n)
  pub flags : FlagsMatch s.cpu.flags u.flags
  pub memory : MemoryLessSpecified s.memory u.memory
  pub left : s.left ≡ u.left
  pub environment : IsEnvironment s.left
  pub frames : u.frames ≡ []

-- what a list and the way of its instruction show, and what they come to
abbrev pub Lifted : Type 0
Lifted = List Label × Result (ℕ × Storage) End

-- What the unit shows and comes to, an address at which it goes on with a storage or an end, matches a move of the machine: where the
-- machine goes on the unit goes on at the same address with a storage that matches, and where the machine uses an unspecified value
-- nothing is asked.
abbrev pub MoveMatches : Move State → List Label → Result (ℕ × Storage) End → Type 0
MoveMatches (Go ls t) ks (Ok p) = (ls ≡ ks) × (t.eip ≡ p.0) × StateMatches t p.1
MoveMatches (Go ls t) ks (Err e) = ⊥
MoveMatches (Stand ls e) ks y = ⊥
MoveMatches (Halt ls e) ks y = EndLessSpecified {A = Lifted} e (ls, Err e) (ks, y)
