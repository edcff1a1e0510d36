-- Whether a return finds what it has to. All of this is own.
use Rattle.std.specs.Prelude.{◌≡◌, ℕ, ◌+◌, Bool, true, false, List, [], ◌∷◌, Result, Ok, Err}
use Rattle.x86_values.specs.declared.word.Word.{Word}
use Rattle.traces.specs.Trace.{End}
use Rattle.traces.specs.Trace as trace
use Rattle.memory.specs.Memory.{Memory, wrapped}
use Rattle.flag_ir.specs.declared.procedure.Proc.{Proc}
use Rattle.flag_ir.specs.Storage.{Storage}
use Rattle.flag_ir.specs.Entering.{Onward, checked, unless_changed}
use Rattle.unit_frames.specs.declared.frame.OpenFrame.{OpenFrame}
use Rattle.unit_frames.specs.declared.returning.ReturnCheck.{ReturnCheck}
use Rattle.unit_frames.specs.declared.returning.ReturnCheck.TheVariants as check
use Rattle.unit_frames.specs.Kept.{frame_of}
use Rattle.unit_frames.specs.Opened.{from_caller}

abbrev pub comparison_of : ReturnCheck → Result Bool End
comparison_of check.Kept = Ok true
comparison_of check.Changed = Ok false
comparison_of check.Unspecified = Err trace.Unspecified

-- the word at an address, in the innermost frame or in memory
abbrev pub word_around : List OpenFrame → Memory → ℕ → Word
word_around fs m a = record { b0 = from_caller fs m (wrapped a); b1 = from_caller fs m (wrapped (a + 1)); b2 = from_caller fs m (wrapped (a + 2)); b3 = from_caller fs m (wrapped (a + 3)) }

-- a return of the innermost frame goes on so, over the procedures of any unit
abbrev pub Checks : ReturnCheck → List OpenFrame → Memory → Word → Type 0
Checks r [] m w = Unit {0}
Checks r (f ∷ more) m w = (procs : List Proc) (turn : ℕ) (u : Storage) (done : Onward) → u.memory ≡ m → u.regs 5 ≡ w → checked turn f.kind (frame_of procs f) u done ≡ unless_changed turn (comparison_of r) done
