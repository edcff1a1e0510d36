-- What a host gave to the calls of a run, and what the run shows of it.
use Rattle.std.specs.Prelude.{◌≡◌, ℕ, zero, suc, ◌+◌, min, Bool, true, false, List, [], ◌∷◌, ◌++◌, length}
use Rattle.outside.specs.declared.answer.Answer.{Answer}
use Rattle.outside.specs.Environment.{Environment}
use Rattle.traces.specs.Trace.{Label, Turn, Took, Made, Read, Write, taken, input_left}
use Rattle.sw_host.specs.Told.{Told, last_count}

-- the environment of a run: the input that the host has left, and these answers
abbrev pub environment : Told → List Answer → Environment
environment a answers = record { input = a.left; answers = answers }

-- the file descriptor and the bytes of each write of a trace that took an answer, in order; `took` says whether one was taken just before
abbrev pub writes_from : Bool → List Label → List (ℕ × List ℕ)
writes_from took [] = []
writes_from took (Turn a ∷ ls) = writes_from false ls
writes_from took (Took ∷ ls) = writes_from true ls
writes_from took (Made (Read fd bytes result) ∷ ls) = writes_from false ls
writes_from true (Made (Write fd bytes result) ∷ ls) = (fd, bytes) ∷ writes_from false ls
writes_from false (Made (Write fd bytes result) ∷ ls) = writes_from false ls

abbrev pub writes_answered : List Label → List (ℕ × List ℕ)
writes_answered ls = writes_from false ls

-- whether a trace ends where an answer was taken and its event isn't shown yet
abbrev pub took_after : Bool → List Label → Bool
took_after took [] = took
took_after took (Turn a ∷ ls) = took_after false ls
took_after took (Took ∷ ls) = took_after true ls
took_after took (Made e ∷ ls) = took_after false ls

-- a count after so many more; it stops at its greatest number
abbrev pub count_after : ℕ → ℕ → ℕ
count_after zero count = count
count_after (suc n) count = count_after n (min (count + 1) last_count)

-- What a host told before a and tells now, b: it gave these answers, each of which the trace takes; the input left is what the reads of the
-- trace leave; and its writes that took an answer were moved. Nothing else changed. `more` calls gave no answer.
pub record HasGiven (answers : List Answer) (more : ℕ) (ls : List Label) (a b : Told) : Type 0 where
  pub given : b.given ≡ a.given ++ answers
  pub taken : taken ls ≡ length answers
  pub left : b.left ≡ input_left a.left ls
  pub moved : b.moved ≡ a.moved ++ writes_answered ls
  pub shown : took_after false ls ≡ false
  pub calls : b.calls ≡ count_after (length answers + more) a.calls
  pub files : b.files ≡ a.files
  pub lines : b.lines ≡ a.lines
  pub failing : b.failing ≡ a.failing
