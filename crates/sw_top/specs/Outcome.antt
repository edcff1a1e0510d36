-- What a call comes to: its answer, the files after it, how many calls of the host were made, and its line.
use Rattle.std.specs.Prelude.{◌≡◌, ℕ, true, false, List, [], ◌∷◌, ◌++◌, Option, Some, None, Result, Ok, Err}
use Rattle.sw_host.specs.declared.host.HostFault.{HostFault}
use Rattle.sw_host.specs.declared.host.HostFault.TheVariants.{Failed, Memory}
use Rattle.sw_host.specs.Told.{Told}
use Rattle.sw_host.specs.Calls.{fails}
use Rattle.sw_top.specs.declared.command.Command.{Command}
use Rattle.sw_top.specs.declared.command.Command.TheVariants.{Rewrite, Run}
use Rattle.sw_top.specs.declared.end.End.{End}
use Rattle.sw_top.specs.declared.end.End.TheVariants.{Usage}
use Rattle.sw_top.specs.Ends.{line_of}
use Rattle.sw_top.specs.RewriteOutcome.{AnswersRewrite, RewriteLeaves, KeepsFiles}
use Rattle.sw_top.specs.RunOutcome.{AnswersRun, RunLeaves}

-- Which answer comes. Want of memory can stand in the place of any answer but Usage. `rose` says that the host's count of
-- faults has risen in the call.
abbrev pub AnswerIsDue : Option Command → End → Type 0 → Told → Type 0
AnswerIsDue None end rose a = end ≡ Usage
AnswerIsDue (Some (Rewrite names)) end rose a = AnswersRewrite names end rose a
AnswerIsDue (Some (Run running)) end rose a = AnswersRun running end a

-- The files after that answer, and how many calls were made.
abbrev pub FilesAfter : Option Command → End → Told → Told → Type 0
FilesAfter None end a b = KeepsFiles 1 a b
FilesAfter (Some (Rewrite names)) end a b = RewriteLeaves names end a b
FilesAfter (Some (Run running)) end a b = RunLeaves running end a b

-- The lines after the call of a line, by what it answers; b is the host after it, and the line its last call. Ok: the line
-- was added, and the call wasn't to fail. Failed: the lines stayed, and the call was to fail. Memory: the lines stayed.
abbrev pub LineAnswered : List ℕ → Result (Unit {0}) HostFault → List (List ℕ) → Told → Type 0
LineAnswered text (Ok _) lines b = (b.lines ≡ lines ++ text ∷ []) × (fails b ≡ false)
LineAnswered text (Err Failed) lines b = (b.lines ≡ lines) × (fails b ≡ true)
LineAnswered text (Err Memory) lines b = b.lines ≡ lines

-- The lines after a call that has this line to say, or none.
abbrev pub LineAfter : Option (List ℕ) → Told → Told → Type 0
LineAfter None a b = b.lines ≡ a.lines
LineAfter (Some text) a b = (answer : Result (Unit {0}) HostFault) × LineAnswered text answer a.lines b

-- What a call comes to whose words spell this command, or none.
pub record Outcome (command : Option Command) (end : End) (rose : Type 0) (a b : Told) : Type 0 where
  pub answer : AnswerIsDue command end rose a
  pub files : FilesAfter command end a b
  pub line : LineAfter (line_of end) a b
