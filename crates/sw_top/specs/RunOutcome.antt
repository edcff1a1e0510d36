-- What a run comes to: which answer comes, what the files are then, and how many calls were made.
use Rattle.std.specs.Prelude.{◌≡◌, ◌⊎◌, ◌<◌, ◌≤◌, ℕ, ◌+◌, min, List, ◌++◌, length, Option, Some, None, Ok, Err}
use Rattle.outside.specs.declared.answer.Answer.{Answer}
use Rattle.traces.specs.Trace.{Label, taken, input_left, seen}
use Rattle.image.specs.declared.image.Image.{Image}
use Rattle.image.specs.declared.room.Room.TheVariants.{Any}
use Rattle.elf_image.specs.declared.refusal.Refusal.{Refusal}
use Rattle.elf_image.specs.Image.{image_of}
use Rattle.mem_pages.specs.declared.end.RunEnd.{RunEnd}
use Rattle.mem_pages.specs.Ends.{end_of_run}
use Rattle.sw_host.specs.Told.{Told, last_count}
use Rattle.system_calls.specs.Given.{count_after, writes_answered}
use Rattle.sw_top.specs.declared.command.Running.{Running}
use Rattle.sw_top.specs.declared.end.End.{End}
use Rattle.sw_top.specs.declared.end.End.TheVariants.{Done, Ran, Usage, TooLong, Refused, Host, Memory}
use Rattle.sw_top.specs.Ends.{run_line}
use Rattle.sw_top.specs.Loading.{HasFile}
use Rattle.sw_top.specs.Running.{greatest_program, run_over}
use Rattle.sw_top.specs.RewriteOutcome.{IsOrMemory, KeepsFiles}

-- The answer is an end of a run, or memory was wanting.
abbrev pub RanOrMemory : End → Type 0
RanOrMemory end = ((e : RunEnd) × (end ≡ Ran e)) ⊎ (end ≡ Memory)

-- Which answer comes where IN is a file whose load isn't to fail.
pub record AnswersProgram (file : List ℕ) (end : End) : Type 0 where
  pub too_long : greatest_program < length file → IsOrMemory TooLong end
  pub refused : length file ≤ greatest_program → (r : Refusal) → image_of file Any ≡ Err r → IsOrMemory (Refused r) end
  pub ran : length file ≤ greatest_program → (image : Image) → image_of file Any ≡ Ok image → RanOrMemory end

-- Which answer comes: Host where there is no such file.
pub record AnswersRun (running : Running) (end : End) (a : Told) : Type 0 where
  pub no_file : ((file : List ℕ) → HasFile running.from a file → ⊥) → IsOrMemory Host end
  pub file : (file : List ℕ) → HasFile running.from a file → AnswersProgram file end

-- How many calls say this line, where there is one.
abbrev pub lines_said : Option (List ℕ) → ℕ
lines_said None = 0
lines_said (Some text) = 1

-- No file changed. The calls were the load, the takes and puts that gave these answers, `more` that gave none, and then this
-- many lines.
pub record KeepsFilesInRun (more said : ℕ) (a b : Told) : Type 0 where
  pub files : b.files ≡ a.files
  pub answers : List Answer
  pub given : b.given ≡ a.given ++ answers
  pub calls : b.calls ≡ count_after said (count_after (length answers + more) (min (a.calls + 1) last_count))

-- The files after a run with this answer, and how many calls were made. No run answers Usage or Done.
abbrev pub RunLeaves : Running → End → Told → Told → Type 0
RunLeaves running Done a b = ⊥
RunLeaves running (Ran end) a b = KeepsFilesInRun 0 (lines_said (run_line end)) a b
RunLeaves running Usage a b = ⊥
RunLeaves running TooLong a b = KeepsFiles 2 a b
RunLeaves running (Refused r) a b = KeepsFiles 2 a b
RunLeaves running Host a b = KeepsFiles 2 a b
RunLeaves running Memory a b = (more : ℕ) × KeepsFilesInRun more 1 a b

-- What Ran means. The file IN before the call has an image in the wide room. Over that image, the stack of the words, the input that
-- was left at entry and the answers that were given in this call, each of which the run takes, the run of at most so many steps has
-- this end; none, where they are spent. The input left is what the run leaves. The writes of the run that took an answer were moved, in
-- order. No file changed.
pub record HasRun (running : Running) (end : RunEnd) (a b : Told) : Type 0 where
  pub file : List ℕ
  pub has_file : HasFile running.from a file
  pub image : Image
  pub read : image_of file Any ≡ Ok image
  pub answers : List Answer
  pub given : b.given ≡ a.given ++ answers
  pub labels : List Label
  pub run : run_over image running.words a answers running.steps ≡ seen labels (end_of_run end)
  pub taken : taken labels ≡ length answers
  pub left : b.left ≡ input_left a.left labels
  pub moved : b.moved ≡ a.moved ++ writes_answered labels
  pub files : b.files ≡ a.files
