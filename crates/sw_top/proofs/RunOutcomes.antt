-- What a run comes to, read off its calls.
use Rattle.std.proofs.Common.{◌≡◌, ℕ, ◌+◌, min, List, [], ◌++◌, length, Option, Some, None, Result, Ok, Err, inl, inr, refl, sym, ap, ◌∙◌, append-nil}
use Rattle.image.specs.declared.image.Image.{Image}
use Rattle.image.specs.declared.room.Room.TheVariants.{Any}
use Rattle.elf_image.specs.declared.refusal.Refusal.{Refusal}
use Rattle.elf_image.specs.Image.{image_of}
use Rattle.mem_pages.specs.declared.end.RunEnd.{RunEnd}
use Rattle.sw_host.specs.Told.{Told, last_count}
use Rattle.sw_host.specs.Calls.{called}
use Rattle.traces.specs.Trace.{input_left}
use Rattle.system_calls.specs.Given.{count_after, writes_answered, HasGiven}
use Rattle.sw_top.specs.declared.command.Running.{Running}
use Rattle.sw_top.specs.declared.end.End.{End}
use Rattle.sw_top.specs.declared.end.End.TheVariants.{Done, Ran, Usage, TooLong, Refused, Host, Memory}
use Rattle.sw_top.specs.Ends.{line_of, run_line}
use Rattle.sw_top.specs.Loading.{front_of, IsLoadedWhole, IsLonger, HasFile}
use Rattle.sw_top.specs.Running.{greatest_program, PerformsRun, RunsProgram, RunsOutOfMemory, before_run, in_run}
use Rattle.sw_top.specs.Serves.{SaysLine}
use Rattle.sw_top.specs.RewriteOutcome.{IsOrMemory, KeepsFiles}
use Rattle.sw_top.specs.RunOutcome.{RanOrMemory, AnswersRun, KeepsFilesInRun, lines_said, RunLeaves, HasRun}
use Rattle.sw_top.specs.Outcome.{LineAfter}
use Rattle.sw_top.proofs.FilesAfter.{adds_line, lines_from, loaded_lines, loaded_files, loaded_calls, keeps_files}
use Rattle.sw_top.proofs.LoadLemmas.{whole_has, longer_has, has_whole, has_longer, one_whole, not_none, longer_not_none, not_longer}

-- what a run found, by its answer
data Found (running : Running) (a : Told) (end : End) : Type 0 where
  has_ran : (e : RunEnd) → end ≡ Ran e → (file : List ℕ) (image : Image) → IsLoadedWhole greatest_program running.from a file → image_of file Any ≡ Ok image → Found running a end
  is_long : end ≡ TooLong → IsLonger greatest_program running.from a → Found running a end
  is_refused : (file : List ℕ) (r : Refusal) → end ≡ Refused r → IsLoadedWhole greatest_program running.from a file → image_of file Any ≡ Err r → Found running a end
  is_unloaded : end ≡ Host → front_of greatest_program running.from a ≡ None → Found running a end
  is_wanting : end ≡ Memory → Found running a end

found : (running : Running) (end : End) (a b : Told) → PerformsRun running end a b → Found running a end
found running Done a b p = absurd p
found running (Ran e) a b p = has_ran e refl p.is_program.file p.image p.is_program.is_whole p.is_program.read
found running Usage a b p = absurd p
found running TooLong a b p = is_long refl p.longer
found running (Refused r) a b p = is_refused p.file r refl p.is_whole p.refused
found running Host a b p = is_unloaded refl p.gave
found running Memory a b p = is_wanting refl

-- which answer comes
module _ (running : Running) (a : Told) (end : End) where
  no_file : ((file : List ℕ) → HasFile running.from a file → ⊥) → Found running a end → IsOrMemory Host end
  no_file none (has_ran e is file image w r) = absurd (none file (whole_has greatest_program running.from a file w))
  no_file none (is_long is l) = absurd (none l.file (longer_has greatest_program running.from a l))
  no_file none (is_refused file r is w e) = absurd (none file (whole_has greatest_program running.from a file w))
  no_file none (is_unloaded is e) = inl is
  no_file none (is_wanting is) = inr is

  too_long : IsLonger greatest_program running.from a → Found running a end → IsOrMemory TooLong end
  too_long l (has_ran e is file image w r) = absurd (not_longer greatest_program running.from a file w l)
  too_long l (is_long is o) = inl is
  too_long l (is_refused file r is w e) = absurd (not_longer greatest_program running.from a file w l)
  too_long l (is_unloaded is e) = absurd (longer_not_none greatest_program running.from a l e)
  too_long l (is_wanting is) = inr is

  module _ (file : List ℕ) (p : IsLoadedWhole greatest_program running.from a file) where
    judged : (other : List ℕ) (result : Result Image Refusal) → IsLoadedWhole greatest_program running.from a other → image_of other Any ≡ result → image_of file Any ≡ result
    judged other result w e = ap (λ f. image_of f Any) (sym (one_whole greatest_program running.from a file other p w)) ∙ e

    refused : (r : Refusal) → image_of file Any ≡ Err r → Found running a end → IsOrMemory (Refused r) end
    refused r e (has_ran x is other image w read) = let other_is = judged other (Ok image) w read in cc
    refused r e (is_long is o) = absurd (not_longer greatest_program running.from a file p o)
    refused r e (is_refused other q is w f) = let other_is = judged other (Err q) w f in inl (is ∙ ap Refused cc)
    refused r e (is_unloaded is none) = absurd (not_none greatest_program running.from a file p none)
    refused r e (is_wanting is) = inr is

    ran : (image : Image) → image_of file Any ≡ Ok image → Found running a end → RanOrMemory end
    ran image e (has_ran x is other found_image w read) = inl (x, is)
    ran image e (is_long is o) = absurd (not_longer greatest_program running.from a file p o)
    ran image e (is_refused other q is w f) = let other_is = judged other (Err q) w f in cc
    ran image e (is_unloaded is none) = absurd (not_none greatest_program running.from a file p none)
    ran image e (is_wanting is) = inr is

pub run_answers : (running : Running) (end : End) (a b : Told) → PerformsRun running end a b → AnswersRun running end a
run_answers running end a b s =
    let f = found running end a b s in
    record {
      no_file = λ none. no_file running a end none f;
      file = λ file g. record {
        too_long = λ over. too_long running a end (has_longer greatest_program running.from a file g over) f;
        refused = λ fits r e. refused running a end file (has_whole greatest_program running.from a file g fits) r e f;
        ran = λ fits image e. ran running a end file (has_whole greatest_program running.from a file g fits) image e f;
      };
    }

-- a line, or none, changes nothing else
record SaidSo (text : Option (List ℕ)) (m b : Told) : Type 0 where
  files : b.files ≡ m.files
  left : b.left ≡ m.left
  given : b.given ≡ m.given
  moved : b.moved ≡ m.moved
  calls : b.calls ≡ count_after (lines_said text) m.calls

said_so : (text : Option (List ℕ)) (m b : Told) → SaysLine text m b → SaidSo text m b
said_so None m b p = record {
  files = ap (λ t. t.files) p;
  left = ap (λ t. t.left) p;
  given = ap (λ t. t.given) p;
  moved = ap (λ t. t.moved) p;
  calls = ap (λ t. t.calls) p;
}
said_so (Some text) m b p =
    let line = adds_line text p.0 m b p.1 in
    record { files = line.files; left = line.left; given = line.given; moved = line.moved; calls = line.calls }

line_after : (text : Option (List ℕ)) (a m b : Told) → m.lines ≡ a.lines → SaysLine text m b → LineAfter text a b
line_after None a m b e p = ap (λ t. t.lines) p ∙ e
line_after (Some text) a m b e p = lines_from text a m b (adds_line text p.0 m b p.1) e

-- the load changes nothing but the count of calls
counted : (a : Told) → (called a).calls ≡ min (a.calls + 1) last_count
unfolding called
counted a = refl

called_files : (a : Told) → (called a).files ≡ a.files
unfolding called
called_files a = refl

called_given : (a : Told) → (called a).given ≡ a.given
unfolding called
called_given a = refl

called_left : (a : Told) → (called a).left ≡ a.left
unfolding called
called_left a = refl

called_moved : (a : Told) → (called a).moved ≡ a.moved
unfolding called
called_moved a = refl

called_lines : (a : Told) → (called a).lines ≡ a.lines
unfolding called
called_lines a = refl

module _ (running : Running) (a m b : Told) where
  given_so : (answers : _) (more : ℕ) (labels : _) (text : Option (List ℕ)) → HasGiven answers more labels (called a) m → SaysLine text m b → KeepsFilesInRun more (lines_said text) a b
  given_so answers more labels text h says =
      let said = said_so text m b says in
      record {
        files = said.files ∙ h.files ∙ called_files a;
        answers = answers;
        given = said.given ∙ h.given ∙ ap (λ xs. xs ++ answers) (called_given a);
        calls = said.calls ∙ ap (count_after (lines_said text)) (h.calls ∙ ap (count_after (length answers + more)) (counted a));
      }

  load_alone : (text : List ℕ) → m ≡ called a → SaysLine (Some text) m b → KeepsFiles 2 a b
  load_alone text after says = keeps_files a m after text b (adds_line text says.0 m b says.1)

  -- memory was wanting before the run
  load_then_memory : (text : List ℕ) → m ≡ called a → SaysLine (Some text) m b → KeepsFilesInRun 0 1 a b
  load_then_memory text after says =
      let said = said_so (Some text) m b says in
      record {
        files = said.files ∙ loaded_files a m after;
        answers = [];
        given = said.given ∙ ap (λ t. t.given) after ∙ called_given a ∙ sym (append-nil a.given);
        calls = said.calls ∙ ap (count_after 1) (loaded_calls a m after);
      }

  out_of_memory : (text : List ℕ) → RunsOutOfMemory running a m → SaysLine (Some text) m b → (more : ℕ) × KeepsFilesInRun more 1 a b
  out_of_memory text (before_run after) says = (0, load_then_memory text after says)
  out_of_memory text (in_run s) says = (s.more, given_so s.answers s.more s.labels (Some text) s.host says)

  pub run_leaves : (end : End) → PerformsRun running end a m → SaysLine (line_of end) m b → RunLeaves running end a b
  run_leaves Done p says = absurd p
  run_leaves (Ran e) p says = given_so p.answers 0 p.labels (run_line e) p.host says
  run_leaves Usage p says = absurd p
  run_leaves TooLong p says = load_alone _ p.after says
  run_leaves (Refused r) p says = load_alone _ p.after says
  run_leaves Host p says = load_alone _ p.after says
  run_leaves Memory p says = out_of_memory _ p says

  same_lines : (end : End) → PerformsRun running end a m → m.lines ≡ a.lines
  same_lines Done p = absurd p
  same_lines (Ran e) p = p.host.lines ∙ called_lines a
  same_lines Usage p = absurd p
  same_lines TooLong p = loaded_lines a m p.after
  same_lines (Refused r) p = loaded_lines a m p.after
  same_lines Host p = loaded_lines a m p.after
  same_lines Memory (before_run after) = loaded_lines a m after
  same_lines Memory (in_run s) = s.host.lines ∙ called_lines a

  pub run_line_after : (end : End) → PerformsRun running end a m → SaysLine (line_of end) m b → LineAfter (line_of end) a b
  run_line_after end p says = line_after (line_of end) a m b (same_lines end p) says

-- what Ran means
pub has_run : (running : Running) (end : RunEnd) (a m b : Told) → RunsProgram running end a m → SaysLine (run_line end) m b → HasRun running end a b
has_run running end a m b p says =
    let said = said_so (run_line end) m b says in
    let h = p.host in
    record {
      file = p.is_program.file;
      has_file = whole_has greatest_program running.from a p.is_program.file p.is_program.is_whole;
      image = p.image;
      read = p.is_program.read;
      answers = p.answers;
      given = said.given ∙ h.given ∙ ap (λ xs. xs ++ p.answers) (called_given a);
      labels = p.labels;
      run = p.run;
      taken = h.taken;
      left = said.left ∙ h.left ∙ ap (λ xs. input_left xs p.labels) (called_left a);
      moved = said.moved ∙ h.moved ∙ ap (λ xs. xs ++ writes_answered p.labels) (called_moved a);
      files = said.files ∙ h.files ∙ called_files a;
    }
