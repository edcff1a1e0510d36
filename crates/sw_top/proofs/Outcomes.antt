-- What a call comes to, read off what it does.
use Rattle.std.proofs.Common.{◌≡◌, ◌≢◌, ℕ, List, Some, None, refl, sym}
use Rattle.elf_image.specs.Plain.{PlainIsAccepted}
use Rattle.mem_pages.specs.declared.end.RunEnd.{RunEnd}
use Rattle.sw_host.specs.Told.{Told}
use Rattle.sw_host.specs.Laws.{StoredFile, OtherFiles, FailsAlike}
use Rattle.sw_top.specs.declared.command.Command.{Command}
use Rattle.sw_top.specs.declared.command.Command.TheVariants.{Rewrite, Run}
use Rattle.sw_top.specs.declared.end.End.{End}
use Rattle.sw_top.specs.declared.end.End.TheVariants.{Done, Ran, Usage, Host}
use Rattle.sw_top.specs.Commands.{command_of}
use Rattle.sw_top.specs.Laws.{RewriteIsSpelled}
use Rattle.sw_top.specs.Serves.{SaysUsage, PerformsThenSays}
use Rattle.sw_top.specs.Outcome.{Outcome}
use Rattle.sw_top.specs.Headline.{AfterDone, AfterRan}
use Rattle.sw_top.proofs.StoredFiles.{FileLaws, rewrote}
use Rattle.sw_top.proofs.FilesAfter.{line_alone, leaves}
use Rattle.sw_top.proofs.DueAnswers.{answers}
use Rattle.sw_top.proofs.RunOutcomes.{run_answers, run_leaves, run_line_after, has_run}

-- the laws of the crates below
pub record LawsBelow : Type 0 where
  pub plain : PlainIsAccepted
  pub stored_file : StoredFile
  pub other_files : OtherFiles
  pub alike : FailsAlike

file_laws : LawsBelow → FileLaws
file_laws laws = record { stored_file = laws.stored_file; other_files = laws.other_files }

-- what a command that words spell has
abbrev pub IsFit : Command → Type 0
IsFit (Rewrite names) = names.to ≢ names.map
IsFit (Run running) = Unit {0}

pub is_fit : RewriteIsSpelled → (words : List (List ℕ)) (command : Command) → Some command ≡ command_of words → IsFit command
is_fit law words (Rewrite names) e = ((law words names).0 (sym e)).apart
is_fit law words (Run running) e = tt

pub usage_outcome : (rose : Type 0) (a b : Told) → SaysUsage Usage a b → Outcome None Usage rose a b
usage_outcome rose a b s =
    let x = line_alone _ s.says.0 a b s.says.1 in
    record { answer = refl; files = x.0; line = x.1 }

pub outcome : LawsBelow → (command : Command) → IsFit command → (end : End) (rose : Type 0) (a b : Told) → (end ≡ Host → rose) → PerformsThenSays command end a b → Outcome (Some command) end rose a b
outcome laws (Rewrite names) apart end rose a b cause s =
    let x = leaves (file_laws laws) names apart a s.before_line b end s.performs s.says in
    record { answer = answers laws.plain laws.alike names end rose a s.before_line cause s.performs; files = x.0; line = x.1 }
outcome laws (Run running) fit end rose a b cause s =
    record {
      answer = run_answers running end a s.before_line s.performs;
      files = run_leaves running a s.before_line b end s.performs s.says;
      line = run_line_after running a s.before_line b end s.performs s.says;
    }

pub after_done : LawsBelow → (command : Command) → IsFit command → (a b : Told) → PerformsThenSays command Done a b → AfterDone (Some command) a b
after_done laws (Rewrite names) apart a b s = rewrote (file_laws laws) names a s.before_line b apart s.performs s.says
after_done laws (Run running) fit a b s = absurd s.performs

pub after_ran : (command : Command) (end : RunEnd) (a b : Told) → PerformsThenSays command (Ran end) a b → AfterRan (Some command) end a b
after_ran (Rewrite names) end a b s = absurd s.performs
after_ran (Run running) end a b s = has_run running end a s.before_line b s.performs s.says
