-- What the definitions of the top call come to.
use Rattle.std.specs.Prelude.{◌≡◌, ◌≢◌, ◌<◌, ◌≤◌, ◌↔◌, ℕ, List, [], ◌∷◌, All, codes, decimal, Some}
use Rattle.x86_meaning.specs.Run.{IsStart}
use Rattle.sw_top.specs.declared.command.Names.{Names}
use Rattle.sw_top.specs.declared.command.Running.{Running}
use Rattle.sw_top.specs.declared.command.Command.TheVariants.{Rewrite, Run}
use Rattle.sw_top.specs.Stacks.{stack_size, greatest_stack, first_esp, start_stack}
use Rattle.sw_top.specs.Commands.{command_of, plain_steps, most_steps}

-- The words are `rewrite IN OUT MAP`, with these names, and OUT and MAP are different.
pub record IsRewrite (words : List (List ℕ)) (names : Names) : Type 0 where
  pub words_are : words ≡ codes "rewrite" ∷ names.from ∷ names.to ∷ names.map ∷ []
  pub apart : names.to ≢ names.map

-- Words spell a rewriting exactly where they are so.
abbrev pub RewriteIsSpelled : Type 0
RewriteIsSpelled = (words : List (List ℕ)) (names : Names) → (command_of words ≡ Some (Rewrite names)) ↔ IsRewrite words names

-- The words are `run IN ARGS` or `run-steps N IN ARGS`, where N is at most 4,000,000,000 and written as a number is.
pub data HasRunForm (words : List (List ℕ)) (running : Running) : Type 0 where
  plainly : words ≡ codes "run" ∷ running.words → running.steps ≡ plain_steps → HasRunForm words running
  with_steps : words ≡ codes "run-steps" ∷ decimal running.steps ∷ running.words → running.steps ≤ most_steps → HasRunForm words running

-- They are so, with this IN and these words from IN on, and their stack has at most 128 KiB.
pub record IsRun (words : List (List ℕ)) (running : Running) : Type 0 where
  pub form : HasRunForm words running
  pub args : List (List ℕ)
  pub from_is : running.words ≡ running.from ∷ args
  pub fits : stack_size running.words ≤ greatest_stack

-- Words spell a run exactly where they are so.
abbrev pub RunIsSpelled : Type 0
RunIsSpelled = (words : List (List ℕ)) (running : Running) → (command_of words ≡ Some (Run running)) ↔ IsRun words running

-- A stack of words that is small enough, and whose items are bytes, is one that a run can begin with.
abbrev pub StackIsStart : Type 0
StackIsStart = (words : List (List ℕ)) → stack_size words ≤ greatest_stack → All (λ b. b < 256) (start_stack words) → IsStart (first_esp words) (start_stack words)
