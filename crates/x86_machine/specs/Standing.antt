-- Where a machine stands in a run.
use Rattle.std.specs.Prelude.{◌≡◌, ℕ, List, Option, None}
use Rattle.image.specs.declared.image.Image.{Image}
use Rattle.outside.specs.Environment.{Environment}
use Rattle.mem_pages.specs.Contents.{memory_in}
use Rattle.mem_pages.specs.declared.end.RunEnd.{RunEnd}
use Rattle.x86_code.specs.Code.{Code, code_of}
use Rattle.x86_meaning.specs.Step.{State}
use Rattle.x86_meaning.specs.Run.{start_of}
use Rattle.x86_step.specs.Steps.{state_of}
use Rattle.x86_machine.specs.declared.machine.Machine.{Machine}
use Rattle.x86_machine.specs.Kept.{code_by}

-- which instructions its run has
unfoldable pub code_in : Machine → Code
code_in m = code_by m.code.segments

-- the state in which it stands, with what is left of the outside
unfoldable pub state_in : Machine → Environment → State
state_in m left = state_of m.cpu (memory_in m.pages) left

-- how many steps it has made
abbrev pub steps_in : Machine → ℕ
steps_in m = m.steps

-- the end of its run, where it has come to one
abbrev pub ended_in : Machine → Option RunEnd
ended_in m = m.ended

-- it stands at the start of the run of an image
pub record StandsAtStart (image : Image) (esp0 : ℕ) (stack : List ℕ) (m : Machine) : Type 0 where
  pub code : code_in m ≡ code_of image
  pub state : (left : Environment) → state_in m left ≡ start_of image esp0 stack left
  pub steps : steps_in m ≡ 0
  pub ended : ended_in m ≡ None
