-- What a run does to what a host tells: the load of IN, and then the takes and puts of the run of its image.
use Rattle.std.specs.Prelude.{◌≡◌, ◌≤◌, ℕ, List, ◌++◌, None, Result, Ok, Err}
use Rattle.outside.specs.declared.answer.Answer.{Answer}
use Rattle.traces.specs.Trace.{Label, Behaviour, IsPrefix, seen}
use Rattle.image.specs.declared.image.Image.{Image}
use Rattle.image.specs.declared.room.Room.TheVariants.{Any}
use Rattle.elf_image.specs.declared.refusal.Refusal.{Refusal}
use Rattle.elf_image.specs.Image.{image_of}
use Rattle.mem_pages.specs.declared.end.RunEnd.{RunEnd}
use Rattle.mem_pages.specs.Ends.{end_of_run}
use Rattle.x86_meaning.specs.Run as meaning
use Rattle.sw_host.specs.Told.{Told}
use Rattle.sw_host.specs.Calls.{called}
use Rattle.system_calls.specs.Given.{environment, HasGiven}
use Rattle.sw_top.specs.declared.command.Running.{Running}
use Rattle.sw_top.specs.declared.end.End.{End}
use Rattle.sw_top.specs.declared.end.End.TheVariants.{Done, Ran, Usage, TooLong, Refused, Host, Memory}
use Rattle.sw_top.specs.Stacks.{first_esp, start_stack}
use Rattle.sw_top.specs.Loading.{front_of, IsLoadedWhole, IsLonger}

-- The most bytes of a file that is run: 512 MiB. (own)
abbrev pub greatest_program : ℕ
greatest_program = 536870912

-- The run of an image from the stack of these words, over the input that a host has left and these answers.
abbrev pub run_over : Image → List (List ℕ) → Told → List Answer → Behaviour
run_over image words a answers = meaning.run_of image (first_esp words) (start_stack words) (environment a answers)

-- IN was loaded, and has an image in the wide room.
pub record IsProgram (running : Running) (a : Told) (image : Image) : Type 0 where
  pub file : List ℕ
  pub is_whole : IsLoadedWhole greatest_program running.from a file
  pub read : image_of file Any ≡ Ok image

-- Ran: of at most so many steps the run of the image, over the answers that the host gave, has these labels and this end, or none
-- where the steps are spent. The host gave the answers to its takes and puts.
pub record RunsProgram (running : Running) (end : RunEnd) (a b : Told) : Type 0 where
  pub image : Image
  pub is_program : IsProgram running a image
  pub answers : List Answer
  pub labels : List Label
  pub run : run_over image running.words a answers running.steps ≡ seen labels (end_of_run end)
  pub host : HasGiven answers 0 labels (called a) b

-- TooLong: IN has more than 512 MiB, and the load was the only call.
pub record PassesGreatest (running : Running) (a b : Told) : Type 0 where
  pub longer : IsLonger greatest_program running.from a
  pub after : b ≡ called a

-- Refused: IN was loaded as a file that is refused, and the load was the only call.
pub record RefusesProgram (running : Running) (r : Refusal) (a b : Told) : Type 0 where
  pub file : List ℕ
  pub is_whole : IsLoadedWhole greatest_program running.from a file
  pub refused : image_of file Any ≡ Err r
  pub after : b ≡ called a

-- Host: the load failed.
pub record FailsToLoad (running : Running) (a b : Told) : Type 0 where
  pub gave : front_of greatest_program running.from a ≡ None
  pub after : b ≡ called a

-- Memory: memory was wanting before the run, or in it after some of its steps, whose takes and puts were made; `more` gave no answer.
pub record StopsInRun (running : Running) (a b : Told) : Type 0 where
  pub image : Image
  pub is_program : IsProgram running a image
  pub answers : List Answer
  pub labels : List Label
  pub more : ℕ
  pub steps : ℕ
  pub within : steps ≤ running.steps
  pub run : (rest : List Answer) → IsPrefix labels (run_over image running.words a (answers ++ rest) steps).trace
  pub host : HasGiven answers more labels (called a) b

pub data RunsOutOfMemory (running : Running) (a b : Told) : Type 0 where
  before_run : b ≡ called a → RunsOutOfMemory running a b
  in_run : StopsInRun running a b → RunsOutOfMemory running a b

-- The calls of a run that ends so. No run ends with Usage or Done.
abbrev pub PerformsRun : Running → End → Told → Told → Type 0
PerformsRun running Done a b = ⊥
PerformsRun running (Ran end) a b = RunsProgram running end a b
PerformsRun running Usage a b = ⊥
PerformsRun running TooLong a b = PassesGreatest running a b
PerformsRun running (Refused r) a b = RefusesProgram running r a b
PerformsRun running Host a b = FailsToLoad running a b
PerformsRun running Memory a b = RunsOutOfMemory running a b

-- What the load of IN comes to: the program, or the end of the call.
abbrev pub LoadsProgram : Running → Result Image End → Told → Told → Type 0
LoadsProgram running (Ok image) a b = IsProgram running a image × (b ≡ called a)
LoadsProgram running (Err end) a b = PerformsRun running end a b
