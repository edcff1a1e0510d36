-- What a command that is done, or has run, means, in terms of files and their runs.
use Rattle.std.specs.Prelude.{◌≡◌, ◌≢◌, ℕ, List, Option, Some, None, Ok}
use Rattle.std.specs.FinMap.{get}
use Rattle.image.specs.declared.image.Image.{Image}
use Rattle.image.specs.declared.room.Room.TheVariants.{Source, Any}
use Rattle.elf_image.specs.Image.{image_of}
use Rattle.rewrite_core.specs.Agreement.{RunsAgree}
use Rattle.mem_pages.specs.declared.end.RunEnd.{RunEnd}
use Rattle.sw_host.specs.Told.{Told}
use Rattle.sw_top.specs.declared.command.Names.{Names}
use Rattle.sw_top.specs.RunOutcome.{HasRun}
use Rattle.sw_top.specs.declared.command.Command.{Command}
use Rattle.sw_top.specs.declared.command.Command.TheVariants.{Rewrite, Run}
use Rattle.sw_top.specs.Rewriting.{map_text}

-- The file IN before the call and the file OUT after it are read as images, in the room of files that are rewritten and in
-- the wide room, and the runs of the two images agree. MAP is the stated text, and no other file changed.
pub record Rewrote (names : Names) (a b : Told) : Type 0 where
  pub file : List ℕ
  pub out : List ℕ
  pub had : get a.files names.from ≡ Some file
  pub has : get b.files names.to ≡ Some out
  pub map : get b.files names.map ≡ Some map_text
  pub others : (q : List ℕ) → q ≢ names.to → q ≢ names.map → get b.files q ≡ get a.files q
  pub old : Image
  pub new : Image
  pub read : image_of file Source ≡ Ok old
  pub accepted : image_of out Any ≡ Ok new
  pub agree : RunsAgree old new

-- What Done means, by the command. Words that spell no command are never done, and a run has an end of its own.
abbrev pub AfterDone : Option Command → Told → Told → Type 0
AfterDone None a b = ⊥
AfterDone (Some (Rewrite names)) a b = Rewrote names a b
AfterDone (Some (Run running)) a b = ⊥

-- What Ran means, by the command. Only a run is answered so.
abbrev pub AfterRan : Option Command → RunEnd → Told → Told → Type 0
AfterRan None end a b = ⊥
AfterRan (Some (Rewrite names)) end a b = ⊥
AfterRan (Some (Run running)) end a b = HasRun running end a b
