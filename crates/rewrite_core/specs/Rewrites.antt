-- What the rewriting of a file answers.
use Rattle.std.specs.Prelude.{◌≡◌, ℕ, List, Some, None, Result, Ok, Err}
use Rattle.elf_image.specs.declared.refusal.Refusal.{Refusal}
use Rattle.elf_image.specs.declared.refusal.Refusal.TheVariants.{NotYet}
use Rattle.image.specs.declared.room.Room.TheVariants.{Source, Any}
use Rattle.elf_image.specs.Refusals.{refusal_of}
use Rattle.elf_image.specs.Image.{image_of}
use Rattle.elf_image.specs.Plain.{plain_image}
use Rattle.rewrite_core.specs.declared.rewriter.Rewritten.{Rewritten}
use Rattle.rewrite_core.specs.declared.rewriter.RewriteError.{RewriteError}
use Rattle.rewrite_core.specs.declared.rewriter.RewriteError.TheVariants.{Refused, Memory}
use Rattle.rewrite_core.specs.Met.{IsRewritable}
use Rattle.rewrite_core.specs.Places.{IsLaid}
use Rattle.rewrite_core.specs.Layout.{text_of, new_file, new_image}
use Rattle.rewrite_core.specs.Agreement.{RunsAgree}

-- why a file is refused: by the first refusal of the definition of an image, or, where it is accepted, because it isn't
-- rewritten so far
pub data IsRefused (file : List ℕ) (r : Refusal) : Type 0 where
  by_image : refusal_of file Source ≡ Some r → IsRefused file r
  not_yet : r ≡ NotYet → refusal_of file Source ≡ None → (IsRewritable file → ⊥) → IsRefused file r

-- What a file is rewritten to: the file with the new code of its page, which is accepted in the wide room as the stated image,
-- the old file being accepted in the room of files that are rewritten; and the runs of the two images agree.
pub record IsWritten (file out : List ℕ) : Type 0 where
  pub rewritable : IsRewritable file
  pub code : List ℕ
  pub laid : IsLaid (text_of file) code
  pub is : out ≡ new_file (text_of file) code
  pub read : image_of file Source ≡ Ok (plain_image file)
  pub accepted : image_of out Any ≡ Ok (new_image (text_of file) code)
  pub agrees : RunsAgree (plain_image file) (new_image (text_of file) code)

-- each refusal is the first that holds
abbrev pub Rewrites : List ℕ → Result Rewritten RewriteError → Type 0
Rewrites file (Ok r) = IsWritten file r.file
Rewrites file (Err (Refused r)) = IsRefused file r
Rewrites file (Err Memory) = Unit {0}
