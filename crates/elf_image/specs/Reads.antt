-- What the reading of a file answers.
use Rattle.std.specs.Prelude.{◌≡◌, ℕ, List, None, Result, Ok, Err}
use Rattle.image.specs.declared.image.Image.{Image}
use Rattle.image.specs.declared.room.Room.{Room}
use Rattle.elf_image.specs.declared.refusal.Refusal.{Refusal}
use Rattle.elf_image.specs.declared.refusal.ImageError.{ImageError}
use Rattle.elf_image.specs.declared.refusal.ImageError.TheVariants.{Refused, Memory}
use Rattle.elf_image.specs.Image.{image_of}
use Rattle.elf_image.specs.Refusals.{first, header_tests}

-- the file is accepted, and this is its image
pub record IsImage (file : List ℕ) (room : Room) (image : Image) : Type 0 where
  pub is : image_of file room ≡ Ok image

-- the file is refused, and this is the first refusal that holds
pub record IsFirstRefusal (file : List ℕ) (room : Room) (refusal : Refusal) : Type 0 where
  pub is : image_of file room ≡ Err refusal

-- the answer of a reading: the image of the file, or its first refusal; memory runs out only where no test of the file's header holds
abbrev pub ReadsImage : List ℕ → Room → Result Image ImageError → Type 0
ReadsImage file room (Ok image) = IsImage file room image
ReadsImage file room (Err (Refused refusal)) = IsFirstRefusal file room refusal
ReadsImage file room (Err Memory) = first (header_tests file) ≡ None
