-- What is said of every accepted file.
use Rattle.std.specs.Prelude.{◌≡◌, ℕ, List, Ok}
use Rattle.image.specs.declared.image.Image.{Image}
use Rattle.image.specs.declared.room.Room.{Room}
use Rattle.image.specs.declared.room.Room.TheVariants.{Source, Any}
use Rattle.image.specs.Wanted.{FitsWideRoom}
use Rattle.elf_image.specs.Image.{image_of}

-- a file that the source room accepts is accepted in the wide room, as the same image
abbrev pub SourceIsAny : Type 0
SourceIsAny = (file : List ℕ) (image : Image) → image_of file Source ≡ Ok image → image_of file Any ≡ Ok image

-- the image of a file that a room accepts is as the wide room wants it
abbrev pub AcceptedFits : Type 0
AcceptedFits = (file : List ℕ) (room : Room) (image : Image) → image_of file room ≡ Ok image → FitsWideRoom image.segments image.entry
