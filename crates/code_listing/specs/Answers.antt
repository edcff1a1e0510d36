-- What a file is answered with, and the text of an answer that is no listing.
use Rattle.std.specs.Prelude.{◌≡◌, ℕ, ◌++◌, List, Result, Ok, Err, codes}
use Rattle.std.specs.Fmt.{decimal}
use Rattle.image.specs.declared.image.Image.{Image}
use Rattle.image.specs.declared.room.Room.TheVariants.{Source}
use Rattle.elf_image.specs.Names.{refusal_name}
use Rattle.elf_image.specs.Reads.{IsImage, IsFirstRefusal}
use Rattle.plan_types.specs.declared.found.Found.{Found}
use Rattle.plan_types.specs.FoundCode.{IsFoundCode, IsMoreThan}
use Rattle.code_listing.specs.declared.listing_error.ListingError.{ListingError}
use Rattle.code_listing.specs.declared.listing_error.ListingError.TheVariants.{Refused, TooMuchCode, Memory}

-- its image in the room of files that are rewritten, or the first cause for which it is refused
abbrev pub Reads : List ℕ → Result Image ListingError → Type 0
Reads file (Ok image) = IsImage file Source image
Reads file (Err (Refused refusal)) = IsFirstRefusal file Source refusal
Reads file (Err (TooMuchCode count)) = ⊥
Reads file (Err Memory) = Unit {0}

-- its found code, or that more than 32,768 instructions are found
abbrev pub Finds : Image → Result Found ListingError → Type 0
Finds image (Ok found) = IsFoundCode image found
Finds image (Err (Refused refusal)) = ⊥
Finds image (Err (TooMuchCode count)) = (count ≡ 32769) × IsMoreThan image 32768
Finds image (Err Memory) = Unit {0}

-- the line that is printed, without its end
abbrev pub error_text : ListingError → List ℕ
error_text (Refused refusal) = codes "refused " ++ refusal_name refusal
error_text (TooMuchCode count) = codes "too much code " ++ decimal count
error_text Memory = codes "out of memory"
