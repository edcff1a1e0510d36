-- Whether a segment begins before the one before it ends.
use Rattle.std.specs.Prelude.{ℕ, ◌||◌, Bool, false, ltb, List, [], ◌∷◌}
use Rattle.elf_image.specs.declared.header.ProgramHeader.{ProgramHeader}
use Rattle.elf_image.specs.Pages.{first_page, end_page}

-- a segment begins before the page at which the one in front of it ends; for the first segment that page is `end`
abbrev pub overlaps : ℕ → List ProgramHeader → Bool
overlaps end [] = false
overlaps end (h ∷ hs) = ltb (first_page h) end || overlaps (end_page h) hs
