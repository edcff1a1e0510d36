-- The span of code, of the segments that can be run alone.
use Rattle.std.specs.Prelude.{ℕ, ◌-◌, ◌*◌, List, map}
use Rattle.elf_image.specs.declared.header.ProgramHeader.{ProgramHeader}
use Rattle.elf_image.specs.Pages.{first_page, end_page}
use Rattle.image.specs.Rooms.{greatest, least}

-- the bytes from the first page of these segments to the end of the last; `code_span hs` is `span_of (filter has_code hs)`
abbrev pub span_of : List ProgramHeader → ℕ
span_of code = 4096 * (greatest (map end_page code) - least (map first_page code))
