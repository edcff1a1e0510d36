-- The image of a file: the bytes and permissions of each address, and the entry.
use Rattle.std.specs.Prelude.{ℕ, ◌-◌, ◌*◌, ◌%◌, List, map, Option, Some, None, Result, Ok, Err}
use Rattle.elf_image.specs.declared.header.ProgramHeader.{ProgramHeader}
use Rattle.image.specs.declared.image.Segment.{Segment}
use Rattle.image.specs.declared.image.Image.{Image}
use Rattle.image.specs.declared.room.Room.{Room}
use Rattle.elf_image.specs.declared.refusal.Refusal.{Refusal}
use Rattle.elf_image.specs.Fields.{e_entry}
use Rattle.elf_image.specs.Pages.{first_page, end_page, page_bytes}
use Rattle.elf_image.specs.Refusals.{refusal_of, segments_of}

-- the segment of a program header: its whole pages, and their permissions; bits of p_flags above PF_R are passed over
abbrev pub segment_of : List ℕ → ProgramHeader → Segment
segment_of file h = record { start = 4096 * first_page h; size = 4096 * (end_page h - first_page h); perm = record { 0 = h.p_flags % 8 }; bytes = page_bytes file h }

-- a file's image where no refusal holds, and otherwise the refusal
abbrev pub image_if : List ℕ → Option Refusal → Result Image Refusal
image_if file None = Ok (record { segments = map (segment_of file) (segments_of file); entry = e_entry file })
image_if file (Some r) = Err r

-- the image of an accepted file, or the first refusal
unfoldable pub image_of : List ℕ → Room → Result Image Refusal
image_of file room = image_if file (refusal_of file room)
