-- The plain form: the one file layout that is rewritten so far. (own)
use Rattle.std.specs.Prelude.{◌≡◌, ℕ, ◌==◌, ◌&&◌, Bool, true, leb, List, [], ◌∷◌, length, take, drop, Ok, slice_index}
use Rattle.elf_image.specs.declared.header.ProgramHeader.{ProgramHeader}
use Rattle.image.specs.declared.image.Segment.{Segment}
use Rattle.image.specs.declared.image.Image.{Image}
use Rattle.image.specs.declared.room.Room.{Room}
use Rattle.elf_image.specs.Fields.{has_magic, e_type, e_machine, e_entry, e_phoff, e_phentsize, e_phnum, header_at}
use Rattle.elf_image.specs.Image.{image_of}

-- an ELF32 executable for the i386 whose two program headers stand at 52, its entry being the first byte of its code
abbrev pub has_plain_header : List ℕ → Bool
has_plain_header file =
    slice_index file 4 == 1 && slice_index file 5 == 1 && slice_index file 6 == 1 && e_type file == 2 && e_machine file == 3
    && e_entry file == 0x08049000 && e_phoff file == 52 && e_phentsize file == 32 && e_phnum file == 2

-- one page of code at most
abbrev pub is_plain_text : ProgramHeader → Bool
is_plain_text h =
    h.p_type == 1 && h.p_offset == 0x1000 && h.p_vaddr == 0x08049000 && h.p_filesz == h.p_memsz && leb 1 h.p_filesz && leb h.p_filesz 4096 && h.p_flags == 5

-- one page of zeros that can be written
abbrev pub is_plain_room : ProgramHeader → Bool
is_plain_room h =
    h.p_type == 1 && h.p_offset == 0x2000 && h.p_vaddr == 0x0804A000 && h.p_filesz == 0 && h.p_memsz == 4096 && h.p_flags == 6

-- two pages in all, a header's and the code's
unfoldable pub is_plain : List ℕ → Bool
is_plain file = length file == 8192 && has_plain_header file && is_plain_text (header_at file 52) && is_plain_room (header_at file 84)

-- the page of code, with the rest of that page of the file
abbrev pub text_segment : List ℕ → Segment
text_segment file = record { start = 0x08049000; size = 4096; perm = record { 0 = 5 }; bytes = take 4096 (drop 4096 file) }

-- the page of zeros, none of whose bytes stand in the file
abbrev pub room_segment : Segment
room_segment = record { start = 0x0804A000; size = 4096; perm = record { 0 = 6 }; bytes = [] }

-- the image of a plain file
abbrev pub plain_image : List ℕ → Image
plain_image file = record { segments = text_segment file ∷ room_segment ∷ []; entry = 0x08049000 }

-- a plain file is accepted in either room
abbrev pub PlainIsAccepted : Type 0
PlainIsAccepted = (file : List ℕ) (room : Room) → has_magic file ≡ true → is_plain file ≡ true → image_of file room ≡ Ok (plain_image file)

-- a plain file that is accepted has the magic, and its image is the plain one
abbrev pub PlainIsRead : Type 0
PlainIsRead = (file : List ℕ) (room : Room) (image : Image) → image_of file room ≡ Ok image → is_plain file ≡ true → (has_magic file ≡ true) × (image ≡ plain_image file)
