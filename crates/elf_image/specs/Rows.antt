-- Files that are written out, and what the definition of an image says of each.
use Rattle.std.specs.Prelude.{◌≡◌, ℕ, ◌-◌, true, false, List, [], ◌∷◌, ◌++◌, length, Some, None, Err, slice_set, IsOkAnd}
use Rattle.byte_lists.specs.LittleEndian.{half_bytes, word_bytes, zeros}
use Rattle.image.specs.declared.image.Image.{Image}
use Rattle.image.specs.declared.room.Room.{Room}
use Rattle.image.specs.declared.room.Room.TheVariants.{Source}
use Rattle.elf_image.specs.declared.refusal.Refusal.TheVariants.{Short, Class, Permission, SegmentFile}
use Rattle.elf_image.specs.Plain.{is_plain}
use Rattle.image.specs.Addresses.{byte_at, code_byte_at, can_write}
use Rattle.elf_image.specs.Image.{image_of}

-- the header of an executable for the i386 that begins at 0x08049000, with n program headers at 52 and no sections
abbrev pub file_header : ℕ → List ℕ
file_header n =
    0x7F ∷ 0x45 ∷ 0x4C ∷ 0x46 ∷ 1 ∷ 1 ∷ 1 ∷ zeros 9 ++ half_bytes 2 ++ half_bytes 3 ++ word_bytes 1 ++ word_bytes 0x08049000 ++ word_bytes 52 ++ zeros 8 ++ half_bytes 52 ++ half_bytes 32 ++ half_bytes n ++ zeros 6

-- a program header; its physical address is its address, and its alignment a page
abbrev pub segment_header : ℕ → ℕ → ℕ → ℕ → ℕ → List ℕ
segment_header p_offset p_vaddr p_filesz p_memsz p_flags = word_bytes 1 ++ word_bytes p_offset ++ word_bytes p_vaddr ++ word_bytes p_vaddr ++ word_bytes p_filesz ++ word_bytes p_memsz ++ word_bytes p_flags ++ word_bytes 4096

-- the plain file with this code, of at most a page
unfoldable pub file_with : List ℕ → List ℕ
file_with code =
    file_header 2 ++ segment_header 0x1000 0x08049000 (length code) (length code) 5 ++ segment_header 0x2000 0x0804A000 0 4096 6 ++ zeros 3980
    ++ code ++ zeros (4096 - length code)

-- mov ebx, 7; mov eax, 1; int 0x80; hlt
abbrev pub exits_with_seven : List ℕ
exits_with_seven = 0xBB ∷ 7 ∷ 0 ∷ 0 ∷ 0 ∷ 0xB8 ∷ 1 ∷ 0 ∷ 0 ∷ 0 ∷ 0xCD ∷ 0x80 ∷ 0xF4 ∷ []

-- the plain file of that code
abbrev pub seven_file : List ℕ
seven_file = file_with exits_with_seven

-- an empty file is too short
abbrev pub EmptyFile : Type 0
EmptyFile = (room : Room) → image_of [] room ≡ Err Short

-- with the magic and zeros after it, a file is of no known class
abbrev pub MagicAlone : Type 0
MagicAlone = (room : Room) → image_of (0x7F ∷ 0x45 ∷ 0x4C ∷ 0x46 ∷ zeros 48) room ≡ Err Class

-- the image of that file: a page that can be run and not written, and after it a page that can be written and not run
abbrev pub ShowsSeven : Image → Type 0
ShowsSeven image =
    (image.entry ≡ 0x08049000) × (code_byte_at image 0x08049000 ≡ Some 0xBB) × (code_byte_at image 0x0804A000 ≡ None) × (byte_at image 0x0804A000 ≡ Some 0)
    × (can_write image 0x0804A000 ≡ true) × (can_write image 0x08049000 ≡ false) × (byte_at image 0x0804B000 ≡ None)

-- it is a plain file, and accepted with that image
abbrev pub SevenFile : Type 0
SevenFile = (is_plain seven_file ≡ true) × IsOkAnd (image_of seven_file Source) ShowsSeven

-- a plain file has at least one byte of code and at most a page
pub record PlainCode : Type 0 where
  pub none : is_plain (file_with []) ≡ false
  pub one : is_plain (file_with (0xF4 ∷ [])) ≡ true
  pub whole_page : is_plain (file_with (zeros 4096)) ≡ true

-- the plain file, its code with W too
abbrev pub writable_code : List ℕ
writable_code = slice_set seven_file 76 7

-- such code is refused, and earlier so where p_filesz goes past the file too
abbrev pub WritableCode : Type 0
WritableCode = (image_of writable_code Source ≡ Err Permission) × (image_of (slice_set writable_code 69 0x20) Source ≡ Err SegmentFile)

-- endbr32, a loop that writes the first word of the command until all of it is taken, and exit with 0
abbrev pub linked_code : List ℕ
linked_code =
    0xF3 ∷ 0x0F ∷ 0x1E ∷ 0xFB ∷ 0x8B ∷ 0x74 ∷ 0x24 ∷ 0x04 ∷ 0x31 ∷ 0xD2 ∷ 0x80 ∷ 0x3C ∷ 0x16 ∷ 0x00 ∷ 0x74 ∷ 0x03 ∷ 0x42 ∷ 0xEB ∷ 0xF7 ∷ 0x85 ∷ 0xD2 ∷ 0x74 ∷ 0x0D ∷ 0x89 ∷ 0xF1
    ∷ 0xE8 ∷ 0x12 ∷ 0x00 ∷ 0x00 ∷ 0x00 ∷ 0x01 ∷ 0xC6 ∷ 0x29 ∷ 0xC2 ∷ 0xEB ∷ 0xEF ∷ 0x31 ∷ 0xDB ∷ 0xB8 ∷ 0x01 ∷ 0x00 ∷ 0x00 ∷ 0x00 ∷ 0xCD ∷ 0x80 ∷ 0xF4 ∷ 0x66 ∷ 0x90 ∷ 0xBB ∷ 0x01
    ∷ 0x00 ∷ 0x00 ∷ 0x00 ∷ 0xB8 ∷ 0x04 ∷ 0x00 ∷ 0x00 ∷ 0x00 ∷ 0xCD ∷ 0x80 ∷ 0xF3 ∷ 0xC3 ∷ []

-- a file as a linker lays it out: its headers, code, data that can only be read, data that can be written and is longer
-- in memory, and a header of type PT_GNU_STACK
unfoldable pub linked_file : List ℕ
linked_file =
    file_header 5 ++ segment_header 0 0x08048000 0xD4 0xD4 4 ++ segment_header 0x1000 0x08049000 62 62 5 ++ segment_header 0x2000 0x0804A000 4 4 4
    ++ segment_header 0x3000 0x0804B000 4 16 6 ++ word_bytes 0x6474E551 ++ zeros 20 ++ word_bytes 6 ++ zeros 4 ++ zeros 3884
    ++ linked_code ++ zeros 4034 ++ zeros 4096 ++ zeros 4

-- the image of that file
abbrev pub ShowsLinked : Image → Type 0
ShowsLinked image =
    (length image.segments ≡ 4) × (image.entry ≡ 0x08049000) × (byte_at image 0x08048000 ≡ Some 0x7F) × (code_byte_at image 0x08048000 ≡ None)
    × (code_byte_at image 0x0804903D ≡ Some 0xC3) × (can_write image 0x0804A000 ≡ false) × (byte_at image 0x0804B010 ≡ Some 0) × (can_write image 0x0804B010 ≡ true)
    × (byte_at image 0x0804C000 ≡ None)

-- it is accepted with that image
abbrev pub LinkedFile : Type 0
LinkedFile = IsOkAnd (image_of linked_file Source) ShowsLinked
