-- The written file: that of an image of the old page of code, the page of zeros, and the new code.
use Rattle.std.specs.Prelude.{◌≡◌, ◌⊎◌, ℕ, ◌+◌, ◌*◌, ◌/◌, ◌<◌, ◌≤◌, List, [], ◌∷◌, ◌++◌, length, take, drop, replicate, slice_index, Some, None, Ok}
use Rattle.image.specs.declared.image.Segment.{Segment}
use Rattle.image.specs.declared.image.Image.{Image}
use Rattle.image.specs.declared.room.Room.TheVariants.{Any}
use Rattle.image.specs.Addresses.{code_byte_at, code_bytes}
use Rattle.elf_image.specs.Image.{image_of}
use Rattle.elf_image.specs.Plain.{room_segment}
use Rattle.elf_writer.specs.Written.{written}
use Rattle.rewrite_core.specs.Places.{stop}

-- where the new code stands, and the run begins
abbrev pub code_start : ℕ
code_start = 0x60000000

-- so many bytes, in whole pages
abbrev pub whole_pages : ℕ → ℕ
whole_pages n = 4096 * ((n + 4095) / 4096)

abbrev pub in_pages : List ℕ → List ℕ
in_pages bytes = take (whole_pages (length bytes)) (bytes ++ replicate (whole_pages (length bytes)) 0)

-- the old page of code, which can't be run; the page of zeros; and the new code, with zeros up to the end of its last page
abbrev pub kept_segment : List ℕ → Segment
kept_segment text = record { start = 0x08049000; size = 4096; perm = record { 0 = 4 }; bytes = text }

abbrev pub code_segment : List ℕ → Segment
code_segment code = record { start = code_start; size = whole_pages (length code); perm = record { 0 = 5 }; bytes = in_pages code }

abbrev pub new_image : List ℕ → List ℕ → Image
new_image text code = record { segments = kept_segment text ∷ room_segment ∷ code_segment code ∷ []; entry = code_start }

-- the file of that image
abbrev pub new_file : List ℕ → List ℕ → List ℕ
new_file text code = written (new_image text code).segments code_start

-- the written file is accepted as its image, with no more code than may stand in the wide room
abbrev pub NewFileIsAccepted : Type 0
NewFileIsAccepted = (text code : List ℕ) → length text ≡ 4096 → 1 ≤ length code → length code ≤ 0x14000000 → image_of (new_file text code) Any ≡ Ok (new_image text code)

-- the bytes that can be run are those of the new code, and zeros up to the end of its last page
abbrev pub NewCodeIsThere : Type 0
NewCodeIsThere = (text code : List ℕ) (k : ℕ) → k < length code → code_byte_at (new_image text code) (code_start + k) ≡ Some (slice_index code k)

abbrev pub NewCodeIsAll : Type 0
NewCodeIsAll = (text code : List ℕ) (a : ℕ) → (a < code_start) ⊎ (code_start + whole_pages (length code) ≤ a) → code_byte_at (new_image text code) a ≡ None

abbrev pub NewCodeIsInPages : Type 0
NewCodeIsInPages = (text code : List ℕ) (n k : ℕ) → k ≤ whole_pages (length code) → code_bytes (new_image text code) (code_start + k) n ≡ take n (drop k (in_pages code))

-- the page of code of a plain file
abbrev pub text_of : List ℕ → List ℕ
text_of file = take 4096 (drop 4096 file)

-- a worked row: MOV EBX, 7; MOV EAX, 1; INT 80h; HLT, whatever follows
abbrev pub row_list : List ℕ
row_list = 0xBB ∷ 0x07 ∷ 0x00 ∷ 0x00 ∷ 0x00 ∷ 0xB8 ∷ 0x01 ∷ 0x00 ∷ 0x00 ∷ 0x00 ∷ 0xCD ∷ 0x80 ∷ []

abbrev pub row_text : List ℕ → List ℕ
row_text rest = row_list ++ 0xF4 ∷ rest

abbrev pub row_image : List ℕ → Image
row_image rest = new_image (row_text rest) (row_list ++ stop)

abbrev pub RowIsWritten : Type 0
RowIsWritten = (rest : List ℕ) → code_bytes (row_image rest) (row_image rest).entry 14 ≡ row_list ++ 0x0F ∷ 0x0B ∷ []
