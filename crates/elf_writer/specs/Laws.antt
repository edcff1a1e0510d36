-- What is written is read again, and what is read can be written.
use Rattle.std.specs.Prelude.{◌≡◌, ℕ, ◌+◌, List, [], ◌∷◌, ◌++◌, length, Ok}
use Rattle.image.specs.declared.image.Segment.{Segment}
use Rattle.image.specs.declared.image.Image.{Image}
use Rattle.image.specs.declared.room.Room.{Room}
use Rattle.image.specs.declared.room.Room.TheVariants.{Any}
use Rattle.elf_image.specs.Image.{image_of}
use Rattle.elf_image.specs.Plain.{room_segment}
use Rattle.byte_lists.specs.LittleEndian.{word_bytes, zeros, AreBytes}
use Rattle.elf_image.specs.Rows.{file_header, segment_header}
use Rattle.elf_writer.specs.Wanted.{CanBeWritten}
use Rattle.image.specs.Wanted.{image_with}
use Rattle.elf_writer.specs.Written.{data_of, header_count, table_end, data_start, written}

-- the file of an image that can be written is accepted in the wide room, as this image
abbrev pub WrittenIsAccepted : Type 0
WrittenIsAccepted = (segments : List Segment) (entry : ℕ) → CanBeWritten segments entry → image_of (written segments entry) Any ≡ Ok (image_with segments entry)

-- a written file is as long as the pages of its headers and the bytes of its segments, and no longer
abbrev pub LengthOfWritten : Type 0
LengthOfWritten = (segments : List Segment) (entry : ℕ) → length (written segments entry) ≡ data_start (length segments) + length (data_of segments)

-- one page of code and one of zeros, written out
abbrev pub plain_segments : List ℕ → List Segment
plain_segments text = record { start = 0x08049000; size = 4096; perm = record { 0 = 5 }; bytes = text } ∷ room_segment ∷ []

-- the file of these two segments, written out: the third header is that of the stack
abbrev pub PlainIsWritten : Type 0
PlainIsWritten = (text : List ℕ) → length text ≡ 4096 → written (plain_segments text) 0x08049000
    ≡ file_header 3 ++ segment_header 0x1000 0x08049000 4096 4096 5 ++ segment_header 0x2000 0x0804A000 0 4096 6 ++ (word_bytes 0x6474E551 ++ zeros 20 ++ word_bytes 6 ++ zeros 4) ++ zeros 3948 ++ text

-- how many program headers there are, the offset at which they end, and that of the first page after them, for a few segments and
-- for the most; the header of the stack is left out where e_phnum can't count it
pub record DataStarts : Type 0 where
  pub headers_of_two : header_count 2 ≡ 3
  pub last_with_stack : header_count 65534 ≡ 65535
  pub first_without : header_count 65535 ≡ 65535
  pub table_of_none : table_end 0 ≡ 84
  pub table_of_two : table_end 2 ≡ 148
  pub none : data_start 0 ≡ 0x1000
  pub last_on_one_page : data_start 125 ≡ 0x1000
  pub first_on_two_pages : data_start 126 ≡ 0x2000
  pub greatest : data_start 65535 ≡ 0x201000

-- the image of every file of bytes that a room accepts can be written
abbrev pub ReadImagesCanBeWritten : Type 0
ReadImagesCanBeWritten = (file : List ℕ) (room : Room) (image : Image) → image_of file room ≡ Ok image → AreBytes file → CanBeWritten image.segments image.entry
