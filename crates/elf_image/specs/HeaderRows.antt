-- Files of a header and a few program headers, written out: the fields that are read, and the tests that hold.
use Rattle.std.specs.Prelude.{◌≡◌, ℕ, true, false, List, [], ◌∷◌, ◌++◌, map, take, Some, None, slice_set}
use Rattle.byte_lists.specs.LittleEndian.{word_bytes, zeros}
use Rattle.elf_image.specs.declared.header.ProgramHeader.{ProgramHeader}
use Rattle.image.specs.declared.room.Room.TheVariants.{Source}
use Rattle.elf_image.specs.declared.refusal.Refusal.{Refusal}
use Rattle.elf_image.specs.declared.refusal.Refusal.TheVariants.{Short, Magic, Class, Order, Version, Kind, Machine, HeaderSize, HeaderTable, Dynamic, SegmentFile}
use Rattle.elf_image.specs.Fields.{has_magic, e_type, e_machine, e_entry, e_phoff, e_phentsize, e_phnum, header_at}
use Rattle.elf_image.specs.Pages.{is_segment}
use Rattle.elf_image.specs.Refusals.{first, header_tests, tests, is_dynamic, segments_of, refusal_of}
use Rattle.elf_image.specs.Rows.{file_header, segment_header}
use Rattle.elf_image.specs.SegmentRows.{holding, load}

-- 52 bytes, each of which is its own index
abbrev pub indices : List ℕ
indices =
    0x00 ∷ 0x01 ∷ 0x02 ∷ 0x03 ∷ 0x04 ∷ 0x05 ∷ 0x06 ∷ 0x07 ∷ 0x08 ∷ 0x09 ∷ 0x0A ∷ 0x0B ∷ 0x0C ∷ 0x0D ∷ 0x0E ∷ 0x0F ∷ 0x10 ∷ 0x11 ∷ 0x12 ∷ 0x13 ∷ 0x14 ∷ 0x15 ∷ 0x16 ∷ 0x17 ∷ 0x18
    ∷ 0x19 ∷ 0x1A ∷ 0x1B ∷ 0x1C ∷ 0x1D ∷ 0x1E ∷ 0x1F ∷ 0x20 ∷ 0x21 ∷ 0x22 ∷ 0x23 ∷ 0x24 ∷ 0x25 ∷ 0x26 ∷ 0x27 ∷ 0x28 ∷ 0x29 ∷ 0x2A ∷ 0x2B ∷ 0x2C ∷ 0x2D ∷ 0x2E ∷ 0x2F ∷ 0x30 ∷ 0x31
    ∷ 0x32 ∷ 0x33 ∷ []

-- where the fields of Elf32_Ehdr and Elf32_Phdr stand
pub record FieldPlaces : Type 0 where
  pub type_is : e_type indices ≡ 0x1110
  pub machine_is : e_machine indices ≡ 0x1312
  pub entry_is : e_entry indices ≡ 0x1B1A1918
  pub phoff_is : e_phoff indices ≡ 0x1F1E1D1C
  pub phentsize_is : e_phentsize indices ≡ 0x2B2A
  pub phnum_is : e_phnum indices ≡ 0x2D2C
  -- p_paddr (0x13121110 here) and p_align (0x23222120) are passed over
  pub program_header : header_at indices 4
      ≡ record { p_type = 0x07060504; p_offset = 0x0B0A0908; p_vaddr = 0x0F0E0D0C; p_filesz = 0x17161514; p_memsz = 0x1B1A1918; p_flags = 0x1F1E1D1C }
  pub magic : has_magic (0x7F ∷ 0x45 ∷ 0x4C ∷ 0x46 ∷ []) ≡ true
  pub no_magic : map has_magic ((0x7E ∷ 0x45 ∷ 0x4C ∷ 0x46 ∷ []) ∷ (0x7F ∷ 0x65 ∷ 0x4C ∷ 0x46 ∷ []) ∷ (0x7F ∷ 0x45 ∷ 0x6C ∷ 0x46 ∷ []) ∷ (0x7F ∷ 0x45 ∷ 0x4C ∷ 0x66 ∷ []) ∷ [])
      ≡ false ∷ false ∷ false ∷ false ∷ []

-- a header of this type and these sizes
abbrev pub typed : ℕ → ℕ → ℕ → ProgramHeader
typed p_filesz p_memsz p_type = record { p_type = p_type; p_offset = 0; p_vaddr = 0; p_filesz = p_filesz; p_memsz = p_memsz; p_flags = 0 }

-- PT_NULL, PT_LOAD, PT_DYNAMIC, PT_INTERP, PT_NOTE, PT_SHLIB, PT_PHDR, PT_TLS, PT_GNU_STACK
abbrev pub types : List ℕ
types = 0 ∷ 1 ∷ 2 ∷ 3 ∷ 4 ∷ 5 ∷ 6 ∷ 7 ∷ 0x6474E551 ∷ []

-- PT_LOAD with a size is a segment, PT_DYNAMIC and PT_INTERP are dynamic whatever their sizes, and all others are passed over
pub record HeaderTypes : Type 0 where
  pub segments : map (λ p_type. is_segment (typed 1 1 p_type)) types ≡ false ∷ true ∷ false ∷ false ∷ false ∷ false ∷ false ∷ false ∷ false ∷ []
  pub memory_alone : is_segment (typed 0 1 1) ≡ true
  pub file_alone : is_segment (typed 1 0 1) ≡ true
  pub empty : is_segment (typed 0 0 1) ≡ false
  pub dynamic : map (λ p_type. is_dynamic (typed 1 1 p_type)) types ≡ false ∷ false ∷ true ∷ true ∷ false ∷ false ∷ false ∷ false ∷ false ∷ []
  pub empty_dynamic : map (λ p_type. is_dynamic (typed 0 0 p_type)) types ≡ false ∷ false ∷ true ∷ true ∷ false ∷ false ∷ false ∷ false ∷ false ∷ []

-- a program header of 32 bytes with this type, and nothing else in it
abbrev pub empty_header : ℕ → List ℕ
empty_header p_type = word_bytes p_type ++ zeros 28

-- one of this type that fits no segment: past the file, larger in it than in memory, misaligned, with all flags
abbrev pub odd_header : ℕ → List ℕ
odd_header p_type = word_bytes p_type ++ word_bytes 0x12345678 ++ zeros 8 ++ word_bytes 0xFFFFFFFF ++ zeros 4 ++ word_bytes 0xFFFFFFFF ++ zeros 4

-- a file of 84 bytes: its header and one program header, which loads the whole file as code
unfoldable pub one_segment : List ℕ
one_segment = file_header 1 ++ segment_header 0 0x08049000 84 84 5

-- that file with eight more program headers of other types, and an empty one of type PT_LOAD
unfoldable pub passed_over : List ℕ
passed_over =
    file_header 10 ++ segment_header 0 0x08049000 84 84 5 ++ odd_header 0 ++ odd_header 4 ++ odd_header 5 ++ odd_header 6 ++ odd_header 7 ++ odd_header 0x6474E551 ++ odd_header 0x6474E552 ++ odd_header 0x70000000
    ++ empty_header 1

-- a file of a program header of this type, without sizes, and a segment
unfoldable pub with_empty : ℕ → List ℕ
with_empty p_type = file_header 2 ++ empty_header p_type ++ segment_header 0 0x08049000 84 84 5

-- the same, and the segment goes past the file
unfoldable pub with_empty_past_file : List ℕ
with_empty_past_file = file_header 2 ++ empty_header 3 ++ segment_header 0 0x08049000 0x75 0x75 5

-- the causes that hold of a file, in the order of the tests
abbrev pub causes_of : List ℕ → List Refusal
causes_of file = holding (tests file Source)

-- the file of one segment with one byte changed, and with two
abbrev pub set_one : ℕ → ℕ → List ℕ
set_one i b = slice_set one_segment i b

abbrev pub set_two : ℕ → ℕ → ℕ → ℕ → List ℕ
set_two i b j c = slice_set (slice_set one_segment i b) j c

-- one cause alone, or none
pub record HeaderCauses : Type 0 where
  pub none : causes_of one_segment ≡ []
  pub others_are_passed_over : refusal_of passed_over Source ≡ None
  pub one_is_left : segments_of passed_over ≡ load 0 0x08049000 84 84 5 ∷ []
  pub magic : causes_of (set_one 0 0x7E) ≡ Magic ∷ []
  pub class : causes_of (set_one 4 2) ≡ Class ∷ []
  pub order : causes_of (set_one 5 2) ≡ Order ∷ []
  pub version : causes_of (set_one 6 0) ≡ Version ∷ []
  pub shared_object : causes_of (set_one 16 3) ≡ Kind ∷ []
  pub relocatable : causes_of (set_one 16 1) ≡ Kind ∷ []
  pub high_byte_of_the_type : causes_of (set_one 17 1) ≡ Kind ∷ []
  pub machine : causes_of (set_one 18 0x3E) ≡ Machine ∷ []
  pub header_size : causes_of (set_one 42 0x38) ≡ HeaderSize ∷ []
  -- the table ends where the file does, and then one byte past it
  pub table_ends : first (header_tests one_segment) ≡ None
  pub table_past_the_file : first (header_tests (take 83 one_segment)) ≡ Some HeaderTable
  pub table_past_all : first (header_tests (slice_set (slice_set (slice_set (set_one 28 0xF0) 29 0xFF) 30 0xFF) 31 0xFF)) ≡ Some HeaderTable
  -- 52 bytes are a whole header, 51 are not
  pub header_alone : first (header_tests (file_header 0)) ≡ None
  pub cut_header : first (header_tests (take 51 (file_header 0))) ≡ Some Short
  -- also without any size
  pub interpreter : refusal_of (with_empty 3) Source ≡ Some Dynamic
  pub dynamic : refusal_of (with_empty 2) Source ≡ Some Dynamic
  pub note : refusal_of (with_empty 4) Source ≡ None

-- files for which two tests hold that follow each other: the first cause is the one of the two that comes first
pub record HeaderPairs : Type 0 where
  pub short_magic : refusal_of (zeros 51) Source ≡ Some Short
  pub magic_class : causes_of (set_two 3 0x66 4 2) ≡ Magic ∷ Class ∷ []
  pub class_order : causes_of (set_two 4 2 5 2) ≡ Class ∷ Order ∷ []
  pub order_version : causes_of (set_two 5 2 6 0) ≡ Order ∷ Version ∷ []
  pub version_kind : causes_of (set_two 6 0 16 3) ≡ Version ∷ Kind ∷ []
  pub kind_machine : causes_of (set_two 16 3 18 0x3E) ≡ Kind ∷ Machine ∷ []
  pub machine_size : causes_of (set_two 18 0x3E 42 0x38) ≡ Machine ∷ HeaderSize ∷ []
  pub size_table : first (header_tests (set_two 42 0x38 44 9)) ≡ Some HeaderSize
  pub table_dynamic : refusal_of (take 115 (with_empty 3)) Source ≡ Some HeaderTable
  pub dynamic_file : causes_of with_empty_past_file ≡ Dynamic ∷ SegmentFile ∷ []
