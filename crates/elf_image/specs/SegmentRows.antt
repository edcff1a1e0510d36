-- Lists of program headers that are written out, the tests that hold of each, and the pages that a header becomes. Each list
-- stands in a file of 0x10000 bytes that begins to run at 0x08048000, where nothing else is said.
use Rattle.std.specs.Prelude.{◌≡◌, ℕ, Bool, true, false, List, [], ◌∷◌, ◌++◌, map, filter, Option, Some, None}
use Rattle.byte_lists.specs.LittleEndian.{zeros}
use Rattle.image.specs.Rows.{segment_with}
use Rattle.elf_image.specs.declared.header.ProgramHeader.{ProgramHeader}
use Rattle.image.specs.declared.room.Room.{Room}
use Rattle.image.specs.declared.room.Room.TheVariants.{Source, Any}
use Rattle.elf_image.specs.declared.refusal.Refusal.{Refusal}
use Rattle.elf_image.specs.declared.refusal.Refusal.TheVariants.{SegmentFile, SegmentSize, SegmentAlign, Permission, Range, SharedPage, Entry, CodeSpan, ImageSize}
use Rattle.elf_image.specs.Refusals.{first, segment_tests}
use Rattle.elf_image.specs.Image.{segment_of}

-- a header of type PT_LOAD: p_offset, p_vaddr, p_filesz, p_memsz, p_flags
abbrev pub load : ℕ → ℕ → ℕ → ℕ → ℕ → ProgramHeader
load p_offset p_vaddr p_filesz p_memsz p_flags = record { p_type = 1; p_offset = p_offset; p_vaddr = p_vaddr; p_filesz = p_filesz; p_memsz = p_memsz; p_flags = p_flags }

-- code (R and X), and data (R and W), neither with bytes of the file: p_vaddr, p_memsz
abbrev pub code : ℕ → ℕ → ProgramHeader
code p_vaddr p_memsz = load 0 p_vaddr 0 p_memsz 5

abbrev pub data_at : ℕ → ℕ → ProgramHeader
data_at p_vaddr p_memsz = load 0 p_vaddr 0 p_memsz 6

-- one page of code at the entry
abbrev pub entered : ProgramHeader
entered = code 0x08048000 0x1000

-- the first refusal of these segments
abbrev pub refused : Room → List ProgramHeader → Option Refusal
refused room hs = first (segment_tests 0x10000 0x08048000 room hs)

-- the causes that hold, in the order of the tests
abbrev pub holding : List (Bool × Refusal) → List Refusal
holding tests = map (λ t. t.1) (filter (λ t. t.0) tests)

-- the causes of the segments that hold
abbrev pub causes : Room → List ProgramHeader → List Refusal
causes room hs = holding (segment_tests 0x10000 0x08048000 room hs)

-- executable spans of 4 MiB (Source) and 320 MiB (Any), and what goes past them
pub record CodeSpans : Type 0 where
  pub source : refused Source (code 0x08048000 0x400000 ∷ []) ≡ None
  pub source_byte_more : refused Source (code 0x08048000 0x400001 ∷ []) ≡ Some CodeSpan
  pub source_page_more : refused Source (code 0x08048000 0x401000 ∷ []) ≡ Some CodeSpan
  pub any : refused Any (code 0x08048000 0x14000000 ∷ []) ≡ None
  pub any_byte_more : refused Any (code 0x08048000 0x14000001 ∷ []) ≡ Some CodeSpan
  pub any_page_more : refused Any (code 0x08048000 0x14001000 ∷ []) ≡ Some CodeSpan
  -- the span goes from the first page of code to the last, in any order of the list
  pub two : refused Source (entered ∷ code 0x08447000 0x1000 ∷ []) ≡ None
  pub two_page_more : refused Source (entered ∷ code 0x08448000 0x1000 ∷ []) ≡ Some CodeSpan
  pub lower_last : refused Source (entered ∷ code 0x07C49000 0x1000 ∷ []) ≡ None
  pub lower_last_page_more : refused Source (entered ∷ code 0x07C48000 0x1000 ∷ []) ≡ Some CodeSpan
  -- data don't count
  pub data_apart : refused Source (data_at 0x1000 0x1000 ∷ entered ∷ data_at 0x4FFFF000 0x1000 ∷ []) ≡ None

-- 64 MiB (Source) and 512 MiB (Any) in all, and what goes past them
pub record ImageSizes : Type 0 where
  pub source : refused Source (entered ∷ data_at 0x10000000 0x3FFF000 ∷ []) ≡ None
  pub source_byte_more : refused Source (entered ∷ data_at 0x10000000 0x3FFF001 ∷ []) ≡ Some ImageSize
  pub source_page_more : refused Source (entered ∷ data_at 0x10000000 0x4000000 ∷ []) ≡ Some ImageSize
  pub any : refused Any (entered ∷ data_at 0x10000000 0x1FFFF000 ∷ []) ≡ None
  pub any_byte_more : refused Any (entered ∷ data_at 0x10000000 0x1FFFF001 ∷ []) ≡ Some ImageSize
  pub any_page_more : refused Any (entered ∷ data_at 0x10000000 0x20000000 ∷ []) ≡ Some ImageSize

-- the lowest address is 0x1000, and a room ends at 0x50000000 (Source) or 0x7C000000 (Any)
pub record RoomRanges : Type 0 where
  pub lowest : refused Source (entered ∷ data_at 0x1000 0x1000 ∷ []) ≡ None
  pub lowest_any : refused Any (entered ∷ data_at 0x1000 0x1000 ∷ []) ≡ None
  pub lower : refused Source (entered ∷ load 0xFFF 0xFFF 0 1 6 ∷ []) ≡ Some Range
  pub lower_any : refused Any (entered ∷ load 0xFFF 0xFFF 0 1 6 ∷ []) ≡ Some Range
  pub zero_address : refused Any (entered ∷ data_at 0 0x1000 ∷ []) ≡ Some Range
  pub source_end : refused Source (entered ∷ data_at 0x4FFFF000 0x1000 ∷ []) ≡ None
  pub source_past : refused Source (entered ∷ data_at 0x4FFFF000 0x1001 ∷ []) ≡ Some Range
  pub any_end : refused Any (entered ∷ data_at 0x7BFFF000 0x1000 ∷ []) ≡ None
  pub any_past : refused Any (entered ∷ data_at 0x7BFFF000 0x1001 ∷ []) ≡ Some Range
  pub any_alone : refused Source (entered ∷ data_at 0x7BFFF000 0x1000 ∷ []) ≡ Some Range
  -- the sum of p_vaddr and p_memsz doesn't wrap
  pub past_all : refused Any (entered ∷ data_at 0x10000000 0xFFFFF000 ∷ []) ≡ Some Range

-- where p_filesz, p_memsz and p_offset reach their limits and pass them
pub record SizesAndOffsets : Type 0 where
  pub whole_file : refused Source (load 0 0x08048000 0x10000 0x10000 5 ∷ []) ≡ None
  pub past_the_file : refused Source (load 0 0x08048000 0x10001 0x10001 5 ∷ []) ≡ Some SegmentFile
  pub offset_past_the_file : refused Source (load 0xF000 0x08048000 0x1001 0x1001 5 ∷ []) ≡ Some SegmentFile
  -- the sum of p_offset and p_filesz doesn't wrap
  pub past_all : refused Source (load 0xFFFFF000 0x08048000 0x1000 0x1000 5 ∷ []) ≡ Some SegmentFile
  pub memory_as_file : refused Source (load 0 0x08048000 0x20 0x20 5 ∷ []) ≡ None
  pub memory_less : refused Source (load 0 0x08048000 0x20 0x1F 5 ∷ []) ≡ Some SegmentSize
  pub no_memory : refused Source (entered ∷ load 0 0x10000000 1 0 6 ∷ []) ≡ Some SegmentSize
  pub aligned : refused Source (load 0x2FFF 0x08048FFF 1 1 5 ∷ []) ≡ None
  pub misaligned : refused Source (load 0x2800 0x08048000 1 1 5 ∷ []) ≡ Some SegmentAlign
  pub by_one : refused Source (load 0x2FFF 0x08048000 1 1 5 ∷ []) ≡ Some SegmentAlign

-- the eight sets of p_flags (PF_X 1, PF_W 2, PF_R 4): a segment is read, and not both written and run; higher bits are passed over
pub record FlagSets : Type 0 where
  pub sets : map (λ p_flags. refused Source (entered ∷ load 0 0x08049000 0 0x1000 p_flags ∷ [])) (0 ∷ 1 ∷ 2 ∷ 3 ∷ 4 ∷ 5 ∷ 6 ∷ 7 ∷ [])
      ≡ Some Permission ∷ Some Permission ∷ Some Permission ∷ Some Permission ∷ None ∷ None ∷ None ∷ Some Permission ∷ []
  pub higher : refused Source (entered ∷ load 0 0x10000000 0 0x1000 0xFFFFFFFC ∷ []) ≡ None
  pub higher_alone : refused Source (entered ∷ load 0 0x10000000 0 0x1000 0xFFFFFFF8 ∷ []) ≡ Some Permission

-- two segments on one page: neighbours in the list or not, in either order
pub record PagesShared : Type 0 where
  pub next_page : refused Source (entered ∷ data_at 0x08049000 0x1000 ∷ []) ≡ None
  pub page_before : refused Source (entered ∷ data_at 0x08047000 0x1000 ∷ []) ≡ None
  pub reaches_up : refused Source (code 0x08048000 0x1001 ∷ data_at 0x08049000 0x1000 ∷ []) ≡ Some SharedPage
  pub reaches_in : refused Source (entered ∷ data_at 0x08047000 0x1001 ∷ []) ≡ Some SharedPage
  pub same_page : refused Source (load 0 0x08048000 0 1 5 ∷ load 0xFFF 0x08048FFF 0 1 6 ∷ []) ≡ Some SharedPage
  pub around : refused Source (entered ∷ data_at 0x08047000 0x3000 ∷ []) ≡ Some SharedPage
  pub far_in_the_list : refused Source (entered ∷ data_at 0x10000000 0x1000 ∷ load 0x800 0x08048800 0 1 6 ∷ []) ≡ Some SharedPage
  pub later_ones : refused Source (entered ∷ data_at 0x10000000 0x1000 ∷ data_at 0x10000000 0x1000 ∷ []) ≡ Some SharedPage

-- the first refusal of a file of 0x10000 bytes, by its entry: code from 0x08048010 to 0x08049010, and a page of data
abbrev pub refused_at : ℕ → Option Refusal
refused_at e_entry = first (segment_tests 0x10000 e_entry Source (load 0x10 0x08048010 0x10 0x1000 5 ∷ data_at 0x10000000 0x1000 ∷ []))

-- the entry lies in a page of code
pub record Entries : Type 0 where
  pub entries : map refused_at (0x08047FFF ∷ 0x08048000 ∷ 0x08049FFF ∷ 0x0804A000 ∷ 0x10000000 ∷ []) ≡ Some Entry ∷ None ∷ None ∷ Some Entry ∷ Some Entry ∷ []
  pub second_code : refused Source (code 0x08047000 0x1000 ∷ entered ∷ []) ≡ None
  pub no_code : refused Source (data_at 0x08048000 0x1000 ∷ []) ≡ Some Entry
  pub no_segments : refused Source [] ≡ Some Entry

-- lists for which two tests hold that follow each other: the first cause is the one of the two that comes first
pub record SegmentPairs : Type 0 where
  pub file_size : causes Source (entered ∷ load 0x10000 0x10000000 2 1 6 ∷ []) ≡ SegmentFile ∷ SegmentSize ∷ []
  pub size_align : causes Source (entered ∷ load 1 0x10000000 2 1 6 ∷ []) ≡ SegmentSize ∷ SegmentAlign ∷ []
  pub align_permission : causes Source (entered ∷ load 1 0x10000000 1 1 2 ∷ []) ≡ SegmentAlign ∷ Permission ∷ []
  pub permission_range : causes Source (entered ∷ load 0 0 0 1 2 ∷ []) ≡ Permission ∷ Range ∷ []
  pub range_page : causes Source (entered ∷ data_at 0 1 ∷ data_at 0 1 ∷ []) ≡ Range ∷ SharedPage ∷ []
  pub page_entry : causes Source (data_at 0x10000000 1 ∷ data_at 0x10000000 1 ∷ []) ≡ SharedPage ∷ Entry ∷ []
  pub entry_span : causes Source (code 0x10000000 0x401000 ∷ []) ≡ Entry ∷ CodeSpan ∷ []
  pub span_size : causes Source (code 0x08048000 0x4001000 ∷ []) ≡ CodeSpan ∷ ImageSize ∷ []
  pub size_alone : causes Source (entered ∷ data_at 0x10000000 0x4000000 ∷ []) ≡ ImageSize ∷ []
  pub none : causes Source (entered ∷ []) ≡ []
  -- the first that holds is the refusal
  pub first_of_two : first ((false, SegmentFile) ∷ (true, Permission) ∷ (true, Range) ∷ []) ≡ Some Permission
  pub first_of_none : first ((false, SegmentFile) ∷ (false, Permission) ∷ []) ≡ None

-- eight bytes, and a page before them
abbrev pub eight : List ℕ
eight = 0xA1 ∷ 0xA2 ∷ 0xA3 ∷ 0xA4 ∷ 0xA5 ∷ 0xA6 ∷ 0xA7 ∷ 0xA8 ∷ []

abbrev pub eight_after_a_page : List ℕ
eight_after_a_page = zeros 4096 ++ eight

-- the segment that a header becomes: its whole pages, and its permissions without the higher bits
pub record WholePages : Type 0 where
  pub one_byte : segment_of [] (load 0xFFF 0x1FFF 0 1 4) ≡ segment_with 0x1000 0x1000 4 (zeros 4096)
  pub two_pages : segment_of [] (load 0xFFF 0x1FFF 0 2 4) ≡ segment_with 0x1000 0x2000 4 (zeros 4096)
  pub no_file_page : segment_of eight (load 0 0x1000 0 0x1000 6) ≡ segment_with 0x1000 0x1000 6 []
  pub higher_flags : segment_of eight (load 0 0x1000 0 0x1000 0xFFFFFFFD) ≡ segment_with 0x1000 0x1000 5 []

-- bytes of the file behind p_filesz on the last file page: they are kept in a segment without W, and where p_memsz is no greater
-- than p_filesz; else zeros stand there
pub record ZeroTails : Type 0 where
  pub kept_without_write : segment_of eight (load 0 0x1000 3 5 4) ≡ segment_with 0x1000 0x1000 4 (eight ++ zeros 4088)
  pub kept_in_code : segment_of eight (load 0 0x1000 3 5 5) ≡ segment_with 0x1000 0x1000 5 (eight ++ zeros 4088)
  pub zeros_with_write : segment_of eight (load 0 0x1000 3 5 6) ≡ segment_with 0x1000 0x1000 6 (0xA1 ∷ 0xA2 ∷ 0xA3 ∷ zeros 4093)
  pub kept_where_sizes_agree : segment_of eight (load 0 0x1000 3 3 6) ≡ segment_with 0x1000 0x1000 6 (eight ++ zeros 4088)
  -- the page begins with the bytes that stand before p_offset in the file
  pub inset : segment_of eight_after_a_page (load 0x1004 0x2004 2 3 6) ≡ segment_with 0x2000 0x1000 6 (0xA1 ∷ 0xA2 ∷ 0xA3 ∷ 0xA4 ∷ 0xA5 ∷ 0xA6 ∷ zeros 4090)
  pub inset_without_write : segment_of eight_after_a_page (load 0x1004 0x2004 2 3 4) ≡ segment_with 0x2000 0x1000 4 (eight ++ zeros 4088)
  -- without bytes of its own, a segment that begins within a page still has that page of the file
  pub none_within_a_page : segment_of eight_after_a_page (load 0x1004 0x2004 0 3 6) ≡ segment_with 0x2000 0x1000 6 (0xA1 ∷ 0xA2 ∷ 0xA3 ∷ 0xA4 ∷ zeros 4092)
  pub none_within_a_page_kept : segment_of eight_after_a_page (load 0x1004 0x2004 0 3 4) ≡ segment_with 0x2000 0x1000 4 (eight ++ zeros 4088)
  pub two_file_pages : segment_of eight_after_a_page (load 0 0x2000 0x1002 0x2000 6) ≡ segment_with 0x2000 0x2000 6 (zeros 4096 ++ 0xA1 ∷ 0xA2 ∷ zeros 4094)
