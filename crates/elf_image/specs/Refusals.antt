-- The nineteen causes of a refusal, in order. Sums do not wrap. (the names and the order own)
use Rattle.std.specs.Prelude.{ℕ, ◌+◌, ◌-◌, ◌*◌, ◌/◌, ◌%◌, ◌==◌, ◌&&◌, ◌||◌, Bool, false, cond, not, leb, ltb, List, [], ◌∷◌, ◌++◌, length, map, filter, sum, Option, Some, None, slice_index}
use Rattle.std.specs.List.{list_any}
use Rattle.elf_image.specs.declared.header.ProgramHeader.{ProgramHeader}
use Rattle.image.specs.declared.room.Room.{Room}
use Rattle.elf_image.specs.declared.refusal.Refusal.{Refusal}
use Rattle.elf_image.specs.declared.refusal.Refusal.TheVariants.{Short, Magic, Class, Order, Version, Kind, Machine, HeaderSize, HeaderTable, Dynamic, SegmentFile, SegmentSize, SegmentAlign, Permission, Range, SharedPage, Entry, CodeSpan, ImageSize}
use Rattle.elf_image.specs.Fields.{has_magic, e_type, e_machine, e_entry, e_phoff, e_phentsize, e_phnum, headers_of}
use Rattle.image.specs.Addresses.{has}
use Rattle.image.specs.Rooms.{room_end, room_span, room_size, greatest, least}
use Rattle.elf_image.specs.Pages.{is_segment, first_page, end_page}

-- the answer that stands beside the first test that holds
abbrev pub first : {A : Type 0} → List (Bool × A) → Option A
first [] = None
first (t ∷ ts) = cond t.0 (Some t.1) (first ts)

-- the program headers that are segments, in the order of the table
abbrev pub segments_of : List ℕ → List ProgramHeader
segments_of file = filter is_segment (headers_of file)

-- the header is of type PT_DYNAMIC (2) or PT_INTERP (3), whatever its sizes
abbrev pub is_dynamic : ProgramHeader → Bool
is_dynamic h = h.p_type == 2 || h.p_type == 3

-- the segment's bytes go past the end of a file of n bytes
abbrev pub past_file : ℕ → ProgramHeader → Bool
past_file n h = ltb n (h.p_offset + h.p_filesz)

-- the segment is smaller in memory than in the file
abbrev pub is_too_small : ProgramHeader → Bool
is_too_small h = ltb h.p_memsz h.p_filesz

-- p_offset and p_vaddr differ modulo the size of a page
abbrev pub is_misaligned : ProgramHeader → Bool
is_misaligned h = not (h.p_offset % 4096 == h.p_vaddr % 4096)

-- the segment can't be read, or it can be both written and run (own)
abbrev pub is_forbidden : ProgramHeader → Bool
is_forbidden h = not (has h.p_flags 4) || (has h.p_flags 2 && has h.p_flags 1)

-- the segment begins on the lowest page of all, or ends behind the end of the room
abbrev pub is_out_of_room : ℕ → ProgramHeader → Bool
is_out_of_room end h = ltb h.p_vaddr 4096 || ltb end (h.p_vaddr + h.p_memsz)

-- two segments have a page in common
abbrev pub shares_page : ProgramHeader → ProgramHeader → Bool
shares_page h k = ltb (first_page h) (end_page k) && ltb (first_page k) (end_page h)

-- two segments of the list have a page in common
abbrev pub any_shares_page : List ProgramHeader → Bool
any_shares_page [] = false
any_shares_page (h ∷ hs) = list_any (shares_page h) hs || any_shares_page hs

-- the segment can be run
abbrev pub has_code : ProgramHeader → Bool
has_code h = has h.p_flags 1

-- an address lies on a page of the segment
abbrev pub has_address : ℕ → ProgramHeader → Bool
has_address a h = leb (first_page h) (a / 4096) && ltb (a / 4096) (end_page h)

-- the bytes from the first page that can be run to the end of the last one, whatever lies between
abbrev pub code_span : List ProgramHeader → ℕ
code_span hs = 4096 * (greatest (map end_page (filter has_code hs)) - least (map first_page (filter has_code hs)))

-- the bytes of all pages of the segments
abbrev pub pages_size : List ProgramHeader → ℕ
pages_size hs = 4096 * sum (map (λ h. end_page h - first_page h) hs)

-- the tests of the file's header: ELFCLASS32, ELFDATA2LSB and EV_CURRENT are 1, ET_EXEC is 2, EM_386 is 3; a file's header has 52
-- bytes and a program header 32
abbrev pub header_tests : List ℕ → List (Bool × Refusal)
header_tests file =
    (ltb (length file) 52, Short)
    ∷ (not (has_magic file), Magic)
    ∷ (not (slice_index file 4 == 1), Class)
    ∷ (not (slice_index file 5 == 1), Order)
    ∷ (not (slice_index file 6 == 1), Version)
    ∷ (not (e_type file == 2), Kind)
    ∷ (not (e_machine file == 3), Machine)
    ∷ (not (e_phentsize file == 32), HeaderSize)
    ∷ (ltb (length file) (e_phoff file + 32 * e_phnum file), HeaderTable)
    ∷ []

-- the tests of the segments of a file of n bytes whose entry is `at`
abbrev pub segment_tests : ℕ → ℕ → Room → List ProgramHeader → List (Bool × Refusal)
segment_tests n at room hs =
    (list_any (past_file n) hs, SegmentFile)
    ∷ (list_any is_too_small hs, SegmentSize)
    ∷ (list_any is_misaligned hs, SegmentAlign)
    ∷ (list_any is_forbidden hs, Permission)
    ∷ (list_any (is_out_of_room (room_end room)) hs, Range)
    ∷ (any_shares_page hs, SharedPage)
    ∷ (not (list_any (has_address at) (filter has_code hs)), Entry)
    ∷ (ltb (room_span room) (code_span hs), CodeSpan)
    ∷ (ltb (room_size room) (pages_size hs), ImageSize)
    ∷ []

-- all nineteen tests, in order
abbrev pub tests : List ℕ → Room → List (Bool × Refusal)
tests file room = header_tests file ++ (list_any is_dynamic (headers_of file), Dynamic) ∷ segment_tests (length file) (e_entry file) room (segments_of file)

-- the first refusal that holds, if there is one
unfoldable pub refusal_of : List ℕ → Room → Option Refusal
refusal_of file room = first (tests file room)
