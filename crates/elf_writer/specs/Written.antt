-- The written file: its header, the program headers in the order of the segments and that of the stack, and the bytes of the
-- segments one after the other, each in whole pages (gABI, "ELF Header", "Program Header").
use Rattle.std.specs.Prelude.{ℕ, ◌+◌, ◌-◌, ◌*◌, ◌/◌, ◌==◌, cond, ltb, List, [], ◌∷◌, ◌++◌, length}
use Rattle.std.specs.List.{flat_map}
use Rattle.elf_image.specs.declared.header.ProgramHeader.{ProgramHeader}
use Rattle.image.specs.declared.image.Segment.{Segment}
use Rattle.byte_lists.specs.LittleEndian.{half_bytes, word_bytes, zeros}

-- 7F 45 4C 46, then ELFCLASS32, ELFDATA2LSB, EV_CURRENT and zeros
abbrev pub ident : List ℕ
ident = 0x7F ∷ 0x45 ∷ 0x4C ∷ 0x46 ∷ 1 ∷ 1 ∷ 1 ∷ 0 ∷ 0 ∷ 0 ∷ 0 ∷ 0 ∷ 0 ∷ 0 ∷ 0 ∷ 0 ∷ []

-- the file's header: ET_EXEC, EM_386, EV_CURRENT, e_entry, the program headers at 52, no sections, no flags, and the sizes of this
-- header and of a program header
unfoldable pub elf_header : ℕ → ℕ → List ℕ
elf_header entry count =
    ident ++ half_bytes 2 ++ half_bytes 3 ++ word_bytes 1 ++ word_bytes entry ++ word_bytes 52 ++ word_bytes 0 ++ word_bytes 0 ++ half_bytes 52 ++ half_bytes 32 ++ half_bytes count ++ half_bytes 0 ++ half_bytes 0 ++ half_bytes 0

-- p_align: a page for a segment, and 0 for a header that loads nothing
abbrev pub alignment : ProgramHeader → ℕ
alignment h = cond (h.p_type == 1) 4096 0

-- the bytes of a program header: p_type, p_offset, p_vaddr, p_paddr (the same), p_filesz, p_memsz, p_flags, p_align
unfoldable pub header_bytes : ProgramHeader → List ℕ
header_bytes h = word_bytes h.p_type ++ word_bytes h.p_offset ++ word_bytes h.p_vaddr ++ word_bytes h.p_vaddr ++ word_bytes h.p_filesz ++ word_bytes h.p_memsz ++ word_bytes h.p_flags ++ word_bytes (alignment h)

-- the program header of a segment (PT_LOAD) whose bytes stand at an offset
abbrev pub header_for : ℕ → Segment → ProgramHeader
header_for offset s = record { p_type = 1; p_offset = offset; p_vaddr = s.start; p_filesz = length s.bytes; p_memsz = s.size; p_flags = s.perm.0 }

-- the program headers of segments whose bytes stand one after the other from an offset on
abbrev pub headers_for : ℕ → List Segment → List ProgramHeader
headers_for offset [] = []
headers_for offset (s ∷ ss) = header_for offset s ∷ headers_for (offset + length s.bytes) ss

-- The header of type PT_GNU_STACK: PF_R and PF_W, and its other fields 0. Where a file has none, Linux lets every page that can be
-- read be run too (elf.h, load_elf_binary).
abbrev pub stack_header : ProgramHeader
stack_header = record { p_type = 0x6474E551; p_offset = 0; p_vaddr = 0; p_filesz = 0; p_memsz = 0; p_flags = 6 }

-- a file of so many segments has it where e_phnum can count it too
abbrev pub stack_headers : ℕ → List ProgramHeader
stack_headers count = cond (ltb count 65535) (stack_header ∷ []) []

-- the program headers of the segments, and that of the stack behind them
abbrev pub program_headers : ℕ → List Segment → List ProgramHeader
program_headers offset ss = headers_for offset ss ++ stack_headers (length ss)

-- how many program headers a file of so many segments has
abbrev pub header_count : ℕ → ℕ
header_count count = count + length (stack_headers count)

-- the bytes of program headers, one after the other
abbrev pub table_bytes : List ProgramHeader → List ℕ
table_bytes hs = flat_map header_bytes hs

-- the bytes of the segments, one after the other
abbrev pub data_of : List Segment → List ℕ
data_of ss = flat_map (λ s. s.bytes) ss

-- the offset at which the program headers of so many segments end
abbrev pub table_end : ℕ → ℕ
table_end count = 52 + 32 * header_count count

-- the offset of the first page after them
abbrev pub data_start : ℕ → ℕ
data_start count = 4096 * ((table_end count + 4095) / 4096)

-- the file of these segments and this entry
unfoldable pub written : List Segment → ℕ → List ℕ
written ss entry =
    elf_header entry (header_count (length ss)) ++ table_bytes (program_headers (data_start (length ss)) ss) ++ zeros (data_start (length ss) - table_end (length ss)) ++ data_of ss
