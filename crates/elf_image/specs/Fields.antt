-- The fields of a file's header and of its program headers, lowest byte first (gABI, "ELF Header", "Program Header").
use Rattle.std.specs.Prelude.{ℕ, zero, suc, ◌+◌, ◌==◌, ◌&&◌, Bool, List, [], ◌∷◌, slice_index}
use Rattle.byte_lists.specs.LittleEndian.{half_at, word_at}
use Rattle.elf_image.specs.declared.header.ProgramHeader.{ProgramHeader}

-- the magic 7F 45 4C 46 begins the file
abbrev pub has_magic : List ℕ → Bool
has_magic file = slice_index file 0 == 0x7F && slice_index file 1 == 0x45 && slice_index file 2 == 0x4C && slice_index file 3 == 0x46

-- the type of the file: ET_EXEC is 2
abbrev pub e_type : List ℕ → ℕ
e_type file = half_at file 16

-- the machine that the file is for: EM_386 is 3
abbrev pub e_machine : List ℕ → ℕ
e_machine file = half_at file 18

-- the address at which the program begins to run
abbrev pub e_entry : List ℕ → ℕ
e_entry file = word_at file 24

-- the offset of the table of program headers
abbrev pub e_phoff : List ℕ → ℕ
e_phoff file = word_at file 28

-- the size of one program header, in bytes
abbrev pub e_phentsize : List ℕ → ℕ
e_phentsize file = half_at file 42

-- the number of program headers
abbrev pub e_phnum : List ℕ → ℕ
e_phnum file = half_at file 44

-- the program header at an offset; p_paddr and p_align are passed over
abbrev pub header_at : List ℕ → ℕ → ProgramHeader
header_at file i = record { p_type = word_at file i; p_offset = word_at file (i + 4); p_vaddr = word_at file (i + 8); p_filesz = word_at file (i + 16); p_memsz = word_at file (i + 20); p_flags = word_at file (i + 24) }

-- n program headers from an offset on, each of 32 bytes
unfoldable pub headers_from : List ℕ → ℕ → ℕ → List ProgramHeader
headers_from file i zero = []
headers_from file i (suc n) = header_at file i ∷ headers_from file (i + 32) n

-- all program headers of a file, in the order of its table
abbrev pub headers_of : List ℕ → List ProgramHeader
headers_of file = headers_from file (e_phoff file) (e_phnum file)
