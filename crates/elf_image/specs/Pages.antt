-- The pages of a segment, of 4,096 bytes each, and their bytes.
use Rattle.std.specs.Prelude.{ℕ, ◌+◌, ◌-◌, ◌*◌, ◌/◌, ◌%◌, ◌==◌, ◌&&◌, Bool, cond, not, ltb, List, ◌++◌, take, drop, replicate}
use Rattle.image.specs.Addresses.{has}
use Rattle.elf_image.specs.declared.header.ProgramHeader.{ProgramHeader}

-- a program header of type PT_LOAD (1) with a size, in the file or in memory, is a segment
abbrev pub is_segment : ProgramHeader → Bool
is_segment h = h.p_type == 1 && not (h.p_filesz == 0 && h.p_memsz == 0)

-- the number of the segment's first page
abbrev pub first_page : ProgramHeader → ℕ
first_page h = h.p_vaddr / 4096

-- the number of the page after its last
abbrev pub end_page : ProgramHeader → ℕ
end_page h = (h.p_vaddr + h.p_memsz + 4095) / 4096

-- the number of the page after the last that has bytes of the file
abbrev pub file_end_page : ProgramHeader → ℕ
file_end_page h = (h.p_vaddr + h.p_filesz + 4095) / 4096

-- n bytes of a file from an offset on; past its end they are 0
abbrev pub window : List ℕ → ℕ → ℕ → List ℕ
window file from n = take n (drop from file ++ replicate n 0)

-- the first k bytes, and zeros in the place of the others up to n
abbrev pub zeroed_from : ℕ → ℕ → List ℕ → List ℕ
zeroed_from k n bytes = take k bytes ++ replicate (n - k) 0

-- The bytes of a segment's file pages are those of the file, from the beginning of the page in which p_offset lies. Where p_memsz is
-- greater than p_filesz and the segment can be written, they are 0 from p_filesz on. (own for a segment that can't be written, and for
-- one without bytes in the file)
abbrev pub page_bytes : List ℕ → ProgramHeader → List ℕ
page_bytes file h =
    let n = 4096 * (file_end_page h - first_page h) in
    let bytes = window file (h.p_offset - h.p_vaddr % 4096) n in
    cond (ltb h.p_filesz h.p_memsz && has h.p_flags 2) (zeroed_from (h.p_vaddr % 4096 + h.p_filesz) n bytes) bytes
