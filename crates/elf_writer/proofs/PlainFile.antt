-- The file that is written for one page of code and one of zeros, and where its bytes begin.
use Rattle.std.proofs.Common.{ℕ, ◌+◌, List, [], ◌++◌, refl, ap, ◌∙◌, append-nil}
use Rattle.byte_lists.specs.LittleEndian.{word_bytes, zeros}
use Rattle.elf_image.specs.Rows.{file_header, segment_header}
use Rattle.elf_writer.specs.Written.{elf_header, header_bytes, written}
use Rattle.elf_writer.specs.Laws.{PlainIsWritten, DataStarts}

-- with a page of so many bytes
headers : ℕ → List ℕ
headers n = file_header 3 ++ segment_header 0x1000 0x08049000 n 4096 5 ++ segment_header (0x1000 + n) 0x0804A000 0 4096 6 ++ (word_bytes 0x6474E551 ++ zeros 20 ++ word_bytes 6 ++ zeros 4) ++ zeros 3948

pub plain_is_written : PlainIsWritten
unfolding written elf_header header_bytes headers
plain_is_written text page =
    ap (λ (n : ℕ). headers n ++ (text ++ [])) page ∙ ap (λ (bs : List ℕ). headers 4096 ++ bs) (append-nil text)

pub data_starts : DataStarts
data_starts = record { headers_of_two = refl; last_with_stack = refl; first_without = refl; table_of_none = refl; table_of_two = refl; none = refl; last_on_one_page = refl; first_on_two_pages = refl; greatest = refl }
