use Rattle.std.proofs.Common.{length}
use Rattle.laid_image.specs.NewImage.{whole_pages, in_pages}
use Rattle.laid_image.proofs.Fits as fits
use Rattle.laid_image.proofs.CodeBytes as code_bytes
use Rattle.laid_image.proofs.TableWords as table_words
use Rattle.laid_image.proofs.OldMemory as old_memory
use Rattle.laid_image.proofs.FirstMemory as first_memory
use Rattle.laid_image.proofs.OtherBytes as other_bytes
use Rattle.laid_image.proofs.laws.image_laws.Goals as goal

pub returns : goal.returns
returns c = record {
  can_be_written = fits.can_be_written;
  code = λ old entry code words source room. code_bytes.has_bytes old entry (whole_pages (length code)) (in_pages code) words source room (fits.length_in_pages code) c.code_laws.ensures;
  none = λ old entry size code words source room. code_bytes.none old entry size code words source room c.code_laws.ensures;
  table = λ old entry size code words l source room at are fit. table_words.has_table old entry size code words source room l at are;
  begins = λ old entry size code words homes esp0 source room bytes own are. first_memory.begins c.memory_laws.ensures old entry size code words source room homes are esp0 bytes own;
  program = old_memory.program;
  bytes = λ old entry h. old_memory.segments_have_bytes c.memory_laws.ensures old entry h;
  other_bytes = λ old others entry source pages. other_bytes.other_bytes old others entry source pages;
}
