use Rattle.elf_writer.proofs.Accepted.{length_written, written_is_accepted}
use Rattle.elf_writer.proofs.PlainFile.{plain_is_written, data_starts}
use Rattle.elf_writer.proofs.laws.writer_laws.Goals as goal

pub returns : goal.returns
returns c = record { accepted = written_is_accepted; size = length_written; plain = plain_is_written; starts = data_starts }
