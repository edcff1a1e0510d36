use Rattle.std.proofs.Common.{◌≡◌, ◌+◌, length, drop}
use Rattle.elf_writer.specs.Written.{data_of}
use Rattle.elf_writer.proofs.writer.data_len.Given as goal

abbrev pub invariant-loop-segment : goal.invariant-loop-segment
invariant-loop-segment l = l.len + length (data_of (drop l.segment-index l.segments)) ≡ length (data_of l.segments)
