use Rattle.std.proofs.Common.{◌≡◌, ◌++◌, take}
use Rattle.elf_writer.specs.Written.{data_of}
use Rattle.elf_writer.proofs.writer.push_data.Given as goal

abbrev pub invariant-loop-segment : goal.invariant-loop-segment
invariant-loop-segment l = l.out.items ≡ l.initial.out.items ++ data_of (take l.segment-index l.segments)
