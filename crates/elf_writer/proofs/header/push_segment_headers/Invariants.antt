use Rattle.std.proofs.Common.{◌≡◌, ◌+◌, ◌++◌, length, drop}
use Rattle.elf_writer.specs.Written.{data_of, headers_for, table_bytes}
use Rattle.elf_writer.proofs.header.push_segment_headers.Given as goal

abbrev pub invariant-loop-segment : goal.invariant-loop-segment
invariant-loop-segment l = record {
  within : l.offset + length (data_of (drop l.segment-index l.segments)) ≡ l.fn.start + length (data_of l.segments);
  pushed : l.out.items ++ table_bytes (headers_for l.offset (drop l.segment-index l.segments)) ≡ l.initial.out.items ++ table_bytes (headers_for l.fn.start l.segments);
}
