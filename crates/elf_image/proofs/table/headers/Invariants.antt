use Rattle.std.proofs.Common.{◌≡◌}
use Rattle.elf_image.specs.Fields.{headers_from}
use Rattle.elf_image.proofs.table.headers.Given as goal

abbrev pub invariant-loop-i : goal.invariant-loop-i
invariant-loop-i l = l.headers.items ≡ headers_from l.bytes l.table l.i
