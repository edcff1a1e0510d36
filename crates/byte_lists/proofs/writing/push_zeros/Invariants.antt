use Rattle.std.proofs.Common.{◌≡◌, ◌++◌}
use Rattle.byte_lists.specs.LittleEndian.{zeros}
use Rattle.byte_lists.proofs.writing.push_zeros.Given as goal

abbrev pub invariant-loop : goal.invariant-loop
invariant-loop l = l.out.items ≡ l.initial.out.items ++ zeros l.counter
