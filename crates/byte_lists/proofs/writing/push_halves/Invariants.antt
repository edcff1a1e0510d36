use Rattle.std.proofs.Common.{◌≡◌, ◌++◌, take}
use Rattle.std.specs.List.{flat_map}
use Rattle.byte_lists.specs.LittleEndian.{half_bytes}
use Rattle.byte_lists.proofs.writing.push_halves.Given as goal

abbrev pub invariant-loop-n : goal.invariant-loop-n
invariant-loop-n l = l.out.items ≡ l.initial.out.items ++ flat_map half_bytes (take l.n-index l.numbers)
