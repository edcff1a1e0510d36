use Rattle.std.proofs.Common.{◌≡◌, ◌++◌, take}
use Rattle.std.specs.List.{flat_map}
use Rattle.byte_lists.specs.LittleEndian.{word_bytes}
use Rattle.byte_lists.proofs.writing.push_words.Given as goal

abbrev pub invariant-loop-n : goal.invariant-loop-n
invariant-loop-n l = l.out.items ≡ l.initial.out.items ++ flat_map word_bytes (take l.n-index l.numbers)
