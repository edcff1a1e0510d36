-- What was put, and the pointers that are left, come to the whole; and the next string's address is below 2^32.
use Rattle.std.proofs.Common.{◌≡◌, ◌+◌, ◌^◌, ◌<◌, ◌++◌, length, drop}
use Rattle.std.specs.List.{flat_map}
use Rattle.byte_lists.specs.LittleEndian.{word_bytes}
use Rattle.sw_top.specs.Texts.{texts}
use Rattle.sw_top.specs.Stacks.{strings, pointers}
use Rattle.sw_top.proofs.stack.push_pointers.Given as goal

abbrev pub invariant-loop-word : goal.invariant-loop-word
invariant-loop-word l = record {
  fits : l.at + length (strings (texts (drop l.word-index l.words))) < 2 ^ 32;
  put : l.out.items ++ flat_map word_bytes (pointers l.at (texts (drop l.word-index l.words))) ≡ l.initial.out.items ++ flat_map word_bytes (pointers l.first (texts l.words));
}
