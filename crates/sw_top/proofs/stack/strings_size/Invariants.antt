-- The size so far and that of the strings that are left come to the size of all.
use Rattle.std.proofs.Common.{◌≡◌, ◌≤◌, ◌+◌, ◌-◌, ◌^◌, min, length, drop}
use Rattle.sw_top.specs.Texts.{texts}
use Rattle.sw_top.specs.Stacks.{strings}
use Rattle.sw_top.proofs.stack.strings_size.Given as goal

abbrev pub invariant-loop-word : goal.invariant-loop-word
invariant-loop-word l = record {
  fits : l.size ≤ 2 ^ 64 - 1;
  whole : min (l.size + length (strings (texts (drop l.word-index l.words)))) (2 ^ 64 - 1) ≡ min (length (strings (texts l.words))) (2 ^ 64 - 1);
}
