-- What was put, and the strings that are left, come to the whole.
use Rattle.std.proofs.Common.{◌≡◌, ◌++◌, drop}
use Rattle.sw_top.specs.Texts.{texts}
use Rattle.sw_top.specs.Stacks.{strings}
use Rattle.sw_top.proofs.stack.push_strings.Given as goal

abbrev pub invariant-loop-word : goal.invariant-loop-word
invariant-loop-word l = l.out.items ++ strings (texts (drop l.word-index l.words)) ≡ l.initial.out.items ++ strings (texts l.words)
