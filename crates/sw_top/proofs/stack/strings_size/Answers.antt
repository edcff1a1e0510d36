use Rattle.std.proofs.Common.{arith}
use Rattle.sw_top.proofs.StackLemmas.{no_strings_left}
use Rattle.sw_top.proofs.stack.strings_size.Goals as goal

pub returns : goal.returns
returns c = let left = no_strings_left c.args.words.now c.loop-word.word-index c.loop-word-test.false in omega (arith, c.loop-word.invariant.whole, c.loop-word.invariant.fits, left)
