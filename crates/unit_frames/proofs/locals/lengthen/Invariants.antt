use Rattle.std.proofs.Common.{◌≡◌, ℕ, length, get_or}
use Rattle.x86_values.specs.Sizes.{no_word}
use Rattle.unit_frames.proofs.locals.lengthen.Given as goal

abbrev pub invariant-loop : goal.invariant-loop
invariant-loop l = record { words : (k : ℕ) → get_or l.words.items k no_word ≡ get_or l.fn.words.items k no_word; len : length l.words.items ≡ l.counter }
