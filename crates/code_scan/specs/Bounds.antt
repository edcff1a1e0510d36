-- The words of a table, by its bound.
use Rattle.std.specs.Prelude.{ℕ, ◌+◌, Bool, true, min, Option, Some, None}
use Rattle.image.specs.declared.image.Image.{Image}
use Rattle.image.specs.Addresses.{can_run}

-- how many words there are at most
abbrev pub most_words : Option ℕ → ℕ
most_words None = 1024
most_words (Some bound) = min (bound + 1) 1024

-- whether a word is a target of the table: with a bound whatever it is, without one if it leads to a byte that can be run
abbrev pub is_target : Image → Option ℕ → ℕ → Bool
is_target image None word = can_run image word
is_target image (Some bound) word = true
