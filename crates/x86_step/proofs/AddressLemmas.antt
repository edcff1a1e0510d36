-- Words raised and lowered, by their numbers.
use Rattle.std.proofs.Common.{◌≡◌, ℕ, ◌+◌, ◌-◌, ◌%◌, ◌^◌, ◌<◌, Bool, false, Option, Some, None, refl, sym, ap, ◌∙◌, arith}
use Rattle.x86_values.specs.declared.word.Word.{Word}
use Rattle.x86_values.specs.declared.answered.Answered.{Answered}
use Rattle.x86_values.specs.Words.{word_of, known}
use Rattle.x86_values.specs.Sizes.{cut, number, no_word}
use Rattle.x86_values.specs.Results.{no_result}
use Rattle.x86_values.specs.Sums.{add, sub, sum, difference, of_known}
use Rattle.x86_values.specs.WordLaws.{WordLaws}
use Rattle.x86_meaning.specs.Outcomes.{raised_by, lowered_by}

-- four bytes are the whole word
number_of_four : (w : Word) → number 4 w ≡ known w
unfolding number cut
number_of_four w = refl

-- the value of an operation without a carry, by the numbers of its two words
abbrev value_by : (ℕ → ℕ → Bool → Answered) → Option ℕ → Option ℕ → Word
value_by f x y = (of_known f (no_result 4) x y (Some false)).value

-- it is that of the number on the left, where a number's word stands on the right
value_by-word : (f : ℕ → ℕ → Bool → Answered) (laws : WordLaws) (n : ℕ) (w : Word) (x : Option ℕ) →
    n < 2 ^ 32 → known w ≡ x → value_by f (number 4 w) (number 4 (word_of n)) ≡ value_by f x (Some n)
value_by-word f laws n w x h e = rw (number_of_four w, e, number_of_four (word_of n), laws.known_word n h) refl

-- a word whose number is known
pub raised : (laws : WordLaws) (n : ℕ) (w : Word) (a : ℕ) →
    n < 2 ^ 32 → known w ≡ Some a → word_of ((a + n) % 2 ^ 32) ≡ raised_by n w
unfolding add sum
raised laws n w a h e =
    let same : (a + n) % 2 ^ 32 ≡ (a + n + 0) % 2 ^ 32 = omega arith in
    ap word_of same ∙ sym (value_by-word (sum 4) laws n w (Some a) h e)

pub lowered : (laws : WordLaws) (n : ℕ) (w : Word) (a : ℕ) →
    n < 2 ^ 32 → known w ≡ Some a → word_of ((a + (2 ^ 32 - n)) % 2 ^ 32) ≡ lowered_by n w
unfolding sub difference
lowered laws n w a h e =
    let same : (a + (2 ^ 32 - n)) % 2 ^ 32 ≡ (2 ^ 32 + a - (n + 0)) % 2 ^ 32 = omega arith in
    ap word_of same ∙ sym (value_by-word (difference 4) laws n w (Some a) h e)

-- a word that has an unspecified byte
pub raised_unspecified : (laws : WordLaws) (n : ℕ) (w : Word) →
    n < 2 ^ 32 → known w ≡ None → no_word ≡ raised_by n w
unfolding add cut
raised_unspecified laws n w h e = sym (value_by-word (sum 4) laws n w None h e)

pub lowered_unspecified : (laws : WordLaws) (n : ℕ) (w : Word) →
    n < 2 ^ 32 → known w ≡ None → no_word ≡ lowered_by n w
unfolding sub cut
lowered_unspecified laws n w h e = sym (value_by-word (difference 4) laws n w None h e)
