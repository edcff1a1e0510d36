-- Sums and differences of whole words that are known.
use Rattle.std.proofs.Common.{◌≡◌, ℕ, ◌+◌, ◌*◌, Bool, false, Option, Some, bit_and, bit_xor, refl, sym, ◌∙◌}
use Rattle.x86_values.specs.declared.byte.Byte.TheVariants.{Known}
use Rattle.x86_values.specs.declared.word.Flags.{Flags}
use Rattle.x86_values.specs.declared.answered.Answered.{Answered}
use Rattle.x86_values.specs.declared.logic.Bit.TheVariants.{And, Xor}
use Rattle.x86_values.specs.Results.{flags_of}
use Rattle.x86_values.specs.Logic.{bitwise}
use Rattle.x86_values.specs.declared.word.Word.{Word}
use Rattle.x86_values.specs.Words.{known}
use Rattle.x86_values.specs.Sizes.{cut, number}
use Rattle.x86_values.specs.Sums.{add, sub, sum, difference}

-- four bytes are the whole word
pub number_of_four : (w : Word) → number 4 w ≡ known w
unfolding number cut
number_of_four w = refl

pub added : (x y : Word) (o : Option Bool) (a b : ℕ) (carry : Bool) → known x ≡ Some a → known y ≡ Some b → o ≡ Some carry → sum 4 a b carry ≡ add 4 x y o
unfolding add
added x y o a b carry g h e = rw (number_of_four x, g, number_of_four y, h, e) refl

pub subtracted : (x y : Word) (o : Option Bool) (a b : ℕ) (carry : Bool) → known x ≡ Some a → known y ≡ Some b → o ≡ Some carry → difference 4 a b carry ≡ sub 4 x y o
unfolding sub
subtracted x y o a b carry g h e = rw (number_of_four x, g, number_of_four y, h, e) refl

-- ---- bitwise operations of whole words that are known
abbrev pub known_word : ℕ → ℕ → ℕ → ℕ → Word
known_word a b c d = record { b0 = Known a; b1 = Known b; b2 = Known c; b3 = Known d }

abbrev pub number_of : ℕ → ℕ → ℕ → ℕ → ℕ
number_of a b c d = a + 256 * b + 65536 * c + 16777216 * d

answer_is : (r : Answered) (w : Word) (f : Flags) → r.value ≡ w → r.flags ≡ f → r ≡ record { value = w; flags = f }
answer_is r w f h k = λ i. record { value = h i; flags = k i }

and_known : (a b c d p q s t : ℕ) → bitwise And 4 (known_word a b c d) (known_word p q s t) ≡ record { value = known_word (bit_and a p) (bit_and b q) (bit_and c s) (bit_and d t); flags = flags_of 4 (number_of (bit_and a p) (bit_and b q) (bit_and c s) (bit_and d t)) (Some false) (Some false) }
unfolding bitwise number cut known
and_known a b c d p q s t = refl

xor_known : (a b c d p q s t : ℕ) → bitwise Xor 4 (known_word a b c d) (known_word p q s t) ≡ record { value = known_word (bit_xor a p) (bit_xor b q) (bit_xor c s) (bit_xor d t); flags = flags_of 4 (number_of (bit_xor a p) (bit_xor b q) (bit_xor c s) (bit_xor d t)) (Some false) (Some false) }
unfolding bitwise number cut known
xor_known a b c d p q s t = refl

pub anded : (x y : Word) (a b c d p q s t : ℕ) (r : Answered) → x ≡ known_word a b c d → y ≡ known_word p q s t → r.value ≡ known_word (bit_and a p) (bit_and b q) (bit_and c s) (bit_and d t) → r.flags ≡ flags_of 4 (number_of (bit_and a p) (bit_and b q) (bit_and c s) (bit_and d t)) (Some false) (Some false) → r ≡ bitwise And 4 x y
anded x y a b c d p q s t r e f h k = rw (e, f) (answer_is r _ _ h k ∙ sym (and_known a b c d p q s t))

pub xored : (x y : Word) (a b c d p q s t : ℕ) (r : Answered) → x ≡ known_word a b c d → y ≡ known_word p q s t → r.value ≡ known_word (bit_xor a p) (bit_xor b q) (bit_xor c s) (bit_xor d t) → r.flags ≡ flags_of 4 (number_of (bit_xor a p) (bit_xor b q) (bit_xor c s) (bit_xor d t)) (Some false) (Some false) → r ≡ bitwise Xor 4 x y
xored x y a b c d p q s t r e f h k = rw (e, f) (answer_is r _ _ h k ∙ sym (xor_known a b c d p q s t))
