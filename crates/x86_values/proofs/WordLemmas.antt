-- Words, their numbers and their bytes.
use Rattle.std.proofs.Common.{◌≡◌, ℕ, ◌+◌, ◌*◌, ◌/◌, ◌%◌, ◌^◌, ◌<◌, List, [], ◌∷◌, All, Some, refl, ap, arith}
use Rattle.std.proofs.lemmas.List.Elements.{All-nil, All-cons, All-head, All-tail}
use Rattle.x86_values.specs.declared.byte.Byte.{Byte}
use Rattle.x86_values.specs.declared.byte.Byte.TheVariants.{Known}
use Rattle.x86_values.specs.declared.word.Word.{Word}
use Rattle.x86_values.specs.Words.{IsByte, IsWord, word_of, known, word_list, padded}

-- the number of a word
pub known_word : (n : ℕ) → n < 2 ^ 32 → known (word_of n) ≡ Some n
unfolding known word_of
known_word n h =
    let e : n % 256 + 256 * (n / 256 % 256) + 65536 * (n / 65536 % 256) + 16777216 * (n / 16777216 % 256) ≡ n = omega arith in
    ap (λ x. Some x) e

pub padded_list : (w : Word) → padded (word_list w) ≡ w
padded_list w = refl

pub word_fits : (n : ℕ) → IsWord (word_of n)
unfolding word_of
word_fits n = record { b0 = omega arith; b1 = omega arith; b2 = omega arith; b3 = omega arith }

-- bytes one by one
joined : (b : Byte) (bs : List Byte) → IsByte b → All IsByte bs → All IsByte (b ∷ bs)
joined b bs h k = All-cons IsByte b bs h k

pub list_fits : (w : Word) → IsWord w → All IsByte (word_list w)
list_fits w h = joined w.b0 (w.b1 ∷ w.b2 ∷ w.b3 ∷ []) h.b0 (joined w.b1 (w.b2 ∷ w.b3 ∷ []) h.b1 (joined w.b2 (w.b3 ∷ []) h.b2 (joined w.b3 [] h.b3 (All-nil IsByte))))

zero_fits : IsByte (Known 0)
zero_fits = omega arith

pub padded_fits : (bs : List Byte) → All IsByte bs → IsWord (padded bs)
padded_fits [] h = record { b0 = zero_fits; b1 = zero_fits; b2 = zero_fits; b3 = zero_fits }
padded_fits (a ∷ []) h = record { b0 = All-head IsByte a [] h; b1 = zero_fits; b2 = zero_fits; b3 = zero_fits }
padded_fits (a ∷ b ∷ []) h =
    let t : All IsByte (b ∷ []) = All-tail IsByte a (b ∷ []) h in
    record { b0 = All-head IsByte a (b ∷ []) h; b1 = All-head IsByte b [] t; b2 = zero_fits; b3 = zero_fits }
padded_fits (a ∷ b ∷ c ∷ []) h =
    let t : All IsByte (b ∷ c ∷ []) = All-tail IsByte a (b ∷ c ∷ []) h in
    let u : All IsByte (c ∷ []) = All-tail IsByte b (c ∷ []) t in
    record { b0 = All-head IsByte a (b ∷ c ∷ []) h; b1 = All-head IsByte b (c ∷ []) t; b2 = All-head IsByte c [] u; b3 = zero_fits }
padded_fits (a ∷ b ∷ c ∷ d ∷ rest) h =
    let t : All IsByte (b ∷ c ∷ d ∷ rest) = All-tail IsByte a (b ∷ c ∷ d ∷ rest) h in
    let u : All IsByte (c ∷ d ∷ rest) = All-tail IsByte b (c ∷ d ∷ rest) t in
    let v : All IsByte (d ∷ rest) = All-tail IsByte c (d ∷ rest) u in
    record { b0 = All-head IsByte a (b ∷ c ∷ d ∷ rest) h; b1 = All-head IsByte b (c ∷ d ∷ rest) t; b2 = All-head IsByte c (d ∷ rest) u; b3 = All-head IsByte d rest v }
