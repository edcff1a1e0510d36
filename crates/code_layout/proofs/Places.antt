-- The places of the segments of a written file.
use Rattle.std.proofs.Common.{◌≡◌, ℕ, ◌-◌, ◌*◌, ◌/◌, ◌%◌, ◌<◌, ◌≤◌, ◌&&◌, Bool, true, false, List, [], ◌∷◌, ◌++◌, length, refl, ap, ◌∙◌, arith}
use Rattle.std.proofs.lemmas.Bool.Decides.{nat_tests}
use Rattle.image.specs.declared.image.Segment.{Segment}
use Rattle.image.specs.Addresses.{has}
use Rattle.image.specs.Wanted.{HasItsPlace}
use Rattle.code_text.specs.KeptPlaces.{code_start, table_start}
use Rattle.laid_image.specs.NewImage.{whole_pages, in_pages, as_data, own_segment, words_bytes}
use Rattle.code_layout.proofs.Pages.{length_in_pages}

-- ---- an old segment, which can't be run any more
same_quarter : (p : ℕ) → (p - p % 2) / 4 ≡ p / 4
same_quarter p = omega arith

even : (p : ℕ) → (p - p % 2) % 2 ≡ 0
even p = omega arith

still_readable : (p : ℕ) → has p 4 ≡ true → has (p - p % 2) 4 ≡ true
still_readable p e = rw (same_quarter p) e

not_code : (p : ℕ) → has (p - p % 2) 1 ≡ false
not_code p = let e = even p in grind (arith, nat_tests)

and_false : (b c : Bool) → c ≡ false → (b && c) ≡ false
and_false true c e = e
and_false false c e = refl

pub data_place : (s : Segment) → HasItsPlace s → HasItsPlace (as_data s)
data_place s place = record {
  start_in_pages = place.start_in_pages;
  size_in_pages = place.size_in_pages;
  bytes_in_pages = place.bytes_in_pages;
  sized = place.sized;
  within = place.within;
  from = place.from;
  to = place.to;
  perm = let below = place.perm in omega (arith, below);
  readable = still_readable s.perm.0 place.readable;
  not_both = and_false (has (s.perm.0 - s.perm.0 % 2) 2) (has (s.perm.0 - s.perm.0 % 2) 1) (not_code s.perm.0);
}

-- ---- the segment of the code
pub code_place : (code : List ℕ) → 0 < whole_pages (length code) → whole_pages (length code) ≤ 0x14000000 → HasItsPlace (own_segment code_start (whole_pages (length code)) 5 (in_pages code))
code_place code some few = record {
  start_in_pages = refl;
  size_in_pages = omega arith;
  bytes_in_pages = omega (arith, length_in_pages code);
  sized = some;
  within = omega (arith, length_in_pages code);
  from = omega arith;
  to = omega (arith, few);
  perm = omega arith;
  readable = refl;
  not_both = refl;
}

-- ---- the segment of the table
pub length_words : (words : List ℕ) → length (words_bytes words) ≡ 4 * length words
length_words [] = refl
length_words (w ∷ words) = let rest = length_words words in omega (arith, rest)

-- its bytes are those of the words
pub table_place : (words bytes : List ℕ) → bytes ≡ words_bytes words → 0 < length words → 4 * length words ≤ 0x1000000 → HasItsPlace (own_segment table_start (whole_pages (length bytes)) 4 (in_pages bytes))
table_place words bytes is some few =
    let long : length bytes ≡ 4 * length words = ap length is ∙ length_words words in
    record {
      start_in_pages = refl;
      size_in_pages = omega arith;
      bytes_in_pages = omega (arith, length_in_pages bytes);
      sized = omega (arith, some, long);
      within = omega (arith, length_in_pages bytes);
      from = omega arith;
      to = omega (arith, few, long);
      perm = omega arith;
      readable = refl;
      not_both = refl;
    }

-- ---- all of them
pub joined : (old : List Segment) (a b c d e : Segment) → ((((old ++ a ∷ []) ++ b ∷ []) ++ c ∷ []) ++ d ∷ []) ++ e ∷ [] ≡ old ++ a ∷ b ∷ c ∷ d ∷ e ∷ []
joined [] a b c d e = refl
joined (s ∷ old) a b c d e = ap (λ (ss : List Segment). s ∷ ss) (joined old a b c d e)
