-- The segment at an address of the image of a written file.
use Rattle.std.proofs.Common.{◌≡◌, ℕ, ◌+◌, ◌*◌, ◌<◌, ◌≤◌, Bool, true, false, cond, List, [], ◌∷◌, length, map, find, Option, Some, None, refl, ap, ◌∙◌, arith}
use Rattle.std.proofs.lemmas.List.Elements.{recursion_from_All}
use Rattle.std.proofs.lemmas.List.Folds.{find-append}
use Rattle.std.proofs.lemmas.Bool.Decides.{nat_tests}
use Rattle.std.specs.List.{AllByRecursion}
use Rattle.std.specs.Option.{option_map, option_or}
use Rattle.image.specs.declared.image.Segment.{Segment}
use Rattle.image.specs.Addresses.{holds, segment_at}
use Rattle.image.specs.Wanted.{HasItsPlace, segment_end}
use Rattle.code_text.specs.KeptPlaces.{code_start, table_start}
use Rattle.laid_image.specs.NewImage.{whole_pages, in_pages, as_data, own_segment, words_bytes, own_segments, new_segments, new_image, FitsSourceRoom, HasNewRoom}
use Rattle.laid_image.proofs.Lists.{each_weaker}
use Rattle.laid_image.proofs.Fits.{own_starts}

-- ---- in any list
pub holds_past : (a : ℕ) (s : Segment) → segment_end s ≤ a → holds a s ≡ false
holds_past a s h = grind (arith, nat_tests)

holds_before : (a : ℕ) (s : Segment) → a < s.start → holds a s ≡ false
holds_before a s h = grind (arith, nat_tests)

holds_within : (a : ℕ) (s : Segment) → s.start ≤ a → a < segment_end s → holds a s ≡ true
holds_within a s h k = grind (arith, nat_tests)

pub none_before : (a : ℕ) (ss : List Segment) → AllByRecursion (λ (s : Segment). a < s.start) ss → find (holds a) ss ≡ None
none_before a [] h = refl
none_before a (s ∷ ss) h = ap (λ b. cond b (Some s) (find (holds a) ss)) (holds_before a s h.0) ∙ none_before a ss h.1

none_past : (a : ℕ) (ss : List Segment) → AllByRecursion (λ (s : Segment). segment_end s ≤ a) ss → find (holds a) ss ≡ None
none_past a [] h = refl
none_past a (s ∷ ss) h = ap (λ b. cond b (Some s) (find (holds a) ss)) (holds_past a s h.0) ∙ none_past a ss h.1

found_more : (b : Bool) (s : Segment) (o p : Option Segment) → o ≡ option_map as_data p → cond b (Some (as_data s)) o ≡ option_map as_data (cond b (Some s) p)
found_more true s o p e = refl
found_more false s o p e = e

data_found : (a : ℕ) (old : List Segment) → find (holds a) (map as_data old) ≡ option_map as_data (find (holds a) old)
data_found a [] = refl
data_found a (s ∷ ss) = found_more (holds a s) s (find (holds a) (map as_data ss)) (find (holds a) ss) (data_found a ss)

or_none : (o : Option Segment) → option_or o None ≡ o
or_none None = refl
or_none (Some s) = refl

-- ---- the old segments
module _ (old : List Segment) (entry : ℕ) (fits : FitsSourceRoom old entry) where
  pub none_low : (a : ℕ) → a < 4096 → find (holds a) old ≡ None
  none_low a low = none_before a old (each_weaker HasItsPlace (λ (s : Segment). a < s.start) (λ s h. let from = h.from in omega (arith, low, from)) old fits.wide.each)

  pub none_high : (a : ℕ) → 0x50000000 ≤ a → find (holds a) old ≡ None
  none_high a high =
      none_past a old
      (each_weaker (λ (s : Segment). segment_end s ≤ 0x50000000) (λ (s : Segment). segment_end s ≤ a) (λ s to. omega (arith, high, to)) old
      (recursion_from_All (λ (s : Segment). segment_end s ≤ 0x50000000) old fits.to))

-- ---- the own ones
module _ (size : ℕ) (code words : List ℕ) (room : HasNewRoom size code words) where
  abbrev own : List Segment
  own = own_segments size code words

  abbrev pub code_one : Segment
  code_one = own_segment code_start size 5 code

  abbrev pub table_one : Segment
  table_one = own_segment table_start (whole_pages (4 * length words)) 4 (in_pages (words_bytes words))

  abbrev pub cells : Segment
  cells = own_segment 0x75000000 0x800000 6 []

  abbrev pub variables : Segment
  variables = own_segment 0x76000000 0x3000000 6 []

  abbrev pub frames : Segment
  frames = own_segment 0x79000000 0x3000000 6 []

  past_code : (a : ℕ) → 0x74000000 ≤ a → holds a code_one ≡ false
  past_code a h = let few = room.few in holds_past a code_one (omega (arith, few, h))

  past_table : (a : ℕ) → 0x75000000 ≤ a → holds a table_one ≡ false
  past_table a h = let few = room.few_words in holds_past a table_one (omega (arith, few, h))

  pub in_code : (a : ℕ) → code_start ≤ a → a < code_start + size → find (holds a) own ≡ Some code_one
  in_code a from to = ap (λ b. cond b (Some code_one) (find (holds a) (table_one ∷ cells ∷ variables ∷ frames ∷ []))) (holds_within a code_one from to)

  pub in_table : (a : ℕ) → table_start ≤ a → a < table_start + whole_pages (4 * length words) → find (holds a) own ≡ Some table_one
  in_table a from to = rw (past_code a from, holds_within a table_one from to) refl

  pub in_cells : (a : ℕ) → 0x75000000 ≤ a → a < 0x75800000 → find (holds a) own ≡ Some cells
  in_cells a from to = rw (past_code a (omega (arith, from)), past_table a from, holds_within a cells from to) refl

  pub in_variables : (a : ℕ) → 0x76000000 ≤ a → a < 0x79000000 → find (holds a) own ≡ Some variables
  in_variables a from to =
      rw (past_code a (omega (arith, from)), past_table a (omega (arith, from)), holds_past a cells (omega (arith, from)), holds_within a variables from to) refl

  pub in_frames : (a : ℕ) → 0x79000000 ≤ a → a < 0x7C000000 → find (holds a) own ≡ Some frames
  in_frames a from to =
      rw (past_code a (omega (arith, from)), past_table a (omega (arith, from)), holds_past a cells (omega (arith, from)), holds_past a variables (omega (arith, from)), holds_within a frames from to) refl

  pub past_own : (a : ℕ) → 0x7C000000 ≤ a → find (holds a) own ≡ None
  past_own a h =
      rw (past_code a (omega (arith, h)), past_table a (omega (arith, h)), holds_past a cells (omega (arith, h)), holds_past a variables (omega (arith, h)), holds_past a frames (omega (arith, h))) refl

  pub own_not_before : (a : ℕ) → a < code_start → find (holds a) own ≡ None
  own_not_before a h = none_before a own (each_weaker (λ (s : Segment). code_start ≤ s.start) (λ (s : Segment). a < s.start) (λ s from. omega (arith, h, from)) own (own_starts size code words room))

  -- ---- all of them
  module _ (old : List Segment) (entry : ℕ) (fits : FitsSourceRoom old entry) where
    pub below : (a : ℕ) → a < code_start → segment_at (new_image old size code words) a ≡ option_map as_data (find (holds a) old)
    unfolding segment_at new_segments
    below a h =
        find-append (holds a) (map as_data old) own
        ∙ (ap (option_or (find (holds a) (map as_data old))) (own_not_before a h)
        ∙ (or_none (find (holds a) (map as_data old)) ∙ data_found a old))

    pub above : (a : ℕ) → code_start ≤ a → segment_at (new_image old size code words) a ≡ find (holds a) own
    unfolding segment_at new_segments
    above a h =
        find-append (holds a) (map as_data old) own
        ∙ ap (λ o. option_or o (find (holds a) own)) (data_found a old ∙ ap (option_map as_data) (none_high old entry fits a (omega (arith, h))))
