-- Each aligned word of an image is looked at.
use Rattle.std.proofs.Common.{◌≡◌, ℕ, ◌+◌, ◌-◌, ◌*◌, ◌/◌, ◌%◌, ◌<◌, ◌≤◌, min, length, slice_index, Bool, true, false, cond, List, [], ◌∷◌, find, Contains, Option, Some, None, refl, sym, ap, ◌∙◌, subst, arith, inl, inr}
use Rattle.std.specs.Option.{option_map}
use Rattle.std.proofs.lemmas.Bool.{cases_lt}
use Rattle.std.proofs.lemmas.Bool.Decides.{nat_tests}
use Rattle.std.proofs.lemmas.List.{get_or_past}
use Rattle.std.proofs.lemmas.List.Elements.{All-from_recursion, All-contains}
use Rattle.image.specs.declared.image.Image.{Image}
use Rattle.image.specs.declared.image.Segment.{Segment}
use Rattle.image.specs.Addresses.{holds, segment_at, segment_byte, byte_at}
use Rattle.image.specs.Wanted.{HasItsPlace, FitsWideRoom}
use Rattle.plan_types.specs.declared.table.Table.{Table}
use Rattle.plan_types.specs.Tables.{word_with}
use Rattle.plan_types.specs.FoundCode.{IsTableFrom, word_at}
use Rattle.byte_lists.specs.LittleEndian as lists
use Rattle.code_scan.specs.declared.span.CodeSpan.{CodeSpan}
use Rattle.code_scan.specs.Spans.{is_between, IsCodeSpan}
use Rattle.code_discovery.specs.Kept.{FoundSoFar, GivenIn, IsSoundSoFar}
use Rattle.code_discovery.specs.Settled.{KeepsFound}
use Rattle.code_discovery.specs.Whole.{AreTablesApart, HasStored}
use Rattle.code_discovery.specs.Words.{IsStoredKept, IsPageKept, AreStoredKept}
use Rattle.code_discovery.proofs.Members.{head_in, tail_in}
use Rattle.code_discovery.proofs.Whole.{none_given}

pub stored_still : (image : Image) (old new : FoundSoFar) → KeepsFound old new → new.tables ≡ old.tables → (at : ℕ) → IsStoredKept image old at → IsStoredKept image new at
stored_still image old new more same at done = record {
  kept = λ a word runs apart s. more.procs a (done.kept a word runs (subst (λ (ts : List Table). AreTablesApart ts at) same apart) s);
}

-- where no byte that can be run is around the word's address, nothing is given
pub far_kept : (image : Image) (k : FoundSoFar) (span : CodeSpan) (at word : ℕ) → IsCodeSpan image span → ((a : ℕ) → word_at image at ≡ Some a → a ≡ word) → is_between word span ≡ false → IsStoredKept image k at
far_kept image k span at word around is far = record {
  kept = λ a there runs apart s.
      let near : is_between word span ≡ true = ap (λ n. is_between n span) (sym (is a there)) ∙ around.spans a runs in
      let both : false ≡ true = sym far ∙ near in
      absurd cc;
}

-- behind the bytes that a page has stand words that are 0
no_bytes : (bytes : List ℕ) (i : ℕ) → length bytes ≤ i → lists.word_at bytes i ≡ 0
no_bytes bytes i past =
    let b : (k : ℕ) → slice_index bytes (i + k) ≡ 0 = λ k. get_or_past bytes (i + k) 0 (omega arith) in
    let b0 : slice_index bytes i ≡ 0 = get_or_past bytes i 0 past in
    omega (arith, b0, b 1, b 2, b 3)

zero_far : (span : CodeSpan) → 0 < span.start → is_between 0 span ≡ false
zero_far span above = grind (arith, nat_tests)

pub page_kept : (image : Image) (k : FoundSoFar) (span : CodeSpan) (page : ℕ) (bytes : List ℕ) (count : ℕ) → IsCodeSpan image span → length bytes % 4096 ≡ 0 → min (length bytes / 4) 1024 ≤ count
    → ((index word : ℕ) → index < 1024 → word_at image (page + 4 * index) ≡ Some word → word ≡ lists.word_at bytes (4 * index))
    → ((i : ℕ) → i < count → IsStoredKept image k (page + 4 * i)) → IsPageKept image k page
page_kept image k span page bytes count around sized all words done index low = elim (cases_lt index count) [
  | inl before ↦ done index before
  | inr behind ↦
      let zero : lists.word_at bytes (4 * index) ≡ 0 = no_bytes bytes (4 * index) (omega arith) in
      far_kept image k span (page + 4 * index) 0 around (λ a there. words index a low there ∙ zero) (zero_far span around.above)
]

pub far_page_kept : (image : Image) (k : FoundSoFar) (span : CodeSpan) (page : ℕ) (bytes : List ℕ) → IsCodeSpan image span → length bytes % 4096 ≡ 0
    → ((index word : ℕ) → index < 1024 → word_at image (page + 4 * index) ≡ Some word → word ≡ lists.word_at bytes (4 * index))
    → ((index : ℕ) → index < min (length bytes / 4) 1024 → is_between (lists.word_at bytes (4 * index)) span ≡ false) → IsPageKept image k page
far_page_kept image k span page bytes around sized words far =
    page_kept image k span page bytes (min (length bytes / 4) 1024) around sized (omega arith) words
    (λ i low. far_kept image k span (page + 4 * i) (lists.word_at bytes (4 * i)) around (λ a there. words i a (omega arith) there) (far i low))

-- a word of a segment is one of a page
pub pages_kept : (image : Image) (k : FoundSoFar) (s : Segment) (count : ℕ) → s.size % 4096 ≡ 0 → s.size / 4096 ≤ count → ((p : ℕ) → p < count → IsPageKept image k (s.start + 4096 * p)) → AreStoredKept image k s
pages_kept image k s count sized all done index low =
    let at : s.start + 4096 * (index / 1024) + 4 * (index % 1024) ≡ s.start + 4 * index = omega arith in
    subst (λ n. IsStoredKept image k n) at (done (index / 1024) (omega arith) (index % 1024) (omega arith))

-- the first that passes a test is one, and passes it
found_in : {X : Type 0} (test : X → Bool) (xs : List X) (x : X) → find test xs ≡ Some x → Contains xs x × (test x ≡ true)
found_in test [] x e = cc
found_in test (y ∷ ys) x e =
    (elim (test y) as (λ b. test y ≡ b → cond b (Some y) (find test ys) ≡ Some x → Contains (y ∷ ys) x × (test x ≡ true)) [
      | true ↦ λ passes e. let same : y ≡ x = cc in (subst (λ z. Contains (y ∷ ys) z) same (head_in y ys), subst (λ z. test z ≡ true) same passes)
      | false ↦ λ fails e. let more = found_in test ys x e in (tail_in y ys x more.0, more.1)
    ]) refl e

-- the segment of a word
pub record IsInSegment (image : Image) (at : ℕ) : Type 0 where
  pub segment : Segment
  pub among : Contains image.segments segment
  pub holds_it : holds at segment ≡ true

segment_by : (image : Image) (at : ℕ) (o : Option Segment) → find (holds at) image.segments ≡ o → (x y z : Option ℕ) (a : ℕ) → word_with (option_map (segment_byte at) o) x y z ≡ Some a → IsInSegment image at
segment_by image at None e x y z a is = cc
segment_by image at (Some s) e x y z a is = let f = found_in (holds at) image.segments s e in record { segment = s; among = f.0; holds_it = f.1 }

in_segment : (image : Image) (at a : ℕ) → word_at image at ≡ Some a → IsInSegment image at
unfolding segment_at
in_segment image at a is = segment_by image at (find (holds at) image.segments) refl (byte_at image (at + 1)) (byte_at image (at + 2)) (byte_at image (at + 3)) a is

from_start : (at : ℕ) (s : Segment) → holds at s ≡ true → s.start ≤ at
from_start at s h = grind (arith, nat_tests)

before_end : (at : ℕ) (s : Segment) → holds at s ≡ true → at < s.start + s.size
before_end at s h = grind (arith, nat_tests)

-- an aligned word is one of the words of its segment
place_of : (start size at : ℕ) → start % 4096 ≡ 0 → size % 4096 ≡ 0 → at % 4 ≡ 0 → start ≤ at → at < start + size → start + 4 * ((at - start) / 4) ≡ at
place_of start size at s n a low high = omega arith

index_of : (start size at : ℕ) → start % 4096 ≡ 0 → size % 4096 ≡ 0 → at % 4 ≡ 0 → start ≤ at → at < start + size → (at - start) / 4 < size / 4
index_of start size at s n a low high = omega arith

pub all_stored : (image : Image) → FitsWideRoom image.segments image.entry → (old k : FoundSoFar) → IsSoundSoFar image old → old.stored ≡ false → k.tables ≡ old.tables
    → ((s : Segment) → Contains image.segments s → AreStoredKept image k s) → HasStored image k
all_stored image fits old k sound none same each a st stands =
    let i = in_segment image st.at a st.word in
    let place = All-contains HasItsPlace image.segments i.segment (All-from_recursion HasItsPlace image.segments fits.each) i.among in
    let low = from_start st.at i.segment i.holds_it in
    let high = before_end st.at i.segment i.holds_it in
    let done = each i.segment i.among ((st.at - i.segment.start) / 4) (index_of i.segment.start i.segment.size st.at place.start_in_pages place.size_in_pages st.aligned low high) in
    let at_word = subst (λ n. IsStoredKept image k n) (place_of i.segment.start i.segment.size st.at place.start_in_pages place.size_in_pages st.aligned low high) done in
    at_word.kept a st.word st.runs
    (λ t c. st.apart t (none_given image t (subst (λ (b : Bool). IsTableFrom image (GivenIn image b) t) none (sound.tables t (subst (λ (ts : List Table). Contains ts t) same c))))) stands
