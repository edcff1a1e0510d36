-- The room for each segment beside those before it, and for the stack beside all.
use Rattle.std.proofs.Common.{◌≡◌, ℕ, zero, suc, ◌+◌, ◌/◌, ◌%◌, ◌<◌, ◌≤◌, Bool, true, false, cond, leb, ltb, List, [], ◌∷◌, ◌++◌, length, take, get_or, find, Option, Some, None, refl, sym, ap, ◌∙◌, subst, arith}
use Rattle.std.proofs.lemmas.Bool.{and_from, and_right, and_parts, le-leb, lt-ltb, le-ltb, leb-true, ltb-true, false_from_ne_true, true≢false}
use Rattle.std.proofs.lemmas.List.Folds.{find-append}
use Rattle.std.proofs.lemmas.List.{take_more}
use Rattle.std.specs.List.{AllByRecursion}
use Rattle.std.specs.Option.{option_map, option_or}
use Rattle.image.specs.declared.image.Segment.{Segment}
use Rattle.image.specs.declared.image.Image.{Image}
use Rattle.image.specs.Addresses.{holds, segment_at}
use Rattle.image.specs.Wanted.{image_with, segment_end, HasItsPlace, meets, NoneMeet, FitsWideRoom}
use Rattle.memory.specs.Memory.{Memory, memory_of, place_in, stack_start}
use Rattle.mem_pages.specs.Regions.{HasRoom, unmapped}
use Rattle.x86_machine.specs.Loading.{with_segment}

-- the memory of some segments
pub segments_memory : (ss : List Segment) (a : ℕ) → memory_of (image_with ss 0) a ≡ option_map (place_in a) (find (holds a) ss)
unfolding memory_of segment_at
segments_memory ss a = refl

pub image_memory : (image : Image) → memory_of (image_with image.segments 0) ≡ memory_of image
unfolding memory_of segment_at
image_memory image = λ i a. option_map (place_in a) (find (holds a) image.segments)

pub no_segments : memory_of (image_with [] 0) ≡ unmapped
unfolding memory_of segment_at
no_segments = λ i a. None

-- two segments that have an address meet
meets_at : (a : ℕ) (s t : Segment) → holds a s ≡ true → holds a t ≡ true → meets s t ≡ true
meets_at a s t h k =
    let p : (leb s.start a ≡ true) × (ltb a (s.start + s.size) ≡ true) = and_parts (leb s.start a) (ltb a (s.start + s.size)) h in
    let q : (leb t.start a ≡ true) × (ltb a (t.start + t.size) ≡ true) = and_parts (leb t.start a) (ltb a (t.start + t.size)) k in
    let s0 : s.start ≤ a = leb-true s.start a p.0 in
    let s1 : a < s.start + s.size = ltb-true a (s.start + s.size) p.1 in
    let t0 : t.start ≤ a = leb-true t.start a q.0 in
    let t1 : a < t.start + t.size = ltb-true a (t.start + t.size) q.1 in
    and_from (ltb s.start (segment_end t)) (ltb t.start (segment_end s)) (lt-ltb s.start (t.start + t.size) (omega (arith, s0, t1))) (lt-ltb t.start (s.start + s.size) (omega (arith, t0, s1)))

-- whatever holds of all holds of one
all_at : (P : Segment → Type 0) (ss : List Segment) (i : ℕ) (d : Segment) → AllByRecursion P ss → i < length ss → P (get_or ss i d)
all_at P [] i d p h = absurd (omega (arith, h))
all_at P (s ∷ ss) zero d p h = p.0
all_at P (s ∷ ss) (suc i) d p h = all_at P ss i d p.1 (omega arith)

-- none before it has an address that it has
none_before : (a : ℕ) (ss : List Segment) (i : ℕ) (d : Segment) → NoneMeet ss → i < length ss → holds a (get_or ss i d) ≡ true → find (holds a) (take i ss) ≡ None
none_before a [] i d p h k = absurd (omega (arith, h))
none_before a (s ∷ ss) zero d p h k = refl
none_before a (s ∷ ss) (suc i) d p h k =
    let apart : meets s (get_or ss i d) ≡ false = all_at (λ t. meets s t ≡ false) ss i d p.0 (omega arith) in
    let misses : holds a s ≡ false = false_from_ne_true (holds a s) (λ e. true≢false (sym (meets_at a s (get_or ss i d) e k) ∙ apart)) in
    ap (λ b. cond b (Some s) (find (holds a) (take i ss))) misses ∙ none_before a ss i d p.1 (omega arith) k

-- a page of a segment is in it
page_in : (start size a b : ℕ) → start % 4096 ≡ 0 → size % 4096 ≡ 0 → start ≤ b → b < start + size → a / 4096 ≡ b / 4096 → (start ≤ a) × (a < start + size)
page_in start size a b u v h k e = (omega (arith, u, v, h, k, e), omega (arith, u, v, h, k, e))

holds_at : (a : ℕ) (s : Segment) → s.start ≤ a → a < s.start + s.size → holds a s ≡ true
holds_at a s h k = and_from (leb s.start a) (ltb a (s.start + s.size)) (le-leb s.start a h) (lt-ltb a (s.start + s.size) k)

pub room_for : (ss : List Segment) (entry i : ℕ) (s : Segment) → FitsWideRoom ss entry → i < length ss → s ≡ get_or ss i s → HasRoom s.start (s.start + s.size) (memory_of (image_with (take i ss) 0))
room_for ss entry i s fits within is = record {
  free = λ a b h k e.
      let place : HasItsPlace s = subst HasItsPlace (sym is) (all_at HasItsPlace ss i s fits.each within) in
      let p : (s.start ≤ a) × (a < s.start + s.size) = page_in s.start s.size a b place.start_in_pages place.size_in_pages h k e in
      let here : holds a (get_or ss i s) ≡ true = ap (holds a) (sym is) ∙ holds_at a s p.0 p.1 in
      segments_memory (take i ss) a ∙ ap (option_map (place_in a)) (none_before a ss i s fits.apart within here);
}

-- one segment more
some_none : (t : Segment) → Some t ≡ None → ⊥
some_none t e = cc

or_none : (a : ℕ) (s : Segment) (b : Bool) (o : Option Segment) → (b ≡ true → o ≡ None) → option_map (place_in a) (option_or o (cond b (Some s) None)) ≡ cond b (Some (place_in a s)) (option_map (place_in a) o)
or_none a s true None h = refl
or_none a s true (Some t) h = absurd (some_none t (h refl))
or_none a s false None h = refl
or_none a s false (Some t) h = refl

one_at : (ss : List Segment) (entry i : ℕ) (s : Segment) → FitsWideRoom ss entry → i < length ss → s ≡ get_or ss i s → (a : ℕ) → memory_of (image_with (take (i + 1) ss) 0) a ≡ with_segment s (memory_of (image_with (take i ss) 0)) a
one_at ss entry i s fits within is a =
    let more : take (i + 1) ss ≡ take i ss ++ s ∷ [] = take_more ss i s within ∙ ap (λ t. take i ss ++ t ∷ []) (sym is) in
    let none : holds a s ≡ true → find (holds a) (take i ss) ≡ None = λ h. none_before a ss i s fits.apart within (ap (holds a) (sym is) ∙ h) in
    segments_memory (take (i + 1) ss) a ∙ ap (λ ts. option_map (place_in a) (find (holds a) ts)) more ∙ ap (option_map (place_in a)) (find-append (holds a) (take i ss) (s ∷ [])) ∙ or_none a s (holds a s) (find (holds a) (take i ss)) none ∙ ap (cond (holds a s) (Some (place_in a s))) (sym (segments_memory (take i ss) a))

pub one_segment : (ss : List Segment) (entry i : ℕ) (s : Segment) → FitsWideRoom ss entry → i < length ss → s ≡ get_or ss i s → with_segment s (memory_of (image_with (take i ss) 0)) ≡ memory_of (image_with (take (i + 1) ss) 0)
one_segment ss entry i s fits within is = λ j a. sym (one_at ss entry i s fits within is a) j

-- no segment lies where the stack does
high_free : (a : ℕ) (ss : List Segment) → AllByRecursion HasItsPlace ss → 0x7C000000 ≤ a → find (holds a) ss ≡ None
high_free a [] p h = refl
high_free a (s ∷ ss) p h =
    let misses : holds a s ≡ false = and_right (leb s.start a) (ltb a (s.start + s.size)) (le-ltb a (s.start + s.size) (omega (arith, p.0.to, h))) in
    ap (λ b. cond b (Some s) (find (holds a) ss)) misses ∙ high_free a ss p.1 h

stack_page : (esp0 a b : ℕ) → 0x80000000 ≤ esp0 → stack_start esp0 ≤ b → a / 4096 ≡ b / 4096 → 0x7C000000 ≤ a
stack_page esp0 a b high h e = omega (arith, high, h, e)

pub stack_room : (image : Image) (esp0 end : ℕ) → FitsWideRoom image.segments image.entry → 0x80000000 ≤ esp0 → HasRoom (stack_start esp0) end (memory_of image)
stack_room image esp0 end fits high = record {
  free = λ a b h k e. ap (λ (m : Memory). m a) (sym (image_memory image)) ∙ segments_memory image.segments a ∙ ap (option_map (place_in a)) (high_free a image.segments fits.each (stack_page esp0 a b high h e));
}

-- all segments
take_past : (ss : List Segment) (i : ℕ) → length ss ≤ i → take i ss ≡ ss
take_past [] zero h = refl
take_past [] (suc i) h = refl
take_past (s ∷ ss) zero h = absurd (omega (arith, h))
take_past (s ∷ ss) (suc i) h = ap (λ ts. s ∷ ts) (take_past ss i (omega arith))

pub all_segments : (image : Image) (ss : List Segment) (i : ℕ) → length ss ≤ i → ss ≡ image.segments → memory_of (image_with (take i ss) 0) ≡ memory_of image
all_segments image ss i h is = ap (λ ts. memory_of (image_with ts 0)) (take_past ss i h ∙ is) ∙ image_memory image
