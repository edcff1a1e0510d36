-- Among ranges in order two share a page exactly where two neighbours do, and the order doesn't matter for the whole test.
use Rattle.std.proofs.Common.{◌≡◌, ℕ, ◌+◌, ◌<◌, ◌≤◌, ◌∙◌, ◌&&◌, ◌||◌, Bool, true, false, cond, leb, ltb, max, List, [], ◌∷◌, length, drop, get_or, ap, refl, arith, sym}
use Rattle.std.proofs.lemmas.Bool.{or_parts, or_from, ltb-false, le-ltb, false_from_ne_true}
use Rattle.std.proofs.lemmas.Bool.Decides.{nat_tests}
use Rattle.std.proofs.lemmas.List.{at_drop_more, at_drop_all}
use Rattle.std.proofs.lemmas.List.Sums.{sum_by-cons}
use Rattle.std.proofs.lemmas.List.Sorted.{sum_by-IsPermutation, IsNonDecreasingBy-drop, All-permutation, IsPermutation-sym}
use Rattle.std.proofs.lemmas.List.Elements.{All-weaker, recursion_from_All}
use Rattle.std.specs.List.{list_any, sum_by, All, AllByRecursion}
use Rattle.std.specs.List.Sorted.{IsPermutation, IsNonDecreasingBy}
use Rattle.elf_image.specs.declared.header.ProgramHeader.{ProgramHeader}
use Rattle.elf_image.specs.Pages.{first_page, end_page}
use Rattle.elf_image.specs.Refusals.{any_shares_page, shares_page}
use Rattle.elf_image.specs.Overlaps.{overlaps}

pub overlaps_more : (hs : List ProgramHeader) (i end : ℕ) (h : ProgramHeader) → i < length hs → h ≡ get_or hs i h
    → overlaps end (drop i hs) ≡ (ltb (first_page h) end || overlaps (end_page h) (drop (i + 1) hs))
overlaps_more hs i end h within is = at_drop_more (overlaps end) hs i h within ∙ ap (λ k. ltb (first_page k) end || overlaps (end_page k) (drop (i + 1) hs)) (sym is)

pub overlaps_none : (hs : List ProgramHeader) (i end : ℕ) → length hs ≤ i → overlaps end (drop i hs) ≡ false
overlaps_none hs i end past = at_drop_all (overlaps end) hs i past

-- a range [a, b) and a range [c, d) have a number in common
abbrev meets : ℕ → ℕ → ℕ → ℕ → Bool
meets a b c d = ltb a d && ltb c b

-- 1 where a number is in a range
abbrev within : ℕ → ℕ → ℕ → ℕ
within a b p = cond (leb a p && ltb p b) 1 0

apart_at : (a b c d p : ℕ) → meets a b c d ≡ false → a ≤ p → p < b → within c d p ≡ 0
apart_at a b c d p e low high = grind (arith, nat_tests)

met_at : (a b c d : ℕ) → a < b → c < d → meets a b c d ≡ true → within c d (max a c) ≡ 1
met_at a b c d some more e = grind (arith, nat_tests)

met_low : (a b c d : ℕ) → a < b → c < d → meets a b c d ≡ true → max a c < b
met_low a b c d some more e = grind (arith, nat_tests)

apart_from : (a b c d : ℕ) → a < b → c < d → ((p : ℕ) → a ≤ p → p < b → within c d p ≡ 0) → meets a b c d ≡ false
apart_from a b c d some more none =
    false_from_ne_true (meets a b c d) (λ e. let one = met_at a b c d some more e in let zero = none (max a c) (omega arith) (met_low a b c d some more e) in omega arith)

in_order : (a b c d : ℕ) → meets a b c d ≡ false → a ≤ c → c < d → ltb c b ≡ false
in_order a b c d e up some = grind (arith, nat_tests)

after : (a b c d : ℕ) → b ≤ c → meets a b c d ≡ false
after a b c d up = grind (arith, nat_tests)

abbrev IsSized : ProgramHeader → Type 0
IsSized h = first_page h < end_page h

-- what begins where no segment before it has ended comes after all of them
begins_later : (a b : ℕ) → a ≤ b → (hs : List ProgramHeader) → AllByRecursion (λ k. b ≤ first_page k) hs → AllByRecursion (λ k. a ≤ first_page k) hs
begins_later a b up [] all = tt
begins_later a b up (h ∷ hs) all = let one : b ≤ first_page h = all.0 in (omega arith, begins_later a b up hs all.1)

later : (a : ℕ) (hs : List ProgramHeader) → overlaps a hs ≡ false → AllByRecursion IsSized hs → AllByRecursion (λ k. a ≤ first_page k) hs
later a [] e sized = tt
later a (h ∷ hs) e sized =
    let parts = or_parts _ _ e in
    let low : a ≤ first_page h = ltb-false _ _ parts.0 in
    let some : first_page h < end_page h = sized.0 in
    (low, begins_later a (end_page h) (omega arith) hs (later (end_page h) hs parts.1 sized.1))

apart_from_all : (h : ProgramHeader) (hs : List ProgramHeader) → AllByRecursion (λ k. end_page h ≤ first_page k) hs → list_any (shares_page h) hs ≡ false
apart_from_all h [] all = refl
apart_from_all h (k ∷ ks) all = or_from _ _ (after (first_page h) (end_page h) (first_page k) (end_page k) all.0) (apart_from_all h ks all.1)

-- where no neighbours overlap, none share a page
apart_by_neighbours : (a : ℕ) (hs : List ProgramHeader) → overlaps a hs ≡ false → AllByRecursion IsSized hs → any_shares_page hs ≡ false
apart_by_neighbours a [] e sized = refl
apart_by_neighbours a (h ∷ hs) e sized =
    let parts = or_parts _ _ e in
    or_from _ _ (apart_from_all h hs (later (end_page h) hs parts.1 sized.1)) (apart_by_neighbours (end_page h) hs parts.1 sized.1)

-- and the other way round, in order of first pages
abbrev Rises : ℕ → List ProgramHeader → Type 0
Rises a [] = Unit {0}
Rises a (h ∷ hs) = (a ≤ first_page h) × Rises (first_page h) hs

neighbours_apart : (h : ProgramHeader) (hs : List ProgramHeader) → Rises (first_page h) hs → AllByRecursion IsSized hs → any_shares_page (h ∷ hs) ≡ false → overlaps (end_page h) hs ≡ false
neighbours_apart h [] up sized e = refl
neighbours_apart h (k ∷ ks) up sized e =
    let parts = or_parts _ _ e in
    let first = or_parts (shares_page h k) (list_any (shares_page h) ks) parts.0 in
    or_from _ _ (in_order (first_page h) (end_page h) (first_page k) (end_page k) first.0 up.0 sized.0) (neighbours_apart k ks up.1 sized.1 parts.1)

rises : (a : ℕ) (hs : List ProgramHeader) → IsNonDecreasingBy first_page hs → (0 < length hs → a ≤ first_page (get_or hs 0 (record { p_type = 0; p_offset = 0; p_vaddr = 0; p_filesz = 0; p_memsz = 0; p_flags = 0 }))) → Rises a hs
rises a [] up low = tt
rises a (h ∷ hs) up low = (low (omega arith), rises (first_page h) hs (IsNonDecreasingBy-drop first_page 1 (h ∷ hs) up) (λ some. up 0 1 _ (omega arith) (omega arith)))

-- `overlaps` of sorted segments is the test of all pairs
ordered_tests : (hs : List ProgramHeader) → IsNonDecreasingBy first_page hs → AllByRecursion IsSized hs → any_shares_page hs ≡ false → overlaps 0 hs ≡ false
ordered_tests [] up sized e = refl
ordered_tests (h ∷ hs) up sized e =
    let rising = rises 0 (h ∷ hs) up (λ some. omega arith) in
    or_from _ _ (le-ltb (first_page h) 0 (omega arith)) (neighbours_apart h hs rising.1 sized.1 e)

-- how many segments have a page
abbrev covers : ℕ → ProgramHeader → ℕ
covers p h = within (first_page h) (end_page h) p

covered_once : (h : ProgramHeader) (hs : List ProgramHeader) (p : ℕ) → list_any (shares_page h) hs ≡ false → first_page h ≤ p → p < end_page h → sum_by (covers p) hs ≡ 0
covered_once h [] p e low high = refl
covered_once h (k ∷ ks) p e low high =
    let parts = or_parts (shares_page h k) (list_any (shares_page h) ks) e in
    let zero : covers p k ≡ 0 = apart_at (first_page h) (end_page h) (first_page k) (end_page k) p parts.0 low high in
    let rest = covered_once h ks p parts.1 low high in
    sum_by-cons (covers p) k ks ∙ omega arith

one_of_two : (a b p rest : ℕ) → rest ≤ 1 → (a ≤ p → p < b → rest ≡ 0) → within a b p + rest ≤ 1
one_of_two a b p rest few none = grind (arith, nat_tests)

once_each : (hs : List ProgramHeader) (p : ℕ) → any_shares_page hs ≡ false → sum_by (covers p) hs ≤ 1
once_each [] p e = omega arith
once_each (h ∷ hs) p e =
    let parts = or_parts (list_any (shares_page h) hs) (any_shares_page hs) e in
    let more = one_of_two (first_page h) (end_page h) p (sum_by (covers p) hs) (once_each hs p parts.1) (λ low high. covered_once h hs p parts.0 low high) in
    rw sum_by-cons more

apart_by_cover : (h : ProgramHeader) (hs : List ProgramHeader) → IsSized h → AllByRecursion IsSized hs → ((p : ℕ) → first_page h ≤ p → p < end_page h → sum_by (covers p) hs ≡ 0) → list_any (shares_page h) hs ≡ false
apart_by_cover h [] some sized none = refl
apart_by_cover h (k ∷ ks) some sized none =
    let split = λ (p : ℕ) (low : first_page h ≤ p) (high : p < end_page h). sum_by-cons (covers p) k ks in
    or_from _ _
    (apart_from (first_page h) (end_page h) (first_page k) (end_page k) some sized.0 (λ p low high. let e = none p low high in let f = split p low high in omega arith))
    (apart_by_cover h ks some sized.1 (λ p low high. let e = none p low high in let f = split p low high in omega arith))

within_is_one : (a b p rest : ℕ) → a ≤ p → p < b → within a b p + rest ≤ 1 → rest ≡ 0
within_is_one a b p rest low high few = grind (arith, nat_tests)

apart_if_once : (hs : List ProgramHeader) → AllByRecursion IsSized hs → ((p : ℕ) → sum_by (covers p) hs ≤ 1) → any_shares_page hs ≡ false
apart_if_once [] sized once = refl
apart_if_once (h ∷ hs) sized once =
    let few = λ (p : ℕ). let x : within (first_page h) (end_page h) p + sum_by (covers p) hs ≤ 1 = rw (sum_by-cons (covers p) h hs) at (once p) in x in
    or_from _ _
    (apart_by_cover h hs sized.0 sized.1 (λ p low high. within_is_one (first_page h) (end_page h) p (sum_by (covers p) hs) low high (few p)))
    (apart_if_once hs sized.1 (λ p. let x = few p in omega arith))

still_apart : (xs ys : List ProgramHeader) → IsPermutation xs ys → AllByRecursion IsSized ys → any_shares_page xs ≡ false → any_shares_page ys ≡ false
still_apart xs ys moved sized e = apart_if_once ys sized (λ p. let once = once_each xs p e in let same = sum_by-IsPermutation (covers p) xs ys moved in omega arith)

agree : (a b : Bool) → (a ≡ false → b ≡ false) → (b ≡ false → a ≡ false) → a ≡ b
agree true true f g = refl
agree true false f g = g refl
agree false true f g = sym (f refl)
agree false false f g = refl

sized_by_bytes : (h : ProgramHeader) → 1 ≤ h.p_memsz → IsSized h
sized_by_bytes h some = omega arith

-- The test of neighbours in order is that of all pairs in any order.
pub neighbours_tell : (xs ys : List ProgramHeader) → IsPermutation xs ys → IsNonDecreasingBy first_page ys → All (λ h. 1 ≤ h.p_memsz) xs → overlaps 0 ys ≡ any_shares_page xs
neighbours_tell xs ys moved up some =
    let sized = All-weaker (λ h. 1 ≤ h.p_memsz) IsSized sized_by_bytes xs some in
    let before = recursion_from_All IsSized xs sized in
    let behind = recursion_from_All IsSized ys (All-permutation IsSized xs ys moved sized) in
    agree (overlaps 0 ys) (any_shares_page xs)
    (λ e. still_apart ys xs (IsPermutation-sym xs ys moved) before (apart_by_neighbours 0 ys e behind))
    (λ e. ordered_tests ys up behind (still_apart xs ys moved behind e))
