-- Greatest, least and sum of numbers, one more at a time.
use Rattle.std.proofs.Common.{◌≡◌, ℕ, ◌+◌, ◌-◌, ◌<◌, ◌≤◌, ◌∙◌, max, min, List, [], ◌∷◌, length, map, take, drop, get_or, sum, ap, refl, arith, sym}
use Rattle.std.proofs.lemmas.List.{at_drop_more, at_drop_all}
use Rattle.std.proofs.lemmas.List.Sums.{sum_by_more, sum-map}
use Rattle.elf_image.specs.declared.header.ProgramHeader.{ProgramHeader}
use Rattle.elf_image.specs.Pages.{first_page, end_page}
use Rattle.image.specs.Rooms.{greatest, least}

pub greatest_more : (hs : List ProgramHeader) (i : ℕ) (h : ProgramHeader) → i < length hs → h ≡ get_or hs i h
    → greatest (map end_page (drop i hs)) ≡ max (end_page h) (greatest (map end_page (drop (i + 1) hs)))
greatest_more hs i h within is = at_drop_more (λ xs. greatest (map end_page xs)) hs i h within ∙ ap (λ k. max (end_page k) (greatest (map end_page (drop (i + 1) hs)))) (sym is)

pub greatest_none : (hs : List ProgramHeader) (i : ℕ) → length hs ≤ i → greatest (map end_page (drop i hs)) ≡ 0
greatest_none hs i past = at_drop_all (λ xs. greatest (map end_page xs)) hs i past

-- the first two of a list in one
least_joined : (x y : ℕ) (ys : List ℕ) → least (x ∷ y ∷ ys) ≡ least (min x y ∷ ys)
least_joined x y [] = refl
least_joined x y (z ∷ zs) = omega arith

pub least_more : (hs : List ProgramHeader) (i a : ℕ) (h : ProgramHeader) → i < length hs → h ≡ get_or hs i h
    → least (a ∷ map first_page (drop i hs)) ≡ least (min a (first_page h) ∷ map first_page (drop (i + 1) hs))
least_more hs i a h within is =
    at_drop_more (λ xs. least (a ∷ map first_page xs)) hs i h within
    ∙ ap (λ k. least (a ∷ first_page k ∷ map first_page (drop (i + 1) hs))) (sym is)
    ∙ least_joined a (first_page h) (map first_page (drop (i + 1) hs))

pub least_none : (hs : List ProgramHeader) (i a : ℕ) → length hs ≤ i → least (a ∷ map first_page (drop i hs)) ≡ a
least_none hs i a past = at_drop_all (λ xs. least (a ∷ map first_page xs)) hs i past

twice : (x : ℕ) (xs : List ℕ) → least (x ∷ x ∷ xs) ≡ least (x ∷ xs)
twice x [] = omega arith
twice x (y ∷ ys) = omega arith

-- the first of a list beside it
pub least_twice : (hs : List ProgramHeader) (h : ProgramHeader) → 0 < length hs → h ≡ get_or hs 0 h → least (first_page h ∷ map first_page (drop 0 hs)) ≡ least (map first_page hs)
least_twice [] h some is = absurd (omega arith)
least_twice (k ∷ ks) h some is = rw is (twice (first_page k) (map first_page ks))

pub pages_more : (hs : List ProgramHeader) (i : ℕ) (h : ProgramHeader) → i < length hs → h ≡ get_or hs i h
    → sum (map (λ k. end_page k - first_page k) (take (i + 1) hs)) ≡ sum (map (λ k. end_page k - first_page k) (take i hs)) + (end_page h - first_page h)
pages_more hs i h within is =
    let f = λ (k : ProgramHeader). end_page k - first_page k in
    sum-map f (take (i + 1) hs) ∙ sum_by_more f hs i h within ∙ ap (λ k. k + f (get_or hs i h)) (sym (sum-map f (take i hs))) ∙ ap (λ k. sum (map f (take i hs)) + f k) (sym is)

pub no_pages : (hs : List ProgramHeader) → sum (map (λ k. end_page k - first_page k) (take 0 hs)) ≡ 0
no_pages hs = refl
