-- The cells of names are words apart.
use Rattle.std.proofs.Common.{◌≡◌, ℕ, zero, suc, ◌+◌, ◌*◌, ◌%◌, ◌<◌, ◌≤◌, List, [], ◌∷◌, map, length, All, Option, Some, None, slice_get, refl, sym, ap, ◌∙◌, subst, arith}
use Rattle.std.specs.List.{range_with_len}
use Rattle.std.proofs.lemmas.List.Elements.{All-nil, All-cons}
use Rattle.std.proofs.lemmas.List.FromFn.{length-map-range_with_len}
use Rattle.named_code.specs.declared.placed.Home.{Home}
use Rattle.named_code.specs.Items.{cell_or, cell_of}
use Rattle.named_code.specs.PlacedForm.{IsCell}
use Rattle.name_cells.specs.Cells.{cell_at, home_at, homes_of}
use Rattle.laid_image.specs.ImageLaws.{AreCells}

words_from : (a n : ℕ) → All (λ (h : Home). h.cell % 4 ≡ 0) (map home_at (range_with_len a n))
words_from a zero = All-nil (λ (h : Home). h.cell % 4 ≡ 0)
words_from a (suc n) = All-cons (λ (h : Home). h.cell % 4 ≡ 0) (home_at a) (map home_at (range_with_len (a + 1) n)) (omega arith) (words_from (a + 1) n)

home_there : (a n k : ℕ) → k < n → slice_get (map home_at (range_with_len a n)) k ≡ Some (home_at (a + k))
home_there a zero k low = absurd (omega (arith, low))
home_there a (suc n) zero low = let same : a ≡ a + 0 = omega arith in ap (λ (m : ℕ). Some (home_at m)) same
home_there a (suc n) (suc k) low =
    let same : a + 1 + k ≡ a + suc k = omega arith in
    home_there (a + 1) n k (omega (arith, low)) ∙ ap (λ (m : ℕ). Some (home_at m)) same

pub are_cells : (n : ℕ) → All IsCell (homes_of n) → AreCells (homes_of n)
are_cells n cells =
    let long = length-map-range_with_len home_at 0 n in
    let there = λ (k : ℕ) (l : k < length (homes_of n)). ap cell_or (home_there 0 n k (omega (arith, l, long))) in
    record {
      cells = cells;
      words = words_from 0 n;
      apart = λ k m l r same.
          let first = there k l in
          let second = there m r in
          let equal : cell_at (0 + k) ≡ cell_at (0 + m) = sym first ∙ (same ∙ second) in
          omega (arith, equal);
    }
