-- What the first n steps of a machine cost.
use Rattle.std.proofs.Common.{◌≡◌, ℕ, zero, suc, ◌+◌, ◌*◌, ◌≤◌, List, refl, ap, arith}
use Rattle.traces.specs.Trace.{Label, End, Move, Stand, Go, Halt}
use Rattle.traces.specs.Steps.{Reaches, rests, goes, moved_cost, clock_of, Rises}
use Rattle.traces.specs.Moves.{To}

module _ {S : Type 0} (next : S → Move S) (cost : S → ℕ) where
  pub clock_rest : (s : S) → clock_of next cost s 0 ≡ 0
  unfolding clock_of
  clock_rest s = refl

  pub clock_stand : (s : S) (ls : List Label) (e : End) → next s ≡ Stand ls e → (n : ℕ) → clock_of next cost s n ≡ 0
  unfolding clock_of
  clock_stand s ls e h zero = refl
  clock_stand s ls e h (suc n) = ap (λ x. moved_cost (cost s) x (λ t. clock_of next cost t n)) h

  pub clock_go : (s : S) (ls : List Label) (t : S) → next s ≡ Go ls t → (n : ℕ) → clock_of next cost s (suc n) ≡ cost s + clock_of next cost t n
  unfolding clock_of
  clock_go s ls t h n = ap (λ x. moved_cost (cost s) x (λ t. clock_of next cost t n)) h

  pub clock_halt : (s : S) (ls : List Label) (e : End) → next s ≡ Halt ls e → (n : ℕ) → clock_of next cost s (suc n) ≡ cost s
  unfolding clock_of
  clock_halt s ls e h n = ap (λ x. moved_cost (cost s) x (λ t. clock_of next cost t n)) h

  pub clock_rises : (s : S) → Rises (clock_of next cost s)
  unfolding clock_of
  clock_rises s zero m h = omega arith
  clock_rises s (suc n) zero h = absurd (omega arith)
  clock_rises s (suc n) (suc m) h = elim (next s) as (λ x. moved_cost (cost s) x (λ t. clock_of next cost t n) ≤ moved_cost (cost s) x (λ t. clock_of next cost t m)) [
    | Stand ls e ↦ omega arith
    | Go ls t ↦ let i = clock_rises t n m (omega arith) in omega (arith, i)
    | Halt ls e ↦ omega arith
  ]

  pub clock_reaches : (s : S) (n : ℕ) (ls : List Label) (t : S) → Reaches next s n ls t → (j : ℕ) → clock_of next cost s (n + j) ≡ clock_of next cost s n + clock_of next cost t j
  clock_reaches _ _ _ _ (rests s) j = let e : 0 + j ≡ j = omega arith in let z = clock_rest s in omega (arith, z, ap (clock_of next cost s) e)
  clock_reaches _ _ _ _ (goes s ls t n rest u h r) j =
      let e : suc n + j ≡ suc (n + j) = omega arith in
      let i = clock_reaches t n rest u r j in
      omega (arith, ap (clock_of next cost s) e, clock_go s ls t h (n + j), clock_go s ls t h n, i)

  pub clock_at_most : (Inv : S → Type 0) (kept : (s : S) → Inv s → To Inv (next s)) (K : ℕ) → ((s : S) → Inv s → cost s ≤ K) → (n : ℕ) (s : S) → Inv s → clock_of next cost s n ≤ K * n
  unfolding clock_of
  clock_at_most Inv kept K few zero s v = omega arith
  clock_at_most Inv kept K few (suc n) s v =
      (elim (next s) as (λ x. To Inv x → moved_cost (cost s) x (λ t. clock_of next cost t n) ≤ K * suc n) [
        | Stand ls e ↦ λ y. omega arith
        | Go ls t ↦ λ y. omega (arith, few s v, clock_at_most Inv kept K few n t y)
        | Halt ls e ↦ λ y. omega (arith, few s v)
      ]) (kept s v)
