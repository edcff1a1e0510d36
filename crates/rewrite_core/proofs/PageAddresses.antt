-- The addresses of the places of the page.
use Rattle.std.proofs.Common.{◌≡◌, ◌⊎◌, ℕ, ◌+◌, ◌-◌, ◌%◌, ◌<◌, ◌≤◌, refl, ap, inl, inr, arith}
use Rattle.std.proofs.lemmas.Bool.Decides.{leb_tells, nat_tests}
use Rattle.rewrite_core.specs.Places.{page_start, place_of, target_of}

-- an address is that of a place of the page, or outside it
pub data Address (a : ℕ) : Type 0 where
  inside : (p : ℕ) → p < 4096 → a ≡ page_start + p → place_of a ≡ p → Address a
  beyond : (a < page_start) ⊎ (page_start + 4096 ≤ a) → place_of a ≡ 4096 → Address a

pub address : (a : ℕ) → Address a
address a = elim (leb_tells page_start a) [
  | inr low ↦ beyond (inl low.1) (rw low.0 refl)
  | inl from ↦ elim (leb_tells (page_start + 4096) a) [
    | inl past ↦ beyond (inr past.1) (let out : place_of a ≡ 4096 = grind (arith, nat_tests) in out)
    | inr within ↦ inside (a - page_start) (omega (arith, from.1, within.1)) (omega (arith, from.1)) (let here : place_of a ≡ a - page_start = grind (arith, nat_tests) in here)
  ]
]

-- where an instruction stands, the address is that of its place
pub at_place : (a : ℕ) → place_of a < 4096 → a ≡ page_start + place_of a
at_place a k = elim (address a) [ inside p h e q ↦ omega (arith, e, q) | beyond h q ↦ absurd (omega (arith, k, q)) ]

pub place_at : (a p : ℕ) → p ≤ 4096 → a ≡ page_start + p → place_of a ≡ p
place_at a p h e = elim (address a) [
  | inside k l d q ↦ omega (arith, q, d, e)
  | beyond (inl l) q ↦ absurd (omega (arith, l, e))
  | beyond (inr l) q ↦ omega (arith, q, l, h, e)
]

-- the place after an instruction, and the target of a jump
pub place_after : (a len : ℕ) → place_of a < 4096 → place_of a + len ≤ 4096 → place_of (a + len) ≡ place_of a + len
place_after a len k h = let at = at_place a k in place_at (a + len) (place_of a + len) h (omega (arith, at))

pub address_after : (a len : ℕ) → place_of a < 4096 → place_of a + len ≤ 4096 → place_of ((a + len) % 4294967296) ≡ place_of a + len
address_after a len k h = let at = at_place a k in place_at ((a + len) % 4294967296) (place_of a + len) h (omega (arith, at))

pub place_jumped : (a len by : ℕ) → place_of a < 4096 → target_of (place_of a + len) by ≡ place_of ((a + len + by) % 4294967296)
place_jumped a len by k =
    let same : page_start + (place_of a + len) + by ≡ a + len + by = let at = at_place a k in omega (arith, at) in
    ap (λ (x : ℕ). place_of (x % 4294967296)) same
