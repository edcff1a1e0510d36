-- The turns of a well shaped unit without procedures cost at most what its blocks cost together, twice.
use Rattle.std.proofs.Common.{◌≡◌, ℕ, zero, suc, ◌+◌, ◌≤◌, ◌<◌, ◌==◌, List, [], ◌∷◌, Contains, Some, None, refl, sym, ap, ◌∙◌, subst, arith}
use Rattle.std.specs.List.{slice_get}
use Rattle.std.proofs.lemmas.Bool.{cond_both, eqb-true}
use Rattle.flag_ir.specs.declared.block.Block.{Block}
use Rattle.flag_ir.specs.declared.procedure.Proc.{Proc}
use Rattle.flag_ir.specs.Entering.{CodeUnit}
use Rattle.flag_ir.specs.Shape.{Part, IsBlock, GoesTo, ReturnsTo, IsWellShaped}
use Rattle.flag_ir.specs.Costs.{Costing, block_cost, allowed, BoundsTurns}

module _ (c : Costing) where
  -- what blocks cost together, and those from an index on
  costs : List Block → ℕ
  costs [] = 0
  costs (b ∷ bs) = block_cost c b + costs bs

  later : List Block → ℕ → ℕ
  later [] k = 0
  later (b ∷ bs) zero = block_cost c b + costs bs
  later (b ∷ bs) (suc k) = later bs k

  later_most : (bs : List Block) (k : ℕ) → later bs k ≤ costs bs
  unfolding costs later
  later_most [] k = omega arith
  later_most (b ∷ bs) zero = omega arith
  later_most (b ∷ bs) (suc k) = let h : later bs k ≤ costs bs = later_most bs k in omega (arith, h)

  later_first : (bs : List Block) → later bs 0 ≡ costs bs
  unfolding costs later
  later_first [] = refl
  later_first (b ∷ bs) = refl

  later_falls : (bs : List Block) (j k : ℕ) → j ≤ k → later bs k ≤ later bs j
  unfolding later
  later_falls [] j k h = omega arith
  later_falls (b ∷ bs) zero zero h = omega arith
  later_falls (b ∷ bs) zero (suc k) h = let g : later bs k ≤ costs bs = later_most bs k in omega (arith, g)
  later_falls (b ∷ bs) (suc j) zero h = absurd (omega (arith, h))
  later_falls (b ∷ bs) (suc j) (suc k) h = later_falls bs j k (omega (arith, h))

  later_at : (bs : List Block) (k : ℕ) (b : Block) → slice_get bs k ≡ Some b → later bs k ≡ block_cost c b + later bs (suc k)
  unfolding later
  later_at [] k b h = absurd (cc h)
  later_at (d ∷ bs) zero b h = let e : d ≡ b = cc in ap (λ x. block_cost c x + costs bs) e ∙ ap (λ n. block_cost c b + n) (sym (later_first bs))
  later_at (d ∷ bs) (suc k) b h = later_at bs k b h

  module _ (unit : CodeUnit) (alone : unit.procs ≡ []) where
    pub weight : ℕ
    weight = costs unit.whole + costs unit.whole

    pub rest : Part → ℕ → ℕ
    rest part k = later unit.whole k

    none_in : {A : Type 0} (p : Proc) → Contains unit.procs p → A
    none_in p h = absurd (let few = (subst (λ (ps : List Proc). Contains ps p) alone h).1 in omega (arith, few))

    abbrev allowance : ℕ → Block → ℕ
    allowance k b = allowed weight rest None k b

    -- a block and what is left behind it
    with_later : (k : ℕ) (b : Block) → slice_get unit.whole k ≡ Some b → (n : ℕ) → n ≤ costs unit.whole → (b.at ≡ 0 → n ≤ later unit.whole (suc k)) → block_cost c b + n ≤ allowance k b
    unfolding weight rest
    with_later k b is n few low =
        let at : later unit.whole k ≡ block_cost c b + later unit.whole (suc k) = later_at unit.whole k b is in
        let most : later unit.whole k ≤ costs unit.whole = later_most unit.whole k in
        cond_both (b.at == 0) (later unit.whole k) (costs unit.whole + costs unit.whole) (λ (r : ℕ). block_cost c b + n ≤ r)
        (λ z. let l : n ≤ later unit.whole (suc k) = low (eqb-true b.at 0 z) in omega (arith, l, at))
        (λ z. omega (arith, at, most, few))

    block : (part : Part) (k : ℕ) (b : Block) → IsBlock unit part k b → block_cost c b ≤ allowed weight rest part k b
    block None k b is = let h : block_cost c b + 0 ≤ allowance k b = with_later k b is.1 0 (omega arith) (λ at. omega arith) in omega (arith, h)
    block (Some p) k b is = none_in p is.0

    onward : IsWellShaped unit → (part : Part) (k : ℕ) (b : Block) (j : ℕ) (d : Block) → GoesTo unit part k b j d → d.at ≡ 0 → block_cost c b + rest part j ≤ allowed weight rest part k b
    unfolding rest
    onward shape None k b j d goes at_zero =
        with_later k b goes.from.1 (later unit.whole j) (later_most unit.whole j)
        (λ at. later_falls unit.whole (suc k) j (let h : k < j = shape.onward None k b j d goes at at_zero in omega (arith, h)))
    onward shape (Some p) k b j d goes at_zero = none_in p goes.from.0

    return : (p : Proc) (k : ℕ) (b : Block) (part : Part) (j : ℕ) (d : Block) → ReturnsTo unit p k b part j d → d.at ≡ 0 → block_cost c b + rest part j ≤ allowed weight rest (Some p) k b
    return p k b part j d returns at_zero = none_in p returns.from.0

    pub bounds_turns : IsWellShaped unit → BoundsTurns c weight rest unit
    bounds_turns shape = record { block = block; onward = onward shape; return = return }
