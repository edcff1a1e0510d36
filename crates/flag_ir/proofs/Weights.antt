-- The turns of a well shaped unit have a weight: what its blocks cost together, twice.
use Rattle.std.proofs.Common.{◌≡◌, ℕ, zero, suc, ◌+◌, ◌≤◌, ◌<◌, ◌==◌, List, [], ◌∷◌, length, get_or, slice_get, Some, None, refl, sym, ap, ◌∙◌, subst, arith}
use Rattle.std.proofs.lemmas.Bool.{cond_both, eqb-true}
use Rattle.flag_ir.specs.declared.block.Block.{Block}
use Rattle.flag_ir.specs.declared.procedure.Proc.{Proc}
use Rattle.flag_ir.specs.Entering.{CodeUnit}
use Rattle.flag_ir.specs.Shape.{Part, IsPart, part_blocks, IsBlock, GoesTo, ReturnsTo, IsWellShaped}
use Rattle.flag_ir.specs.Costs.{one_each, block_cost, allowed, BoundsTurns}

abbrev cost_of : Block → ℕ
cost_of b = block_cost one_each b

-- what blocks cost together, and those from an index on
costs : List Block → ℕ
costs [] = 0
costs (b ∷ bs) = cost_of b + costs bs

later : List Block → ℕ → ℕ
later [] k = 0
later (b ∷ bs) zero = cost_of b + costs bs
later (b ∷ bs) (suc k) = later bs k

later_most : (bs : List Block) (k : ℕ) → later bs k ≤ costs bs
unfolding costs later
later_most [] k = omega arith
later_most (b ∷ bs) zero = omega arith
later_most (b ∷ bs) (suc k) = let h : later bs k ≤ costs bs = later_most bs k in omega (arith, h)

later_first : (bs : List Block) → later bs 0 ≡ costs bs
unfolding costs later
later_first [] = refl
later_first (b ∷ bs) = refl

later_falls : (bs : List Block) (j k : ℕ) → j ≤ k → later bs k ≤ later bs j
unfolding later
later_falls [] j k h = omega arith
later_falls (b ∷ bs) zero zero h = omega arith
later_falls (b ∷ bs) zero (suc k) h = let g : later bs k ≤ costs bs = later_most bs k in omega (arith, g)
later_falls (b ∷ bs) (suc j) zero h = absurd (omega (arith, h))
later_falls (b ∷ bs) (suc j) (suc k) h = later_falls bs j k (omega (arith, h))

later_at : (bs : List Block) (k : ℕ) (b : Block) → slice_get bs k ≡ Some b → later bs k ≡ cost_of b + later bs (suc k)
unfolding later
later_at [] k b h = absurd (cc h)
later_at (c ∷ bs) zero b h = let e : c ≡ b = cc in ap (λ x. cost_of x + costs bs) e ∙ ap (λ n. cost_of b + n) (sym (later_first bs))
later_at (c ∷ bs) (suc k) b h = later_at bs k b h

-- ---- all parts
of_procs : List Proc → ℕ
of_procs [] = 0
of_procs (p ∷ ps) = costs p.blocks + of_procs ps

proc_within : (ps : List Proc) (p : Proc) (k : ℕ) → k < length ps → get_or ps k p ≡ p → costs p.blocks ≤ of_procs ps
unfolding of_procs
proc_within [] p k few is = absurd (omega (arith, few))
proc_within (q ∷ ps) p zero few is = let e : costs q.blocks ≡ costs p.blocks = ap (λ x. costs x.blocks) is in omega (arith, e)
proc_within (q ∷ ps) p (suc k) few is = let h : costs p.blocks ≤ of_procs ps = proc_within ps p k (omega (arith, few)) is in omega (arith, h)

total : CodeUnit → ℕ
total unit = costs unit.whole + of_procs unit.procs

part_within : (unit : CodeUnit) (part : Part) → IsPart unit part → costs (part_blocks unit part) ≤ total unit
unfolding total
part_within unit None h = omega arith
part_within unit (Some p) h = let g : costs p.blocks ≤ of_procs unit.procs = proc_within unit.procs p h.0 h.1 h.2 in omega (arith, g)

pub weight_of : CodeUnit → ℕ
weight_of unit = total unit + total unit

-- what is left from a block on that begins no turn
pub rest_of : CodeUnit → Part → ℕ → ℕ
rest_of unit part k = later (part_blocks unit part) k

module _ (unit : CodeUnit) where
  abbrev allowance : Part → ℕ → Block → ℕ
  allowance part k b = allowed (weight_of unit) (rest_of unit) part k b

  -- a block and what is left behind it
  with_later : (part : Part) (k : ℕ) (b : Block) → IsBlock unit part k b → (n : ℕ) → n ≤ total unit → (b.at ≡ 0 → n ≤ later (part_blocks unit part) (suc k)) → cost_of b + n ≤ allowance part k b
  unfolding weight_of rest_of
  with_later part k b is n few low =
      let at : later (part_blocks unit part) k ≡ cost_of b + later (part_blocks unit part) (suc k) = later_at (part_blocks unit part) k b is.1 in
      let most : later (part_blocks unit part) k ≤ costs (part_blocks unit part) = later_most (part_blocks unit part) k in
      let all : costs (part_blocks unit part) ≤ total unit = part_within unit part is.0 in
      cond_both (b.at == 0) (later (part_blocks unit part) k) (total unit + total unit) (λ (r : ℕ). cost_of b + n ≤ r)
      (λ z. let l : n ≤ later (part_blocks unit part) (suc k) = low (eqb-true b.at 0 z) in omega (arith, l, at))
      (λ z. omega (arith, at, most, all, few))

  behind : (part : Part) (j : ℕ) → IsPart unit part → later (part_blocks unit part) j ≤ total unit
  behind part j is =
      let most : later (part_blocks unit part) j ≤ costs (part_blocks unit part) = later_most (part_blocks unit part) j in
      let all : costs (part_blocks unit part) ≤ total unit = part_within unit part is in
      omega (arith, most, all)

  module _ (shape : IsWellShaped unit) where
    onward : (part : Part) (k : ℕ) (b : Block) (j : ℕ) (d : Block) → GoesTo unit part k b j d → d.at ≡ 0 → cost_of b + rest_of unit part j ≤ allowance part k b
    unfolding rest_of
    onward part k b j d goes zero_at =
        with_later part k b goes.from (later (part_blocks unit part) j) (behind part j goes.to.0)
        (λ at. later_falls (part_blocks unit part) (suc k) j (let h : k < j = shape.onward part k b j d goes at zero_at in omega (arith, h)))

    return : (p : Proc) (k : ℕ) (b : Block) (part : Part) (j : ℕ) (d : Block) → ReturnsTo unit p k b part j d → d.at ≡ 0 → cost_of b + rest_of unit part j ≤ allowance (Some p) k b
    unfolding rest_of
    return p k b part j d returns zero_at =
        with_later (Some p) k b returns.from (later (part_blocks unit part) j) (behind part j returns.to.0)
        (λ at. let h : (part ≡ Some p) × (k < j) = shape.return p k b part j d returns at zero_at in
        subst (λ (x : Part). later (part_blocks unit x) j ≤ later p.blocks (suc k)) (sym h.0) (later_falls p.blocks (suc k) j (let g : k < j = h.1 in omega (arith, g))))

    alone : (part : Part) (k : ℕ) (b : Block) → IsBlock unit part k b → cost_of b ≤ allowance part k b
    alone part k b is = let h : cost_of b + 0 ≤ allowance part k b = with_later part k b is 0 (omega arith) (λ at. omega arith) in omega (arith, h)

    pub bounds_turns : BoundsTurns one_each (weight_of unit) (rest_of unit) unit
    bounds_turns = record { block = alone; onward = onward; return = return }
