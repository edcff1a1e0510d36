-- What the turns of the unit that is made cost.
use Rattle.std.proofs.Common.{◌≡◌, ℕ, ◌+◌, ◌≤◌, ◌==◌, ◌&&◌, ◌||◌, Bool, true, false, not, cond, List, [], ◌∷◌, ◌++◌, Contains, Some, None, refl, sym, ap, ◌∙◌, subst, arith}
use Rattle.flag_ir.specs.declared.operation.Op.{Op}
use Rattle.flag_ir.specs.declared.block.Block.{Block}
use Rattle.flag_ir.specs.declared.block.Exit.{Exit}
use Rattle.flag_ir.specs.Entering.{CodeUnit}
use Rattle.flag_ir.specs.Shape.{Part, named_by, IsBlock, GoesTo}
use Rattle.flag_ir.specs.Costs.{Costing, list_cost, block_cost, allowed}
use Rattle.guards.specs.Guarding.{guarded, guarded_ops, is_stop, has_loose_stop, turn_store, turn_stores, guarded_block, guarded_unit, ops_cost, lowered_costing}
use Rattle.guards.specs.Lowering.{LoweredCosts}
use Rattle.guards.proofs.GuardedBlocks.{number_mapped}
use Rattle.guards.proofs.Shaping.{made_at, none_in}

-- ---- lists
cost_append : (c : Costing) (xs ys : List Op) (e : Exit) → list_cost c (xs ++ ys) e ≡ ops_cost c xs + list_cost c ys e
unfolding list_cost
cost_append c [] ys e = omega arith
cost_append c (x ∷ xs) ys e = omega (arith, cost_append c xs ys e)

cost_guarded : (c : Costing) (ops : List Op) (e : Exit) → list_cost c (guarded_ops ops) e ≡ list_cost (lowered_costing c) ops e
unfolding list_cost
cost_guarded c [] e = refl
cost_guarded c (o ∷ os) e = cost_append c (guarded o) (guarded_ops os) e ∙ ap (λ n. ops_cost c (guarded o) + n) (cost_guarded c os e)

module _ (c : Costing) (store : ℕ) (small : (at : ℕ) → c.op (turn_store at) ≤ store) (loose : Bool) where
  stores_cost : (at : ℕ) (e : Exit) (z : Bool) → (at == 0) ≡ z → ops_cost c (turn_stores loose at e) ≤ cond z 0 store
  stores_cost at e z h = subst (λ b. ops_cost c (cond (not b && (loose || is_stop e)) (turn_store at ∷ []) []) ≤ cond z 0 store) (sym h) (by z (loose || is_stop e))
    where
      by : (z s : Bool) → ops_cost c (cond (not z && s) (turn_store at ∷ []) []) ≤ cond z 0 store
      by true s = omega arith
      by false true = omega (arith, small at)
      by false false = omega arith

  block_is : (b : Block) → block_cost c (guarded_block loose b) ≡ ops_cost c (turn_stores loose b.at b.exit) + block_cost (lowered_costing c) b
  block_is b = cost_append c (turn_stores loose b.at b.exit) (guarded_ops b.ops) b.exit ∙ ap (λ n. ops_cost c (turn_stores loose b.at b.exit) + n) (cost_guarded c b.ops b.exit)

  -- a way on from a block costs as before, and one store where the block begins a turn
  way_bound : (w more : ℕ) (rest : Part → ℕ → ℕ) (part : Part) (k : ℕ) (b d : Block) → guarded_block loose b ≡ d → block_cost (lowered_costing c) b + more ≤ allowed w rest part k b → block_cost c d + more ≤ allowed (w + store) rest part k d
  way_bound w more rest part k b d makes h = subst (λ (x : Block). block_cost c x + more ≤ allowed (w + store) rest part k x) makes (by (b.at == 0) refl h)
    where
      by : (z : Bool) → (b.at == 0) ≡ z → block_cost (lowered_costing c) b + more ≤ cond z (rest part k) w → block_cost c (guarded_block loose b) + more ≤ cond z (rest part k) (w + store)
      by true e l = let first : ops_cost c (turn_stores loose b.at b.exit) ≤ 0 = stores_cost b.at b.exit true e in omega (arith, block_is b)
      by false e l = let first : ops_cost c (turn_stores loose b.at b.exit) ≤ store = stores_cost b.at b.exit false e in omega (arith, block_is b)

-- ---- units
pub lowered_costs : (u : CodeUnit) → LoweredCosts u (guarded_unit u)
lowered_costs u c w store rest plain small bound = record { block = block; onward = onward; return = λ p k b part j d g none. none_in p g.from.0 }
  where
    loose : Bool
    loose = has_loose_stop u.whole

    block : (part : Part) (k : ℕ) (d : Block) → IsBlock (guarded_unit u) part k d → block_cost c d ≤ allowed (w + store) rest part k d
    block None k d is =
        let m = made_at (has_loose_stop u.whole) u.whole k d is.1 in
        let old : block_cost (lowered_costing c) m.of ≤ allowed w rest None k m.of = bound.block None k m.of (tt, m.there) in
        let new : block_cost c d + 0 ≤ allowed (w + store) rest None k d = way_bound c store small (has_loose_stop u.whole) w 0 rest None k m.of d m.makes (omega arith) in
        omega arith
    block (Some p) k d is = none_in p is.0

    onward : (part : Part) (k : ℕ) (b : Block) (j : ℕ) (d : Block) → GoesTo (guarded_unit u) part k b j d → d.at ≡ 0 → block_cost c b + rest part j ≤ allowed (w + store) rest part k b
    onward None k b j d g none =
        let m = made_at (has_loose_stop u.whole) u.whole k b g.from.1 in
        let n = made_at (has_loose_stop u.whole) u.whole j d g.to.1 in
        way_bound c store small (has_loose_stop u.whole) w (rest None j) rest None k m.of b m.makes
        (bound.onward None k m.of j n.of
        (record {
          from = (tt, m.there);
          to = (tt, n.there);
          number = g.number;
          named = subst (λ (e : Exit). Contains (named_by e) g.number) (sym (ap (λ (x : Block). x.exit) m.makes)) g.named;
          there = sym (number_mapped (has_loose_stop u.whole) g.number u.whole) ∙ g.there;
        })
        (ap (λ (x : Block). x.at) n.makes ∙ none))
    onward (Some p) k b j d g none = none_in p g.from.0
