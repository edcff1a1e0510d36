-- A turn over several blocks takes no more steps than the weight, and steps before the first turn need a constant.
use Rattle.std.proofs.Common.{◌≡◌, ◌+◌, ◌≤◌, ℕ, zero, suc, List, [], ◌∷◌, refl, arith}
use Rattle.traces.specs.Trace.{run}
use Rattle.traces.specs.Moves.{PacedMove, PacedStep, To, Holds, HoldingState}
use Rattle.traces.specs.InvariantLaws.{InvariantLaws}
use Rattle.trace_checks.specs.WeightChecks.{WalkBlock, WalkState, IsLight, mark, walk_in, walk, tail_if, tail, heaviest, WalkPaced, RefusesWeightWithoutConstant, AllowsWeightWithConstant}

abbrev left : WalkState → ℕ
left s = s.inside + tail s.rest

module _ (W : ℕ) where
  abbrev at : HoldingState (IsLight W) → WalkState
  at p = p.state

  holds : (s : WalkState) → heaviest s.rest ≤ W → Holds at s
  holds s h = (record { state = s; holds = h }, refl)

  kept : (k : ℕ) (ps : List WalkBlock) → heaviest ps ≤ W → To (Holds at) (walk_in k ps)
  kept (suc k) ps h = holds (record { inside = k; rest = ps }) h
  kept zero [] h = tt
  kept zero (p ∷ ps) h = holds (record { inside = p.more; rest = ps }) (omega (arith, h))

  begins : (a m t : ℕ) → suc (m + t) ≤ W → PacedStep W (tail_if a m t) 1 (m + t) (mark a)
  begins zero m t h = record { one_turn = tt; left = omega arith }
  begins (suc a) m t h = record { one_turn = refl; left = omega (arith, h) }

  paces : (k : ℕ) (ps : List WalkBlock) → heaviest ps ≤ W → PacedMove W left (k + tail ps) 1 (walk_in k ps)
  paces (suc k) ps h = record { one_turn = tt; left = omega arith }
  paces zero [] h = refl
  paces zero (p ∷ ps) h = let e : 0 + tail (p ∷ ps) ≡ tail (p ∷ ps) = omega arith in rw e (begins p.at p.more (tail ps) (omega (arith, h)))

pub walk_paced : ((W : ℕ) → InvariantLaws WalkState (HoldingState (IsLight W))) → WalkPaced
walk_paced laws ps =
    let W = heaviest ps in
    let s : WalkState = record { inside = 0; rest = ps } in
    (laws W).paced_by_moves walk (at W) (λ i. kept W i.state.inside i.state.rest i.holds) W (tail ps) left (λ i. paces W i.state.inside i.state.rest i.holds) (record { state = s; holds = omega arith }) (omega arith)

pub allows_weight_with_constant : ((W : ℕ) → InvariantLaws WalkState (HoldingState (IsLight W))) → AllowsWeightWithConstant
allows_weight_with_constant laws = walk_paced laws (record { at = 0; more = 0 } ∷ record { at = 1; more = 0 } ∷ [])

pub refuses_weight_without_constant : RefusesWeightWithoutConstant
unfolding run
refuses_weight_without_constant w p =
    let x = p.weight 1 in
    absurd (omega (arith, x.few, x.running refl))
