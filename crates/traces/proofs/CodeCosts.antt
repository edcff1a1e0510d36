-- Code that refines a unit, and the run that ends `Outside` where it has a guard event or stops.
use Rattle.std.proofs.Common.{◌≡◌, ◌≢◌, ◌⊎◌, ℕ, zero, suc, ◌+◌, ◌*◌, ◌≤◌, List, [], ◌∷◌, Option, None, Some, inl, inr, ⊎_elim, ◌∙◌, refl, sym, ap, subst, arith}
use Rattle.std.proofs.Math.Path.{fun_ext}
use Rattle.traces.specs.Trace.{Behaviour, Label, Turn, Took, Made, End, Move, Stand, Go, Halt, Seen, Unspecified, seen, before, at_rest, moved, run, events, turns}
use Rattle.traces.specs.Turns.{IsDefined, ShowsByTurns, RefinesByTurns, cons, within, within_turns}
use Rattle.traces.specs.Weight.{PacedBy}
use Rattle.traces.specs.Agree.{end_as, outside, Does, outside_run}
use Rattle.traces.specs.TurnBounds.{CostsByTurns}
use Rattle.traces.specs.Machines.{outside_move, outside_machine}
use Rattle.traces.proofs.Compose.{outside_defined}
use Rattle.traces.proofs.Turns.{unspecified_or}
use Rattle.traces.proofs.Weights.{at_turn, at_moment}

-- a trace whose end is a place outside is cut as it is
within_outside : (ls : List Label) (n : ℕ) (e : Option End) → within ls n (end_as outside e) ≡ seen (within ls n e).trace (end_as outside (within ls n e).end)
within_outside [] n e = refl
within_outside (Turn a ∷ ls) zero e = refl
within_outside (Turn a ∷ ls) (suc n) e = ap (cons (Turn a)) (within_outside ls n e)
within_outside (Took ∷ ls) n e = ap (cons Took) (within_outside ls n e)
within_outside (Made v ∷ ls) n e = ap (cons (Made v)) (within_outside ls n e)

ended_outside : (e : Option End) → end_as outside e ≢ None → e ≢ None
ended_outside e h z = h (ap (end_as outside) z)

-- code that does by turns what the unit does, and has a weight
pub code_costs : (clock : ℕ → ℕ) (w b : ℕ) (V R : Behaviour) → PacedBy clock w b R → RefinesByTurns (outside_run V) R → CostsByTurns clock w b V R
code_costs clock w b V R paced p = record {
  does = λ n.
      let c = p.same n in
      let k = c.first.steps in
      let s = within_turns n (V k) in
      let e : c.common ≡ seen s.trace (end_as outside s.end) = sym c.first.shown ∙ within_outside (V k).trace n (V k).end in
      let shows : ShowsByTurns V n s = record { steps = k; past = ⊎_elim (λ h. inl (ended_outside (V k).end h)) (λ h. inr h) c.first.past; shown = refl } in
      let x = shown n s (unspecified_or s.end) (λ d. subst (ShowsByTurns R n) e (c.second (λ z. outside_defined s.end (end_as outside s.end) refl d (sym (ap (λ y. y.end) e) ∙ z)))) in
      record { common = s; shows = shows; steps = x.0; bound = x.1; fits = x.2 };
  moments = λ k.
      let a = p.moments k in
      let x = at_moment clock w b R paced (turns (V k).trace) a.steps a.few in
      record { steps = x.0; bound = x.1; exact = ap (λ y. events y.trace) x.2 ∙ a.exact };
}
  where
    -- before the first step no turn has begun
    first : (n : ℕ) → (m : ℕ) × (clock m ≤ w * n + b)
    first n = let z = paced.at_most 0 in let x = at_moment clock w b R paced n 0 (omega (arith, z)) in (x.0, x.1)

    shown : (n : ℕ) (s : Seen) → (IsDefined s) ⊎ (s.end ≡ Some Unspecified) → (IsDefined s → ShowsByTurns R n (seen s.trace (end_as outside s.end))) → (m : ℕ) × (clock m ≤ w * n + b) × (IsDefined s → Does n s m (R m))
    shown n s cases h = ⊎_elim
        (λ d.
        let x = at_turn clock w b R paced n (seen s.trace (end_as outside s.end)) (h d) in
        (x.0, x.1, λ d'. record { ahead = λ z. x.3 (ap (end_as outside) z); same_events = ap (λ y. events y.trace) x.2; same_end = λ o. ap (λ y. y.end) x.2 }))
        (λ e. let f = first n in (f.0, f.1, λ d. absurd (d e)))
        cases

pub runs_outside : {S : Type 0} (next : S → Move S) (s : S) (n : ℕ) → run (outside_machine next) s n ≡ outside_run (run next s) n
unfolding run
runs_outside next s zero = elim (next s) as (λ m. at_rest (outside_move m) ≡ seen (at_rest m).trace (end_as outside (at_rest m).end)) [ Stand ls e ↦ refl | Go ls t ↦ refl | Halt ls e ↦ refl ]
runs_outside next s (suc n) = elim (next s) as (λ m. moved (outside_move m) (λ t. run (outside_machine next) t n) ≡ seen (moved m (λ t. run next t n)).trace (end_as outside (moved m (λ t. run next t n)).end)) [
  | Stand ls e ↦ refl
  | Go ls t ↦ ap (before ls) (runs_outside next t n)
  | Halt ls e ↦ refl
]

-- so what refines the run of that machine refines that run
pub refines_outside : {S : Type 0} (next : S → Move S) (s : S) (R : Behaviour) → RefinesByTurns (run (outside_machine next) s) R → RefinesByTurns (outside_run (run next s)) R
refines_outside next s R p = subst (λ U. RefinesByTurns U R) (fun_ext (λ n. runs_outside next s n)) p
