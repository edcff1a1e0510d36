-- A run by steps beside a unit by turns.
use Rattle.std.proofs.Common.{◌≡◌, ℕ, ◌+◌, ◌*◌, ◌≤◌, List, ◌∷◌, Option, Some, None, ◌⊎◌, refl, sym, ◌∙◌, ap, subst, arith, ⊎_elim}
use Rattle.std.proofs.Math.Nat.{mul-le-mul_left, mul-le-mul_right}
use Rattle.traces.specs.Trace.{Label, Turn, GuardKind, End, Exited, MemoryFault, DivideFault, Outside, OtherCall, Unspecified, Guard, Stopped, Seen, Behaviour, seen, events, turns, Grows}
use Rattle.traces.specs.Turns.{IsDefined, IsOpen, within_turns, ShowsByTurns, RefinesByTurns, TraceAt, RefinesCut}
use Rattle.traces.specs.Weight.{PacedBy, Paced}
use Rattle.traces.specs.Agree.{Covers, end_as, outside, guard_turn, Does, Costs, Follows, Agrees, AgreeByTurns}
use Rattle.traces.specs.TurnBounds.{DoesWithin, CostsByTurns, FollowsByTurns}
use Rattle.traces.proofs.Lists.{events-append}
use Rattle.traces.proofs.Runs.{else_at}
use Rattle.traces.proofs.Turns.{shows_once, comes_past, unspecified_or, whole}
use Rattle.traces.proofs.Weights.{at_turn, at_moment, paced_times, times}
use Rattle.traces.proofs.Compose.{does_trans}

-- what the unit shows within n turns the run does, and at each moment it has the events, at such a cost: what is needed of code
-- to compose it with what comes before it
pub record ShownWithin (clock : ℕ → ℕ) (w b : ℕ) (V R : Behaviour) : Type 0 where
  pub shown : (n : ℕ) (s : Seen) → ShowsByTurns V n s → IsDefined s → (m : ℕ) × (clock m ≤ w * n + b) × Does n s m (R m)
  pub moments : (n k : ℕ) → turns (V k).trace ≤ n → (m : ℕ) × (clock m ≤ w * n + b) × (events (R m).trace ≡ events (V k).trace)

-- so it is where the run costs so much by turns
pub shown_by_turns : (clock : ℕ → ℕ) (w b : ℕ) (V R : Behaviour) → Grows V → CostsByTurns clock w b V R → ShownWithin clock w b V R
shown_by_turns clock w b V R grows p = record {
  shown = λ n s h d.
      let x = p.does n in
      let e = shows_once V grows n x.common s x.shows h in
      (x.steps, x.bound, subst (λ y. Does n y x.steps (R x.steps)) e (x.fits (rw e d)));
  moments = λ n k h.
      let x = p.moments k in
      let l = mul-le-mul_left w h in
      (x.steps, omega (arith, x.bound, l), x.exact);
}

from : (n j : ℕ) (c : Seen) (m : ℕ) (r : Seen) → (c.end ≡ None → n ≤ j) → Does j c m r → Does n c m r
from n j c m r h f = record { ahead = λ e. omega (arith, f.ahead e, h e); same_events = f.same_events; same_end = f.same_end }

-- and where the unit has a weight, and the run costs no more than its clock tells
pub shown_by_weight : (clock : ℕ → ℕ) (w b b' : ℕ) (V R : Behaviour) → PacedBy clock w b V → Covers (Costs clock b') V R → ShownWithin (λ n. n) w (b + b') V R
shown_by_weight clock w b b' V R paced q = record {
  shown = λ n s h d.
      let x = at_turn clock w b V paced n s h in
      let m = (q x.0).0 in
      let f : Costs clock b' x.0 s m (R m) = subst (λ y. Costs clock b' x.0 y m (R m)) x.2 (q x.0).1 in
      (m, omega (arith, x.1, f.bound), from n x.0 s m (R m) x.3 f.does);
  moments = λ n k h.
      let x = at_moment clock w b V paced n k h in
      let m = (q x.0).0 in
      let f = (q x.0).1 in
      (m, omega (arith, x.1, f.bound), f.does.same_events ∙ ap (λ y. events y.trace) x.2);
}

pub paced_then_costs : (clock : ℕ → ℕ) (w b b' : ℕ) (V R : Behaviour) → PacedBy clock w b V → Covers (Costs clock b') V R → FollowsByTurns w (b + b') V R
paced_then_costs clock w b b' V R paced q = record {
  does = λ n.
      let k = w * n + b + b' + 1 in
      let s = within_turns n (V k) in
      let shows : ShowsByTurns V n s = record { steps = k; past = comes_past clock w b b' V paced (λ j z. let f = (q j).1 in let l = f.does.ahead z in omega (arith, l, f.bound)) n k (omega arith); shown = refl } in
      let x = at_turn clock w b V paced n s shows in
      let m = (q x.0).0 in
      let f : Costs clock b' x.0 s m (R m) = subst (λ y. Costs clock b' x.0 y m (R m)) x.2 (q x.0).1 in
      record { common = s; shows = shows; steps = m; bound = omega (arith, x.1, f.bound); fits = λ d. from n x.0 s m (R m) x.3 f.does };
  moments = λ k.
      let x = (shown_by_weight clock w b b' V R paced q).moments (turns (V k).trace) k (omega arith) in
      record { steps = x.0; bound = x.1; exact = x.2 };
}

pub turns_then_costs : (clock : ℕ → ℕ) (w b b' : ℕ) (V R T : Behaviour) → CostsByTurns clock w b V R → Covers (Costs clock b') R T → FollowsByTurns w (b + b') V T
turns_then_costs clock w b b' V R T p q = record {
  does = λ n.
      let x = p.does n in
      let m = (q x.steps).0 in
      let f = (q x.steps).1 in
      record { common = x.common; shows = x.shows; steps = m; bound = omega (arith, x.bound, f.bound); fits = λ d. does_trans n x.common x.steps (R x.steps) m (T m) (x.fits d) f.does };
  moments = λ k.
      let x = p.moments k in
      let m = (q x.steps).0 in
      let f = (q x.steps).1 in
      record { steps = m; bound = omega (arith, x.bound, f.bound); exact = f.does.same_events ∙ x.exact };
}

pub trace_events : (reports a : ℕ) (c r : List Label) → TraceAt reports a c r → events r ≡ events c
trace_events reports a c r h = ⊎_elim
    (λ e. ap events e)
    (λ k. ap events k.stop ∙ events-append k.front (Turn a ∷ k.report) ∙ sym (events-append k.front k.report) ∙ sym (ap events k.cut))
    h

-- from turns to steps
module _ (w b reports : ℕ) (C V R : Behaviour) (p : RefinesCut reports C V) (q : ShownWithin (λ n. n) w b V R) (n : ℕ) where
  cut_open : (e : Option End) → (C n).end ≡ e → IsOpen (C n) → guard_turn e ≡ 0 → (m : ℕ) × Agrees w b n (C n) m (R m)
  cut_open e h o g =
      let x = q.shown n (C n) (p.open_same n o) o.0 in
      let g' : guard_turn (C n).end ≡ 0 = ap guard_turn h ∙ g in
      (x.0, record { bound = (let z : n + guard_turn (C n).end ≡ n = omega (arith, g') in rw z x.1); does = x.2 })

  cut_guard : (k : GuardKind) (at : ℕ) → (C n).end ≡ Some (Guard k at) → (m : ℕ) × Agrees w b n (C n) m (R m)
  cut_guard k at h =
      let g = p.guard n k at h in
      let x = q.shown (n + 1) (seen g.labels (Some (Stopped at))) g.shows (λ z. cc) in (
        x.0,
        record {
          bound = rw h x.1;
          does = record { ahead = λ r. cc; same_events = x.2.same_events ∙ trace_events reports at _ _ g.fits; same_end = λ o. x.2.same_end (λ z. cc) ∙ sym (ap (end_as outside) h) };
        },
      )

  cut_unspecified : (C n).end ≡ Some Unspecified → (m : ℕ) × Agrees w b n (C n) m (R m)
  cut_unspecified h =
      let y = p.unspecified n h in
      let x = q.moments n y.steps y.few in (
        x.0,
        record {
          bound = rw h (let e : n + 0 ≡ n = omega arith in rw e x.1);
          does = record { ahead = λ r. cc; same_events = x.2 ∙ y.exact; same_end = λ o. absurd (o h) };
        },
      )

  cut_at : (e : Option End) → (C n).end ≡ e → (m : ℕ) × Agrees w b n (C n) m (R m)
  cut_at None h = cut_open None h (λ z. cc, λ k x z. cc) refl
  cut_at (Some Unspecified) h = cut_unspecified h
  cut_at (Some (Guard k x)) h = cut_guard k x h
  cut_at (Some (Exited x)) h = cut_open _ h (λ z. cc, λ k x z. cc) refl
  cut_at (Some MemoryFault) h = cut_open _ h (λ z. cc, λ k x z. cc) refl
  cut_at (Some DivideFault) h = cut_open _ h (λ z. cc, λ k x z. cc) refl
  cut_at (Some Outside) h = cut_open _ h (λ z. cc, λ k x z. cc) refl
  cut_at (Some (OtherCall x)) h = cut_open _ h (λ z. cc, λ k x z. cc) refl
  cut_at (Some (Stopped x)) h = cut_open _ h (λ z. cc, λ k x z. cc) refl

cut_then_shown : (w b reports : ℕ) (C V R : Behaviour) → RefinesCut reports C V → ShownWithin (λ n. n) w b V R → Covers (Agrees w b) C R
cut_then_shown w b reports C V R p q n = cut_at w b reports C V R p q n (C n).end refl

pub cut_then_turns : (w b reports : ℕ) (C V R : Behaviour) → Grows V → RefinesCut reports C V → FollowsByTurns w b V R → Covers (Agrees w b) C R
cut_then_turns w b reports C V R grows p q = cut_then_shown w b reports C V R p (shown_by_turns (λ n. n) w b V R grows q)

-- a pass before it
refines_then_shown : (clock : ℕ → ℕ) (w b : ℕ) (U V R : Behaviour) → RefinesByTurns U V → ShownWithin clock w b V R → CostsByTurns clock w b U R
refines_then_shown clock w b U V R p q = record {
  does = λ n.
      let c = p.same n in
      let x = shown n c.common c.first (unspecified_or c.common.end) c.second in
      record { common = c.common; shows = c.first; steps = x.0; bound = x.1; fits = x.2 };
  moments = λ k.
      let a = p.moments k in
      let x = q.moments (turns (U k).trace) a.steps a.few in
      record { steps = x.0; bound = x.1; exact = x.2 ∙ a.exact };
}
  where
    shown : (n : ℕ) (s : Seen) → ShowsByTurns U n s → (IsDefined s) ⊎ (s.end ≡ Some Unspecified) → (IsDefined s → ShowsByTurns V n s) → (m : ℕ) × (clock m ≤ w * n + b) × (IsDefined s → Does n s m (R m))
    shown n s u cases h = ⊎_elim
        (λ d. let x = q.shown n s (h d) d in (x.0, x.1, λ d'. x.2))
        (λ e.
        let k = whole n (U u.steps) s u.shown (λ z. cc) in
        let a = p.moments u.steps in
        let x = q.moments n a.steps (omega (arith, a.few, k.0)) in
        (x.0, x.1, λ d. absurd (d e)))
        cases

pub refines_then_turns : (clock : ℕ → ℕ) (w b : ℕ) (U V R : Behaviour) → Grows V → RefinesByTurns U V → CostsByTurns clock w b V R → CostsByTurns clock w b U R
refines_then_turns clock w b U V R grows p q = refines_then_shown clock w b U V R p (shown_by_turns clock w b V R grows q)

-- and agrees in both directions, whatever it costs
pub turns_agree : (clock : ℕ → ℕ) (w b : ℕ) (U R : Behaviour) → Grows R → CostsByTurns clock w b U R → AgreeByTurns U R
turns_agree clock w b U R grows p = record {
  does = λ n. let x = p.does n in let y = at n x (unspecified_or x.common.end) in record { common = x.common; shows = x.shows; steps = y.0; fits = y.1 };
  no_other = λ m. let x = p.does m in let y = at m x (unspecified_or x.common.end) in record { bound = m; common = x.common; shows = x.shows; fits = else_at R grows m y.0 x.common y.1 };
}
  where
    at : (n : ℕ) (x : DoesWithin clock w b U R n) → (IsDefined x.common) ⊎ (x.common.end ≡ Some Unspecified) → (m : ℕ) × Does n x.common m (R m)
    at n x cases = ⊎_elim
        (λ d. (x.steps, x.fits d))
        (λ e.
        let k = whole n (U x.shows.steps) x.common x.shows.shown (λ z. cc) in
        let y = p.moments x.shows.steps in
        (y.steps, record { ahead = λ z. cc; same_events = y.exact ∙ ap (λ z. events z.trace) k.1; same_end = λ d. absurd (d e) }))
        cases

-- greater numbers and a cheaper clock
pub turns_within : (clock clock' : ℕ → ℕ) (w b w' b' : ℕ) (V R : Behaviour) → ((n : ℕ) → clock' n ≤ clock n) → w ≤ w' → b ≤ b' → CostsByTurns clock w b V R → CostsByTurns clock' w' b' V R
turns_within clock clock' w b w' b' V R c h i p = record {
  does = λ n.
      let x = p.does n in
      record { common = x.common; shows = x.shows; steps = x.steps; bound = more n (clock x.steps) x.bound (c x.steps); fits = x.fits };
  moments = λ k. let x = p.moments k in record { steps = x.steps; bound = more (turns (V k).trace) (clock x.steps) x.bound (c x.steps); exact = x.exact };
}
  where
    more : (n m : ℕ) → m ≤ w * n + b → {m' : ℕ} → m' ≤ m → m' ≤ w' * n + b'
    more n m l k = let x : w * n ≤ w' * n = mul-le-mul_right _ h in omega (arith, l, k, x, i)

-- a times as much
pub turns_times : (a : ℕ) (clock : ℕ → ℕ) (w b : ℕ) (V R : Behaviour) → CostsByTurns clock w b V R → CostsByTurns (λ n. a * clock n) (a * w) (a * b) V R
turns_times a clock w b V R p = record {
  does = λ n. let x = p.does n in record { common = x.common; shows = x.shows; steps = x.steps; bound = times a w b n (clock x.steps) x.bound; fits = x.fits };
  moments = λ k. let x = p.moments k in record { steps = x.steps; bound = times a w b (turns (V k).trace) (clock x.steps) x.bound; exact = x.exact };
}

-- where each step of the unit is at most a of the code
pub paced_then_follows : (w b a b' : ℕ) (V R : Behaviour) → Paced w b V → Covers (Follows a b') V R → FollowsByTurns (a * w) (a * b + b') V R
paced_then_follows w b a b' V R paced q = paced_then_costs (λ n. a * n) (a * w) (a * b) b' V R (paced_times a (λ n. n) w b V paced) q

shown_by_steps : (w b a b' : ℕ) (V R : Behaviour) → Paced w b V → Covers (Follows a b') V R → ShownWithin (λ n. n) (a * w) (a * b + b') V R
shown_by_steps w b a b' V R paced q = shown_by_weight (λ n. a * n) (a * w) (a * b) b' V R (paced_times a (λ n. n) w b V paced) q

pub turns_then_follows : (w b a b' : ℕ) (V R T : Behaviour) → FollowsByTurns w b V R → Covers (Follows a b') R T → FollowsByTurns (a * w) (a * b + b') V T
turns_then_follows w b a b' V R T p q = turns_then_costs (λ n. a * n) (a * w) (a * b) b' V R T (turns_times a (λ n. n) w b V R p) q

pub cut_then_follows : (w b a b' reports : ℕ) (C V R : Behaviour) → Paced w b V → RefinesCut reports C V → Covers (Follows a b') V R → Covers (Agrees (a * w) (a * b + b')) C R
cut_then_follows w b a b' reports C V R paced p q = cut_then_shown (a * w) (a * b + b') reports C V R p (shown_by_steps w b a b' V R paced q)

pub refines_then_follows : (w b a b' : ℕ) (U V R : Behaviour) → Paced w b V → RefinesByTurns U V → Covers (Follows a b') V R → Grows R → AgreeByTurns U R
refines_then_follows w b a b' U V R paced p q grows = turns_agree (λ n. n) (a * w) (a * b + b') U R grows (refines_then_shown (λ n. n) (a * w) (a * b + b') U V R p (shown_by_steps w b a b' V R paced q))
