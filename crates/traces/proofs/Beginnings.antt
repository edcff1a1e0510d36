-- A beginning of k steps.
use Rattle.std.proofs.Common.{◌≡◌, ◌⊎◌, ℕ, ◌+◌, ◌*◌, ◌≤◌, ◌<◌, ◌-◌, List, refl, sym, ◌∙◌, ap, arith, inl, inr, ⊎_elim, []}
use Rattle.traces.specs.Trace.{Event, Label, events, Move, before, run, turns, Behaviour, Seen}
use Rattle.traces.specs.Steps.{Goes, Reaches, clock_of}
use Rattle.traces.specs.Turns.{within_turns, ShowsByTurns, Moment, RefinesByTurns}
use Rattle.traces.specs.Weight.{SeenWithin, PacedBy, Paced}
use Rattle.traces.specs.Agree.{Covers, Costs}
use Rattle.traces.proofs.Lists.{turns-append}
use Rattle.traces.proofs.Runs.{run_grows}
use Rattle.traces.proofs.Steps.{reaches_run}
use Rattle.traces.proofs.Clocks.{clock_rises, clock_reaches}
use Rattle.traces.proofs.Pace.{within_before}

-- a number is below another, or the other and some more
split : (k i : ℕ) → (i ≤ k) ⊎ ((j : ℕ) × (i ≡ k + j))
split k i =
    let cases : (i ≤ k) ⊎ (k < i) = grind arith in
    ⊎_elim (λ h. inl h) (λ h. inr (i - k, omega (arith, h))) cases

module _ {S : Type 0} (next : S → Move S) (clock clock' : ℕ → ℕ) (w b c : ℕ) (s : S) (k : ℕ) (ls : List Label) (t : S)
    (by : (j : ℕ) → run next s (k + j) ≡ before ls (run next t j)) (plain : turns ls ≡ 0)
    (first : (j : ℕ) → j ≤ k → clock j ≤ c) (on : (j : ℕ) → clock (k + j) ≤ c + clock' j)
    (paced : PacedBy clock' w b (run next t)) where
  -- the turns of the whole run are those of the rest
  turns_on : (j : ℕ) → turns (run next s (k + j)).trace ≡ turns (run next t j).trace
  turns_on j = ap (λ x. turns x.trace) (by j) ∙ turns-append ls (run next t j).trace ∙ (let e : turns ls + turns (run next t j).trace ≡ turns (run next t j).trace = omega (arith, plain) in e)

  -- none begins within the beginning
  turns_first : (i : ℕ) → i ≤ k → turns (run next s i).trace ≡ 0
  turns_first i h =
      let l = run_grows next s i (k + 0) (omega (arith, h)) in
      let z = paced.at_most 0 in
      omega (arith, ap turns l.trace.1, turns-append (run next s i).trace l.trace.0, turns_on 0, z)

  at_most_on : (i : ℕ) → turns (run next s i).trace ≤ i
  at_most_on i = ⊎_elim (λ h. omega (arith, turns_first i h)) (λ h. let l = paced.at_most h.0 in omega (arith, ap (λ x. turns (run next s x).trace) h.1, turns_on h.0, l, h.1)) (split k i)

  weight_on : (i : ℕ) → SeenWithin clock w (b + c) (run next s) i
  weight_on i = ⊎_elim
      (λ h. record { steps = i; few = omega (arith, first i h); same = refl; running = λ z. refl })
      (λ h.
      let r = paced.weight h.0 in
      let e : run next s i ≡ before ls (run next t h.0) = ap (run next s) h.1 ∙ by h.0 in
      record {
        steps = k + r.steps;
        few = omega (arith, on r.steps, r.few, ap (λ x. w * turns (run next s x).trace) h.1, ap (λ x. w * x) (turns_on h.0));
        same = by r.steps ∙ ap (before ls) r.same ∙ sym e;
        running = λ z. let q = r.running (ap (λ x. x.end) (sym e) ∙ z) in omega (arith, q, h.1);
      })
      (split k i)

  moment_on : (i n : ℕ) → n < turns (run next s i).trace → (j : ℕ) × (run next s j ≡ within_turns n (run next s i))
  moment_on i n l = ⊎_elim
      (λ h. absurd (omega (arith, turns_first i h, l)))
      (λ h.
      let e : run next s i ≡ before ls (run next t h.0) = ap (run next s) h.1 ∙ by h.0 in
      let x = paced.moment h.0 n (omega (arith, l, ap (λ x. turns (run next s x).trace) h.1, turns_on h.0)) in
      (k + x.0, by x.0 ∙ ap (before ls) x.1 ∙ sym (within_before ls (run next t h.0).trace n (run next t h.0).end plain) ∙ ap (within_turns n) (sym e)))
      (split k i)

  pub paced_from_there : PacedBy clock w (b + c) (run next s)
  paced_from_there = record { at_most = at_most_on; weight = weight_on; moment = moment_on }

pub paced_after : {S : Type 0} (next : S → Move S) (w b : ℕ) (s : S) (k : ℕ) (ls : List Label) (t : S) → Goes next s k ls t → turns ls ≡ 0 → Paced w b (run next t) → Paced w (b + k) (run next s)
paced_after next w b s k ls t g plain p = paced_from_there next (λ n. n) (λ n. n) w b k s k ls t g.by plain (λ j h. h) (λ j. omega arith) p

pub paced_after_costs : {S : Type 0} (next : S → Move S) (cost : S → ℕ) (w b : ℕ) (s : S) (k : ℕ) (ls : List Label) (t : S) → Reaches next s k ls t → turns ls ≡ 0 → PacedBy (clock_of next cost t) w b (run next t) → PacedBy (clock_of next cost s) w (b + clock_of next cost s k) (run next s)
paced_after_costs next cost w b s k ls t r plain p =
    paced_from_there next (clock_of next cost s) (clock_of next cost t) w b (clock_of next cost s k) s k ls t (reaches_run next s k ls t r) plain
    (λ j h. clock_rises next cost s j k h) (λ j. omega (arith, clock_reaches next cost s k ls t r j)) p

-- a beginning that shows nothing
module _ {T : Type 0} (next : T → Move T) (t : T) (k : ℕ) (t' : T) where
  pub costs_after : (clock : ℕ → ℕ) (b : ℕ) (C : Behaviour) → Goes next t k [] t' → Covers (Costs clock b) C (run next t') → Covers (Costs clock (b + k)) C (run next t)
  costs_after clock b C g p n =
      let f = (p n).1 in
      let m = (p n).0 in (
        k + m,
        record {
          bound = omega (arith, f.bound);
          does = record {
            ahead = λ h. omega (arith, f.does.ahead h);
            same_events = rw (g.by m) f.does.same_events;
            same_end = λ d. rw (g.by m) (f.does.same_end d);
          };
        },
      )

  shows_after : Goes next t k [] t' → (n : ℕ) (s : Seen) → ShowsByTurns (run next t') n s → ShowsByTurns (run next t) n s
  shows_after g n s p = record { steps = k + p.steps; past = rw (g.by p.steps) p.past; shown = rw (g.by p.steps) p.shown }

  moment_after : Goes next t k [] t' → (n : ℕ) (es : List Event) → Moment (run next t') n es → Moment (run next t) n es
  moment_after g n es p = record { steps = k + p.steps; few = rw (g.by p.steps) p.few; exact = rw (g.by p.steps) p.exact }

  pub refines_after : (U : Behaviour) → Goes next t k [] t' → RefinesByTurns U (run next t') → RefinesByTurns U (run next t)
  refines_after U g p = record {
    same = λ n. let c = p.same n in record { common = c.common; first = c.first; second = λ d. shows_after g n c.common (c.second d) };
    moments = λ n. moment_after g (turns (U n).trace) (events (U n).trace) (p.moments n);
  }
