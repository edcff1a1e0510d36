-- What a weight says of what is seen within n turns.
use Rattle.std.proofs.Common.{◌≡◌, ◌≢◌, ◌⊎◌, ℕ, ◌+◌, ◌*◌, ◌≤◌, ◌<◌, None, ⊎_elim, refl, ◌∙◌, sym, ap, arith}
use Rattle.std.proofs.Math.Nat.{mul-le-mul_left, mul-le-mul_right}
use Rattle.traces.specs.Trace.{Behaviour, Seen, turns}
use Rattle.traces.specs.Turns.{ShowsByTurns, within_turns, RefinesByTurns}
use Rattle.traces.specs.Weight.{PacedBy, Paced}
use Rattle.traces.proofs.Turns.{within_all, within_running, comes_past}

-- what is seen within n turns is seen at some step
pub at_turn : (clock : ℕ → ℕ) (w b : ℕ) (R : Behaviour) → PacedBy clock w b R → (n : ℕ) (s : Seen) → ShowsByTurns R n s → (j : ℕ) × (clock j ≤ w * n + b) × (R j ≡ s) × (s.end ≡ None → n ≤ j)
at_turn clock w b R paced n s p =
    let k = p.steps in
    let cases : (turns (R k).trace ≤ n) ⊎ (n < turns (R k).trace) = grind arith in
    ⊎_elim
    (λ l.
    let x = paced.weight k in
    let m = mul-le-mul_left w l in
    let eq : R x.steps ≡ s = x.same ∙ sym (within_all (R k).trace n (R k).end l) ∙ p.shown in
    let ended : (R k).end ≢ None = ⊎_elim (λ z. z) (λ z. absurd (omega (arith, z, l))) p.past in
    (x.steps, omega (arith, x.few, m), eq, λ z. absurd (ended (ap (λ y. y.end) (sym x.same ∙ eq) ∙ z))))
    (λ l.
    let x = paced.moment k n l in
    let j = x.0 in
    let r = within_running (R k).trace n (R k).end l in
    let t : turns (R j).trace ≡ n = ap (λ y. turns y.trace) x.1 ∙ r.1 in
    let z : (R j).end ≡ None = ap (λ y. y.end) x.1 ∙ r.0 in
    let v = paced.weight j in
    (j, omega (arith, v.few, ap clock (v.running z), ap (λ u. w * u) t), x.1 ∙ p.shown, λ o. omega (arith, paced.at_most j, t)))
    cases

-- the events of a moment within n turns are seen within as many
pub at_moment : (clock : ℕ → ℕ) (w b : ℕ) (R : Behaviour) → PacedBy clock w b R → (n k : ℕ) → turns (R k).trace ≤ n → (j : ℕ) × (clock j ≤ w * n + b) × (R j ≡ R k)
at_moment clock w b R paced n k h =
    let z = paced.weight k in
    let l = mul-le-mul_left w h in
    (z.steps, omega (arith, z.few, l), z.same)

-- greater numbers and a cheaper clock
pub paced_within : (clock clock' : ℕ → ℕ) (w b w' b' : ℕ) (R : Behaviour) → ((n : ℕ) → clock' n ≤ clock n) → w ≤ w' → b ≤ b' → PacedBy clock w b R → PacedBy clock' w' b' R
paced_within clock clock' w b w' b' R c h i p = record {
  at_most = p.at_most;
  weight = λ k.
      let r = p.weight k in
      let x : w * turns (R k).trace ≤ w' * turns (R k).trace = mul-le-mul_right _ h in
      record { steps = r.steps; few = omega (arith, c r.steps, r.few, x, i); same = r.same; running = r.running };
  moment = p.moment;
}

pub times : (a w b n m : ℕ) → m ≤ w * n + b → a * m ≤ a * w * n + a * b
times a w b n m h = let p = mul-le-mul_left a h in omega (arith, p)

-- a times as much
pub paced_times : (a : ℕ) (clock : ℕ → ℕ) (w b : ℕ) (R : Behaviour) → PacedBy clock w b R → PacedBy (λ n. a * clock n) (a * w) (a * b) R
paced_times a clock w b R p = record {
  at_most = p.at_most;
  weight = λ k. let r = p.weight k in record { steps = r.steps; few = times a w b (turns (R k).trace) (clock r.steps) r.few; same = r.same; running = r.running };
  moment = p.moment;
}

-- a run beside itself
pub refines_itself : (w b : ℕ) (U : Behaviour) → Paced w b U → RefinesByTurns U U
refines_itself w b U paced = record {
  same = λ n.
      let k = w * n + b + 0 + 1 in
      let s : ShowsByTurns U n (within_turns n (U k)) = record { steps = k; past = comes_past (λ n. n) w b 0 U paced (λ k z. omega arith) n k (omega arith); shown = refl } in
      record { common = within_turns n (U k); first = s; second = λ d. s };
  moments = λ k. record { steps = k; few = omega arith; exact = refl };
}
