-- Small runs within the bound of an agreement.
use Rattle.std.proofs.Common.{◌≡◌, ℕ, zero, suc, ◌≤◌, ◌<◌, List, [], ◌∷◌, ◌++◌, length, Some, None, ◌⊎◌, ◌≢◌, refl, sym, ap, ◌∙◌, arith, inl, inr, ⊎_elim}
use Rattle.traces.specs.Trace.{Label, Code, End, Exited, Outside, Unspecified, Guard, Behaviour, seen, before, run, events}
use Rattle.traces.specs.Agree.{guard_turn, Follows}
use Rattle.traces.specs.Plain.{Matches, DoesPlainly}
use Rattle.trace_checks.specs.Played.{played, played_on, counted_down, repeat, alternate, one, two}
use Rattle.trace_checks.specs.AgreementChecks.{Agreed, RefusesDroppedEvent, RefusesOtherEvent, RefusesEarlyEnd, RefusesEndlessRun, RefusesOtherStatus, RefusesExtraEvent, RefusesDroppedBeforeUnspecified, RefusesExitAtGuard, RefusesSlowExit, AllowsAnythingAfterUnspecified, AllowsOutsideAtGuard, AllowsSlowExit, RefusesStepLeftOut, RefusesFewerSteps}

-- a run that has ended shows the same within each bound
ended_at : (e : End) (k : ℕ) → played [] e k ≡ seen [] (Some e)
unfolding run
ended_at e zero = refl
ended_at e (suc k) = refl

on_at : (k : ℕ) → played_on [] k ≡ seen [] None
unfolding run
on_at zero = refl
on_at (suc k) = ap (before []) (on_at k)

-- what is seen before the first step, and after one step and an end
start_at : (ls : List Label) (rest : List (List Label)) (e : End) → played (ls ∷ rest) e 0 ≡ seen [] None
unfolding run
start_at ls rest e = refl

step_at : (ls : List Label) (e : End) (k : ℕ) → played (ls ∷ []) e (suc k) ≡ seen (ls ++ []) (Some e)
unfolding run
step_at ls e zero = refl
step_at ls e (suc k) = refl

count_running : (e : End) (n k : ℕ) → k < n → (counted_down n e k).end ≡ None
unfolding run
count_running e zero k h = absurd (omega (arith, h))
count_running e (suc n) zero h = refl
count_running e (suc n) (suc k) h = count_running e n k (omega (arith, h))

count_silent : (e : End) (n k : ℕ) → (counted_down n e k).trace ≡ []
unfolding run
count_silent e zero zero = refl
count_silent e zero (suc k) = refl
count_silent e (suc n) zero = refl
count_silent e (suc n) (suc k) = count_silent e n k

count_ended : (e : End) (n k : ℕ) → n ≤ k → (counted_down n e k).end ≡ Some e
unfolding run
count_ended e zero zero h = refl
count_ended e zero (suc k) h = refl
count_ended e (suc n) zero h = absurd (omega (arith, h))
count_ended e (suc n) (suc k) h = count_ended e n k (omega (arith, h))

-- a run that has ended with no event does nothing where an event is wanted
no_event : (e e' : End) (k : ℕ) → events (played [] e k).trace ≡ events (played ((one ∷ []) ∷ []) e' 1).trace → ⊥
unfolding run
no_event e e' zero h = cc
no_event e e' (suc k) h = cc

pub refuses_dropped_event : RefusesDroppedEvent
refuses_dropped_event p = let d = p.does 1 in no_event (Exited 0) (Exited 0) d.steps d.same_events

pub refuses_dropped_before_unspecified : RefusesDroppedBeforeUnspecified
refuses_dropped_before_unspecified e p = let d = p.does 1 in no_event e Unspecified d.steps d.same_events

other_event : (k : ℕ) → events (played ((two ∷ []) ∷ []) (Exited 0) k).trace ≡ events (played ((one ∷ []) ∷ []) (Exited 0) 1).trace → ⊥
unfolding run
other_event zero h = cc
other_event (suc zero) h = cc
other_event (suc (suc k)) h = cc

pub refuses_other_event : RefusesOtherEvent
refuses_other_event p = let d = p.does 1 in other_event d.steps d.same_events

pub refuses_early_end : RefusesEarlyEnd
refuses_early_end e p =
    let d = p.does 0 in
    let r = d.running (ap (λ s. s.end) (on_at 0)) in
    let x = ap (λ s. s.end) (ended_at e d.steps) in
    let y = r.1 in
    cc

pub refuses_endless_run : RefusesEndlessRun
refuses_endless_run p =
    let d = p.does 0 in
    let r = d.ended (Exited 0) (ap (λ s. s.end) (ended_at (Exited 0) 0)) (λ z. cc) in
    let x = ap (λ s. s.end) (on_at d.steps) in
    let y = r.1 in
    cc

-- the ends that match an exit
match_exit : (n : ℕ) (e : End) → Matches (Exited n) e → e ≡ Exited n
match_exit n e h = ⊎_elim (λ p. sym p.0) (λ p. let x = p.2 in cc) h

pub refuses_other_status : RefusesOtherStatus
refuses_other_status p =
    let d = p.does 0 in
    let r = d.ended (Exited 0) (ap (λ s. s.end) (ended_at (Exited 0) 0)) (λ z. cc) in
    let x = ap (λ s. s.end) (ended_at (Exited 1) d.steps) in
    let y = r.1 in
    let z = match_exit 0 r.0 r.2 in
    let w : Exited 1 ≡ Exited 0 = cc in
    cc

match_guard : (e : End) → Matches (Guard Code 5) e → e ≢ Exited 0
match_guard e h z = ⊎_elim (λ p. let x = p.0 in cc) (λ p. let x = p.3 in cc) h

pub refuses_exit_at_guard : RefusesExitAtGuard
refuses_exit_at_guard p =
    let d = p.does 0 in
    let r = d.ended (Guard Code 5) (ap (λ s. s.end) (ended_at (Guard Code 5) 0)) (λ z. cc) in
    let x = ap (λ s. s.end) (ended_at (Exited 0) d.steps) in
    let y = r.1 in
    match_guard r.0 r.2 (let w : r.0 ≡ Exited 0 = cc in w)

extra_event : (k : ℕ) (e : End) → events (played ((one ∷ []) ∷ (two ∷ []) ∷ []) (Exited 0) k).trace ≡ events (one ∷ []) → (played ((one ∷ []) ∷ (two ∷ []) ∷ []) (Exited 0) k).end ≡ Some e → ⊥
unfolding run
extra_event zero e h g = cc
extra_event (suc zero) e h g = cc
extra_event (suc (suc zero)) e h g = cc
extra_event (suc (suc (suc k))) e h g = cc

pub refuses_extra_event : RefusesExtraEvent
refuses_extra_event p =
    let d = p.does 1 in
    let c = step_at (one ∷ []) (Exited 0) 0 in
    let r = d.ended (Exited 0) (ap (λ s. s.end) c) (λ z. cc) in
    extra_event d.steps r.0 (d.same_events ∙ ap (λ s. events s.trace) c) r.1

slow_exit : (n : ℕ) → 4352 < n → Agreed (played ([] ∷ []) (Exited 0)) (counted_down n (Exited 0)) → ⊥
slow_exit n h p =
    let d = p.does 1 in
    let c = ap (λ s. s.end) (step_at [] (Exited 0) 0) in
    let r = d.ended (Exited 0) c (λ z. cc) in
    let few : d.steps < n = omega (arith, d.bound, ap guard_turn c, h) in
    let x = count_running (Exited 0) n d.steps few in
    let y = r.1 in
    cc

pub refuses_slow_exit : RefusesSlowExit
refuses_slow_exit p = slow_exit 4353 (omega arith) p

pub allows_anything_after_unspecified : AllowsAnythingAfterUnspecified
allows_anything_after_unspecified R none runs first = record {
  does = does;
  no_other = λ m. record { steps = 1; fits = inl (ap (λ s. s.end) (step_at (one ∷ []) Unspecified 0)) };
}
  where
    C : Behaviour
    C = played ((one ∷ []) ∷ []) Unspecified

    does : (n : ℕ) → DoesPlainly 4096 256 C R n
    does zero =
        let c = start_at (one ∷ []) [] Unspecified in
        let q = ap (λ s. s.end) c in
        record { steps = 0; bound = omega arith; same_events = none ∙ sym (ap (λ s. events s.trace) c); running = λ h. (omega arith, runs); ended = λ e h d. cc }
    does (suc n) =
        let c = step_at (one ∷ []) Unspecified n in
        let q = ap (λ s. s.end) c in
        record {
          steps = 1;
          bound = omega arith;
          same_events = first ∙ sym (ap (λ s. events s.trace) c);
          running = λ h. cc;
          ended = λ e h d. let w : e ≡ Unspecified = cc in absurd (d w);
        }

-- what is seen of a count that ends is its end
count_is : (e e' : End) (n m : ℕ) → (counted_down n e m).end ≡ Some e' → e' ≡ e
count_is e e' n m h =
    let cases : (m < n) ⊎ (n ≤ m) = grind arith in
    ⊎_elim (λ l. let x = count_running e n m l in cc) (λ l. let x = count_ended e n m l in cc) cases

outside_at_guard : (k : ℕ) → k ≤ 4352 → Agreed (played [] (Guard Code 5)) (counted_down k Outside)
outside_at_guard k l = record {
  does = λ n.
      let c = ended_at (Guard Code 5) n in
      let q = ap (λ s. s.end) c in
      record {
        steps = k;
        bound = omega (arith, l, ap guard_turn q);
        same_events = ap events (count_silent Outside k k) ∙ sym (ap (λ s. events s.trace) c);
        running = λ h. cc;
        ended = λ e h d. let w : e ≡ Guard Code 5 = cc in (Outside, count_ended Outside k k (omega arith), inr (Code, 5, w, refl));
      };
  no_other = λ m.
      let c = ended_at (Guard Code 5) 0 in
      let same = ap events (count_silent Outside k m) ∙ sym (ap (λ s. events s.trace) c) in
      record { steps = 0; fits = inr (([], ap (λ s. events s.trace) c ∙ sym (ap (λ x. events x ++ []) (count_silent Outside k m))), λ e' h. (same, (Guard Code 5, ap (λ s. s.end) c, inr (Code, 5, refl, count_is Outside e' k m h)))) };
}

pub allows_outside_at_guard : AllowsOutsideAtGuard
allows_outside_at_guard = outside_at_guard 4352 (omega arith)

slow : (k : ℕ) → 0 < k → k ≤ 4352 → Agreed (played ([] ∷ []) (Exited 0)) (counted_down k (Exited 0))
slow k some l = record {
  does = does;
  no_other = λ m.
      let c = step_at [] (Exited 0) 0 in
      let same = ap events (count_silent (Exited 0) k m) ∙ sym (ap (λ s. events s.trace) c) in
      record { steps = 1; fits = inr (([], ap (λ s. events s.trace) c ∙ sym (ap (λ x. events x ++ []) (count_silent (Exited 0) k m))), λ e' h. (same, (Exited 0, ap (λ s. s.end) c, inl (sym (count_is (Exited 0) e' k m h), λ z. cc)))) };
}
  where
    start : played ([] ∷ []) (Exited 0) 0 ≡ seen [] None
    start = start_at [] [] (Exited 0)

    does : (n : ℕ) → DoesPlainly 4096 256 (played ([] ∷ []) (Exited 0)) (counted_down k (Exited 0)) n
    does zero = record {
      steps = 0;
      bound = omega arith;
      same_events = ap events (count_silent (Exited 0) k 0) ∙ sym (ap (λ s. events s.trace) start);
      running = λ h. (omega arith, count_running (Exited 0) k 0 some);
      ended = λ e h d. let x = ap (λ s. s.end) start in cc;
    }
    does (suc n) =
        let c = step_at [] (Exited 0) n in
        let q = ap (λ s. s.end) c in
        record {
          steps = k;
          bound = omega (arith, l);
          same_events = ap events (count_silent (Exited 0) k k) ∙ sym (ap (λ s. events s.trace) c);
          running = λ h. cc;
          ended = λ e h d. let w : e ≡ Exited 0 = cc in (Exited 0, count_ended (Exited 0) k k (omega arith), inl (w, d));
        }

pub allows_slow_exit : AllowsSlowExit
allows_slow_exit = slow 4352 (omega arith) (omega arith)

repeat_length : (m s : ℕ) → length (events (run (repeat (one ∷ [])) s m).trace) ≡ m
unfolding run
repeat_length zero s = refl
repeat_length (suc m) s = ap suc (repeat_length m s)

alternate_at : run (alternate (one ∷ [])) 0 2 ≡ seen (one ∷ []) None
unfolding run
alternate_at = refl

pub refuses_step_left_out : RefusesStepLeftOut
refuses_step_left_out a b p =
    let x = p 2 in
    let f : Follows a b 2 (run (alternate (one ∷ [])) 0 2) x.0 (run (repeat (one ∷ [])) 0 x.0) = x.1 in
    let n = f.does.ahead (ap (λ s. s.end) alternate_at) in
    let e = ap length (f.does.same_events ∙ ap (λ s. events s.trace) alternate_at) in
    absurd (omega (arith, n, e, repeat_length x.0 0))

pub refuses_fewer_steps : RefusesFewerSteps
refuses_fewer_steps a b p =
    let d = p.does 2 in
    let n = (d.running (ap (λ s. s.end) alternate_at)).0 in
    let e = ap length (d.same_events ∙ ap (λ s. events s.trace) alternate_at) in
    absurd (omega (arith, n, e, repeat_length d.steps 0))
