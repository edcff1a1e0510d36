-- Small runs by turns.
use Rattle.std.proofs.Common.{◌≡◌, ◌<◌, ◌≤◌, ℕ, zero, suc, List, [], ◌∷◌, ◌++◌, length, Option, Some, None, refl, sym, ap, ◌∙◌, arith, inl, inr, ⊎_elim, length-append}
use Rattle.traces.specs.Trace.{Label, Turn, Code, End, Exited, Unspecified, Stopped, Behaviour, Grows, run, seen, events, turns}
use Rattle.traces.specs.Turns.{within_turns, ShowsByTurns, RefinesByTurns, RefinesWithin, Moment, TraceAt}
use Rattle.traces.specs.Weight.{SeenWithin}
use Rattle.traces.specs.AgreementLaws.{AgreementLaws}
use Rattle.traces.specs.RunLaws.{RunLaws}
use Rattle.trace_checks.specs.Played.{play, played, one, two}
use Rattle.trace_checks.specs.TurnChecks.{RefusesMovedEvent, RefusesOtherAddress, RefusesLostMoment, RefusesLateGuard, RefusesEarlyReport, AllowsSplitEvents, AllowsLongTurn}

-- what the laws of runs say of machines that play
pub record PlayLaws : Type 0 where
  pub agreements : AgreementLaws
  pub runs : RunLaws (List (List Label))

grows : PlayLaws → (ls : List (List Label)) (e : End) → Grows (played ls e)
grows laws ls e = laws.runs.run_grows (play e) ls

-- what is seen of both within n turns is one
both : PlayLaws → (U V : Behaviour) → Grows U → Grows V → (n : ℕ) (ls ls' : List Label) (o o' : Option End) → (o ≡ Some Unspecified → ⊥) → RefinesByTurns U V → ShowsByTurns U n (seen ls o) → ShowsByTurns V n (seen ls' o') → ls ≡ ls'
both laws U V g h n ls ls' o o' d p u v =
    let c = p.same n in
    let e = laws.agreements.shows_once U g n c.common (seen ls o) c.first u in
    let f = laws.agreements.shows_once V h n c.common (seen ls' o') (c.second (λ z. d (sym (ap (λ s. s.end) e) ∙ z))) v in
    ap (λ s. s.trace) (sym e ∙ f)

pub refuses_moved_event : PlayLaws → RefusesMovedEvent
unfolding run
refuses_moved_event laws p = let e = both laws _ _ (grows laws _ _) (grows laws _ _) 1 (Turn 1 ∷ one ∷ []) (Turn 1 ∷ []) None None (λ z. cc) p (record { steps = 3; past = inr (omega arith); shown = refl }) (record { steps = 2; past = inr (omega arith); shown = refl }) in cc

pub refuses_other_address : PlayLaws → RefusesOtherAddress
unfolding run
refuses_other_address laws p = let e = both laws _ _ (grows laws _ _) (grows laws _ _) 2 (Turn 1 ∷ Turn 2 ∷ []) (Turn 1 ∷ Turn 3 ∷ []) (Some (Exited 0)) (Some (Exited 0)) (λ z. cc) p (record { steps = 2; past = inl (λ z. cc); shown = refl }) (record { steps = 2; past = inl (λ z. cc); shown = refl }) in cc

lost : (k : ℕ) → events (played ((Turn 1 ∷ one ∷ two ∷ []) ∷ []) (Exited 0) k).trace ≡ events (one ∷ []) → ⊥
unfolding run
lost zero e = cc
lost (suc zero) e = cc
lost (suc (suc k)) e = cc

pub refuses_lost_moment : RefusesLostMoment
unfolding run
refuses_lost_moment p = let m = p.moments 1 in lost m.steps m.exact

pub refuses_late_guard : PlayLaws → RefusesLateGuard
unfolding run
refuses_late_guard laws p =
    let g = p.guard 0 Code 5 refl in
    let s : ShowsByTurns (played ((Turn 5 ∷ []) ∷ (Turn 5 ∷ []) ∷ []) (Stopped 5)) 1 (seen (Turn 5 ∷ []) None) = record { steps = 2; past = inr (omega arith); shown = refl } in
    let e = ap (λ x. x.end) (laws.agreements.shows_once _ (grows laws _ _) 1 _ _ g.shows s) in
    cc

early : (front report : List Label) → length report ≡ 1 → (Turn 4 ∷ one ∷ []) ≡ front ++ report → (Turn 4 ∷ one ∷ Turn 5 ∷ []) ≡ front ++ Turn 5 ∷ report → ⊥
early [] report h e f = cc
early (x ∷ []) report h e f = cc
early (x ∷ y ∷ front) report h e f = absurd (omega (arith, h, ap length e, length-append front report))

-- what is seen of one within n turns has one trace
same_labels : PlayLaws → (R : Behaviour) → Grows R → (n : ℕ) (ls ls' : List Label) (o o' : Option End) → ShowsByTurns R n (seen ls o) → ShowsByTurns R n (seen ls' o') → ls ≡ ls'
same_labels laws R g n ls ls' o o' u v = ap (λ s. s.trace) (laws.agreements.shows_once R g n (seen ls o) (seen ls' o') u v)

-- no trace of the unit is where the report would have to be
not_at : (c r : List Label) → c ≡ Turn 4 ∷ one ∷ [] → r ≡ Turn 4 ∷ one ∷ Turn 5 ∷ [] → TraceAt 1 5 c r → ⊥
not_at c r h g f = ⊎_elim (λ e. let q = sym g ∙ e ∙ h in cc) (λ k. early k.front k.report k.shown (sym h ∙ k.cut) (sym g ∙ k.stop)) f

pub refuses_early_report : PlayLaws → RefusesEarlyReport
unfolding run
refuses_early_report laws p =
    let g = p.guard 2 Code 5 refl in
    let s : ShowsByTurns (played ((Turn 4 ∷ []) ∷ (one ∷ []) ∷ (Turn 5 ∷ []) ∷ []) (Stopped 5)) 3 (seen (Turn 4 ∷ one ∷ Turn 5 ∷ []) (Some (Stopped 5))) = record { steps = 3; past = inl (λ z. cc); shown = refl } in
    not_at _ _ refl (same_labels laws _ (grows laws _ _) 3 _ _ _ _ g.shows s) g.fits

pub allows_split_events : AllowsSplitEvents
unfolding run
allows_split_events = record { same = same; moments = moments }
  where
    U : Behaviour
    U = played ((Turn 1 ∷ one ∷ two ∷ []) ∷ []) (Exited 0)

    V : Behaviour
    V = played ((Turn 1 ∷ []) ∷ (one ∷ []) ∷ (two ∷ []) ∷ []) (Exited 0)

    same : (n : ℕ) → RefinesWithin U V n
    same zero = record { common = seen [] None; first = record { steps = 1; past = inr (omega arith); shown = refl }; second = λ d. record { steps = 3; past = inr (omega arith); shown = refl } }
    same (suc n) = record { common = seen (Turn 1 ∷ one ∷ two ∷ []) (Some (Exited 0)); first = record { steps = 1; past = inl (λ z. cc); shown = refl }; second = λ d. record { steps = 3; past = inl (λ z. cc); shown = refl } }

    moments : (k : ℕ) → Moment V (turns (U k).trace) (events (U k).trace)
    moments zero = record { steps = 0; few = omega arith; exact = refl }
    moments (suc zero) = record { steps = 3; few = omega arith; exact = refl }
    moments (suc (suc k)) = record { steps = 3; few = omega arith; exact = refl }

pub allows_long_turn : AllowsLongTurn
unfolding run
allows_long_turn = record { at_most = at_most; weight = weight; moment = moment }
  where
    R : Behaviour
    R = played ((Turn 1 ∷ []) ∷ (Turn 2 ∷ []) ∷ [] ∷ [] ∷ []) (Exited 0)

    at_most : (k : ℕ) → turns (R k).trace ≤ k
    at_most zero = omega arith
    at_most (suc zero) = omega arith
    at_most (suc (suc zero)) = omega arith
    at_most (suc (suc (suc zero))) = omega arith
    at_most (suc (suc (suc (suc zero)))) = omega arith
    at_most (suc (suc (suc (suc (suc k))))) = omega arith

    weight : (k : ℕ) → SeenWithin (λ n. n) 2 0 R k
    weight zero = record { steps = 0; few = omega arith; same = refl; running = λ h. refl }
    weight (suc zero) = record { steps = 1; few = omega arith; same = refl; running = λ h. refl }
    weight (suc (suc zero)) = record { steps = 2; few = omega arith; same = refl; running = λ h. refl }
    weight (suc (suc (suc zero))) = record { steps = 3; few = omega arith; same = refl; running = λ h. refl }
    weight (suc (suc (suc (suc zero)))) = record { steps = 4; few = omega arith; same = refl; running = λ h. cc }
    weight (suc (suc (suc (suc (suc k))))) = record { steps = 4; few = omega arith; same = refl; running = λ h. cc }

    moment : (k n : ℕ) → n < turns (R k).trace → (j : ℕ) × (R j ≡ within_turns n (R k))
    moment zero n h = absurd (omega (arith, h))
    moment (suc zero) zero h = (0, refl)
    moment (suc zero) (suc n) h = absurd (omega (arith, h))
    moment (suc (suc zero)) zero h = (0, refl)
    moment (suc (suc zero)) (suc zero) h = (1, refl)
    moment (suc (suc zero)) (suc (suc n)) h = absurd (omega (arith, h))
    moment (suc (suc (suc zero))) zero h = (0, refl)
    moment (suc (suc (suc zero))) (suc zero) h = (1, refl)
    moment (suc (suc (suc zero))) (suc (suc n)) h = absurd (omega (arith, h))
    moment (suc (suc (suc (suc zero)))) zero h = (0, refl)
    moment (suc (suc (suc (suc zero)))) (suc zero) h = (1, refl)
    moment (suc (suc (suc (suc zero)))) (suc (suc n)) h = absurd (omega (arith, h))
    moment (suc (suc (suc (suc (suc k))))) zero h = (0, refl)
    moment (suc (suc (suc (suc (suc k))))) (suc zero) h = (1, refl)
    moment (suc (suc (suc (suc (suc k))))) (suc (suc n)) h = absurd (omega (arith, h))
