-- A run that does by turns what a unit does still does so where it ends early, once the unit has used an unspecified value.
use Rattle.std.proofs.Common.{◌≡◌, ◌≢◌, ◌⊎◌, ℕ, zero, suc, ◌+◌, ◌≤◌, ◌<◌, Bool, true, false, ltb, List, [], ◌∷◌, ◌++◌, Option, Some, None, refl, sym, ap, ◌∙◌, subst, append_assoc, inl, inr, arith}
use Rattle.std.proofs.lemmas.Bool.{ltb-true, ltb-false}
use Rattle.std.proofs.lemmas.List.{append-nil, append_cancel_left}
use Rattle.traces.specs.Trace.{Label, Turn, Took, Made, End, Unspecified, Seen, Behaviour, Grows, IsPrefix, seen, events, turns}
use Rattle.traces.specs.Turns.{IsDefined, IsPast, within, within_turns, ShowsByTurns, Moment, RefinesByTurns}
use Rattle.traces.specs.Agree.{end_as, outside, outside_run}
use Rattle.traces.specs.Meeting.{Ahead}
use Rattle.traces.specs.TraceLaws.{TraceLaws}
use Rattle.traces.specs.MeetingLaws.{MeetingLaws}
use Rattle.instr_choose.specs.Apart.{HasUsedUnspecified}

-- ---- runs that end outside
pub outside_grows : (V : Behaviour) → Grows V → Grows (outside_run V)
outside_grows V grows n m le =
    let more = grows n m le in
    record { trace = more.trace; end = λ ended. ap (λ (s : Seen). seen s.trace (end_as outside s.end)) (more.end (λ none. ended (ap (end_as outside) none))) }

pub outside_used : (V : Behaviour) (ls : List Label) → HasUsedUnspecified V ls → HasUsedUnspecified (outside_run V) ls
outside_used V ls h = record { steps = h.steps; ended = ap (end_as outside) h.ended; first = h.first }

-- ---- lists
-- what begins a list that begins it is that list
same_lists : {X : Type 0} (xs ys more rest : List X) → ys ≡ xs ++ more → xs ≡ ys ++ rest → xs ≡ ys
same_lists xs ys more rest e f = cases more e (append_cancel_left xs [] (more ++ rest) (append-nil xs ∙ (f ∙ (ap (λ zs. zs ++ rest) e ∙ append_assoc xs more rest))))
  where
    cases : (more : List _) → ys ≡ xs ++ more → [] ≡ more ++ rest → xs ≡ ys
    cases [] e none = sym (e ∙ append-nil xs)
    cases (z ∷ zs) e none = absurd cc

-- a trace with no more turns is whole
whole_end : (ls : List Label) (n : ℕ) (e : Option End) → turns ls ≤ n → (within ls n e).end ≡ e
whole_end [] n e few = refl
whole_end (Turn a ∷ ls) zero e few = absurd (omega (arith, few))
whole_end (Turn a ∷ ls) (suc n) e few = whole_end ls n e (omega (arith, few))
whole_end (Took ∷ ls) n e few = whole_end ls n e few
whole_end (Made v ∷ ls) n e few = whole_end ls n e few

-- ---- the third run has ended by its n-th step where the second goes on, and the first used an unspecified value before
pub record EndsEarly (U R A : Behaviour) (n : ℕ) : Type 0 where
  pub steps : ℕ
  pub shown : List Label
  pub turned : List Label
  pub running : A steps ≡ seen shown None
  pub ended : A (suc steps) ≡ seen (shown ++ turned) (Some Unspecified)
  pub quiet : events turned ≡ []
  pub first : IsPrefix shown (R n).trace
  pub used : HasUsedUnspecified U (shown ++ turned)

module _ (traces : TraceLaws) (meetings : MeetingLaws) (U R A : Behaviour) (grows : Grows U) where
  ahead_prefix : (xs ys : List Label) → IsPrefix xs ys → Ahead xs ys
  ahead_prefix xs ys h = subst (Ahead xs) (sym h.1) (meetings.ahead_more xs xs h.0 (meetings.ahead_itself xs))

  -- ---- the first run, up to the use of the unspecified value
  module _ (k : ℕ) (used : (U k).end ≡ Some Unspecified) where
    not_running : (U k).end ≢ None
    not_running none = let no : Some Unspecified ≡ None = sym used ∙ none in absurd cc

    begins_used : (j : ℕ) → IsPrefix (U j).trace (U k).trace
    begins_used j = cases (ltb j k) refl
      where
        cases : (b : Bool) → ltb j k ≡ b → IsPrefix (U j).trace (U k).trace
        cases true e = (grows j k (let l : j < k = ltb-true j k e in omega (arith, l))).trace
        cases false e = ([], ap (λ (s : Seen). s.trace) (sym ((grows k j (ltb-false j k e)).end not_running)) ∙ sym (append-nil (U j).trace))

    ended_same : (j : ℕ) → (U j).end ≢ None → U j ≡ U k
    ended_same j ended = cases (ltb j k) refl
      where
        cases : (b : Bool) → ltb j k ≡ b → U j ≡ U k
        cases true e = sym ((grows j k (let l : j < k = ltb-true j k e in omega (arith, l))).end ended)
        cases false e = (grows k j (ltb-false j k e)).end not_running

    -- what it shows within n turns, where it used none within them, ends before that use
    record IsBefore (n : ℕ) (c : Seen) : Type 0 where
      pub turn : n < turns (U k).trace
      pub is : within (U k).trace n (Some Unspecified) ≡ c

    before_by : (n : ℕ) (c : Seen) → IsDefined c → within (U k).trace n (Some Unspecified) ≡ c → IsBefore n c
    before_by n c defined is = cases (ltb n (turns (U k).trace)) refl
      where
        cases : (b : Bool) → ltb n (turns (U k).trace) ≡ b → IsBefore n c
        cases true e = record { turn = ltb-true n (turns (U k).trace) e; is = is }
        cases false e = absurd (defined (ap (λ (s : Seen). s.end) (sym is) ∙ whole_end (U k).trace n (Some Unspecified) (ltb-false n (turns (U k).trace) e)))

    is_before : (n : ℕ) (c : Seen) → IsDefined c → ShowsByTurns U n c → IsBefore n c
    is_before n c defined shows = cases shows.past
      where
        cases : IsPast n (U shows.steps) → IsBefore n c
        cases (inl ended) = before_by n c defined (ap (λ e. within (U k).trace n e) (sym used) ∙ (ap (within_turns n) (sym (ended_same shows.steps ended)) ∙ shows.shown))
        cases (inr turn) =
            let ahead = ahead_prefix (U shows.steps).trace (U k).trace (begins_used shows.steps) in
            record { turn = omega (arith, turn, ahead.as_many); is = ahead.same n turn (U shows.steps).end (Some Unspecified) ∙ shows.shown }

  -- ---- by turns
  early_shows : (n j : ℕ) (c : Seen) → IsDefined c → ShowsByTurns U n c → EndsEarly U R A j → ShowsByTurns A n c
  early_shows n j c defined shows h =
      let before = is_before h.used.steps h.used.ended n c defined shows in
      let ahead = ahead_prefix (U h.used.steps).trace (h.shown ++ h.turned) h.used.first in
      record {
        steps = suc h.steps;
        past = inr (subst (λ (s : Seen). n < turns s.trace) (sym h.ended) (omega (arith, before.turn, ahead.as_many)));
        shown = ap (within_turns n) h.ended ∙ (ahead.same n before.turn (Some Unspecified) (Some Unspecified) ∙ before.is);
      }

  early_moment : (k j : ℕ) → turns (R j).trace ≤ turns (U k).trace → events (R j).trace ≡ events (U k).trace → EndsEarly U R A j → Moment A (turns (U k).trace) (events (U k).trace)
  early_moment k j few exact h =
      let begins = begins_used h.used.steps h.used.ended k in
      let more : events (U k).trace ≡ events h.shown ++ events h.first.0 = sym exact ∙ (ap events h.first.1 ∙ traces.events_append h.shown h.first.0) in
      let whole : h.shown ++ h.turned ≡ (U k).trace ++ (begins.0 ++ h.used.first.0) = h.used.first.1 ∙ (ap (λ ls. ls ++ h.used.first.0) begins.1 ∙ append_assoc (U k).trace begins.0 h.used.first.0) in
      let quiet : events (h.shown ++ h.turned) ≡ events h.shown = traces.events_append h.shown h.turned ∙ (ap (λ es. events h.shown ++ es) h.quiet ∙ append-nil (events h.shown)) in
      let rest : events h.shown ≡ events (U k).trace ++ events (begins.0 ++ h.used.first.0) = sym quiet ∙ (ap events whole ∙ traces.events_append (U k).trace (begins.0 ++ h.used.first.0)) in
      let count : turns (R j).trace ≡ turns h.shown + turns h.first.0 = ap turns h.first.1 ∙ traces.turns_append h.shown h.first.0 in
      record {
        steps = h.steps;
        few = subst (λ (s : Seen). turns s.trace ≤ turns (U k).trace) (sym h.running) (omega (arith, few, count));
        exact = ap (λ (s : Seen). events s.trace) h.running ∙ same_lists (events h.shown) (events (U k).trace) (events h.first.0) (events (begins.0 ++ h.used.first.0)) more rest;
      }

  module _ (same : (n : ℕ) → (A n ≡ R n) ⊎ EndsEarly U R A n) (refines : RefinesByTurns U R) where
    shows_by : (n : ℕ) (c : Seen) → IsDefined c → ShowsByTurns U n c → ShowsByTurns R n c → ShowsByTurns A n c
    shows_by n c defined first second = cases (same second.steps)
      where
        cases : (A second.steps ≡ R second.steps) ⊎ EndsEarly U R A second.steps → ShowsByTurns A n c
        cases (inl e) = record { steps = second.steps; past = subst (IsPast n) (sym e) second.past; shown = ap (within_turns n) e ∙ second.shown }
        cases (inr h) = early_shows n second.steps c defined first h

    moment_by : (k : ℕ) → Moment R (turns (U k).trace) (events (U k).trace) → Moment A (turns (U k).trace) (events (U k).trace)
    moment_by k h = cases (same h.steps)
      where
        cases : (A h.steps ≡ R h.steps) ⊎ EndsEarly U R A h.steps → Moment A (turns (U k).trace) (events (U k).trace)
        cases (inl e) = record { steps = h.steps; few = subst (λ (s : Seen). turns s.trace ≤ turns (U k).trace) (sym e) h.few; exact = ap (λ (s : Seen). events s.trace) e ∙ h.exact }
        cases (inr early) = early_moment k h.steps h.few h.exact early

    pub refines_early : RefinesByTurns U A
    refines_early = record {
      same = λ n. record { common = (refines.same n).common; first = (refines.same n).first; second = λ defined. shows_by n (refines.same n).common defined (refines.same n).first ((refines.same n).second defined) };
      moments = λ k. moment_by k (refines.moments k);
    }
