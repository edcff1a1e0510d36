-- What fits where two machines meet.
use Rattle.std.proofs.Common.{◌≡◌, ◌≢◌, ℕ, List, [], ◌∷◌, ◌++◌, Option, Some, refl, sym, ◌∙◌, ap, subst, append_assoc, inl, inr, ⊎_elim}
use Rattle.std.proofs.lemmas.List.{append-nil}
use Rattle.traces.specs.Trace.{Label, Turn, GuardKind, End, Unspecified, Guard, Stopped, Seen, seen, before}
use Rattle.traces.specs.Turns.{TraceAt}
use Rattle.traces.specs.Meeting.{SeenRefines, SeenRefinesCut}
use Rattle.traces.proofs.Turns.{ahead_refl, ahead_more, ahead_on}

pub refines_itself : (c : Seen) → SeenRefines c c
refines_itself c = record { defined = λ d. refl; unspecified = λ h. ahead_refl c.trace }

pub refines_on : (ls : List Label) (c r : Seen) → SeenRefines c r → SeenRefines (before ls c) (before ls r)
refines_on ls c r p = record { defined = λ d. ap (before ls) (p.defined d); unspecified = λ h. ahead_on ls _ _ (p.unspecified h) }

pub refines_unspecified : (ls rest : List Label) (end : Option End) → SeenRefines (seen ls (Some Unspecified)) (seen (ls ++ rest) end)
refines_unspecified ls rest end = record { defined = λ d. absurd (d refl); unspecified = λ h. ahead_more ls ls rest (ahead_refl ls) }

trace_on : (reports a : ℕ) (ls c r : List Label) → TraceAt reports a c r → TraceAt reports a (ls ++ c) (ls ++ r)
trace_on reports a ls c r h = ⊎_elim
    (λ k. inl (ap (λ x. ls ++ x) k))
    (λ k. inr (record {
      front = ls ++ k.front;
      report = k.report;
      shown = k.shown;
      unturned = k.unturned;
      cut = ap (λ x. ls ++ x) k.cut ∙ sym (append_assoc ls k.front k.report);
      stop = ap (λ x. ls ++ x) k.stop ∙ sym (append_assoc ls k.front (Turn a ∷ k.report));
    }))
    h

pub cut_on : (reports : ℕ) (ls : List Label) (c r : Seen) → SeenRefinesCut reports c r → SeenRefinesCut reports (before ls c) (before ls r)
cut_on reports ls c r p = record {
  open_same = λ o. ap (before ls) (p.open_same o);
  guard = λ k a g. let h = p.guard k a g in (h.0, trace_on reports a ls _ _ h.1);
  unspecified = λ h. ahead_on ls _ _ (p.unspecified h);
}

pub cut_itself : (reports : ℕ) (c : Seen) → ((k : GuardKind) (a : ℕ) → c.end ≢ Some (Guard k a)) → SeenRefinesCut reports c c
cut_itself reports c h = record { open_same = λ o. refl; guard = λ k a g. absurd (h k a g); unspecified = λ u. ahead_refl c.trace }

pub cut_unspecified : (reports : ℕ) (ls rest : List Label) (end : Option End) → SeenRefinesCut reports (seen ls (Some Unspecified)) (seen (ls ++ rest) end)
cut_unspecified reports ls rest end = record { open_same = λ o. absurd (o.0 refl); guard = λ k a g. cc; unspecified = λ h. ahead_more ls ls rest (ahead_refl ls) }

-- a guard event and a stop at its address
stops : (reports : ℕ) (ls ls' : List Label) (k : GuardKind) (a : ℕ) → TraceAt reports a ls ls' → SeenRefinesCut reports (seen ls (Some (Guard k a))) (seen ls' (Some (Stopped a)))
stops reports ls ls' k a h = record {
  open_same = λ o. absurd (o.1 k a refl);
  guard = λ k' a' g. let e : a ≡ a' = cc in (ap (λ x. Some (Stopped x)) e, subst (λ x. TraceAt reports x ls ls') e h);
  unspecified = λ u. cc;
}

pub cut_stop : (reports : ℕ) (ls : List Label) (k : GuardKind) (a : ℕ) → SeenRefinesCut reports (seen ls (Some (Guard k a))) (seen ls (Some (Stopped a)))
cut_stop reports ls k a = stops reports ls ls k a (inl refl)

pub cut_stop_turn : (ls : List Label) (k : GuardKind) (a : ℕ) → SeenRefinesCut 0 (seen ls (Some (Guard k a))) (seen (ls ++ Turn a ∷ []) (Some (Stopped a)))
cut_stop_turn ls k a = stops 0 ls (ls ++ Turn a ∷ []) k a (inr (record { front = ls; report = []; shown = refl; unturned = refl; cut = sym (append-nil ls); stop = refl }))
