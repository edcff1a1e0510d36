-- What holds at each state that is reached.
use Rattle.std.proofs.Common.{◌≡◌, ℕ, zero, suc, List, None, refl, sym, ◌∙◌, ap, subst}
use Rattle.traces.specs.Trace.{Label, Move, Stand, Go, Halt, run, input_left}
use Rattle.traces.specs.Steps.{Reaches, rests, goes}
use Rattle.traces.specs.Moves.{To, InputMove, GoesTo}
use Rattle.traces.proofs.Lists.{input_left-append}
use Rattle.traces.proofs.Steps.{rest_go, run_go}

-- a move that goes on does so to a state in which the invariant holds
to_go : {S : Type 0} (Inv : S → Type 0) (x : Move S) (ls : List Label) (t : S) → x ≡ Go ls t → To Inv x → Inv t
to_go Inv x ls t h y = subst (To Inv) h y

module _ {S : Type 0} (next : S → Move S) (Inv : S → Type 0) (kept : (s : S) → Inv s → To Inv (next s)) where
  pub holds_reached : (s : S) (n : ℕ) (ls : List Label) (t : S) → Reaches next s n ls t → Inv s → Inv t
  holds_reached _ _ _ _ (rests s) v = v
  holds_reached _ _ _ _ (goes s ls t n rest u h r) v = holds_reached t n rest u r (to_go Inv (next s) ls t h (kept s v))

  pub input_reached : (input : S → List ℕ) → ((s : S) → Inv s → InputMove input (input s) (next s)) → (s : S) (n : ℕ) (ls : List Label) (t : S) → Reaches next s n ls t → Inv s → input t ≡ input_left (input s) ls
  input_reached input keeps _ _ _ _ (rests s) v = refl
  input_reached input keeps _ _ _ _ (goes s ls t n rest u h r) v =
      let e : input t ≡ input_left (input s) ls = subst (InputMove input (input s)) h (keeps s v) in
      input_reached input keeps t n rest u r (to_go Inv (next s) ls t h (kept s v)) ∙ ap (λ x. input_left x rest) e ∙ sym (input_left-append (input s) ls rest)

-- a machine that goes on from each state in which the invariant holds to another
module _ {S : Type 0} (next : S → Move S) (Inv : S → Type 0) (on : (s : S) → Inv s → GoesTo Inv (next s)) where
  runs_on : (n : ℕ) (s : S) (x : Move S) → next s ≡ x → GoesTo Inv x → ((t : S) → Inv t → (run next t n).end ≡ None) → (run next s (suc n)).end ≡ None
  runs_on n s (Stand ls e) h g i = absurd g
  runs_on n s (Go ls t) h g i = ap (λ x. x.end) (run_go next s ls t h n) ∙ i t g
  runs_on n s (Halt ls e) h g i = absurd g

  rests_on : (s : S) (x : Move S) → next s ≡ x → GoesTo Inv x → (run next s 0).end ≡ None
  rests_on s (Stand ls e) h g = absurd g
  rests_on s (Go ls t) h g = ap (λ x. x.end) (rest_go next s ls t h)
  rests_on s (Halt ls e) h g = absurd g

  pub never_ends : (n : ℕ) (s : S) → Inv s → (run next s n).end ≡ None
  never_ends zero s v = rests_on s (next s) refl (on s v)
  never_ends (suc n) s v = runs_on n s (next s) refl (on s v) (never_ends n)
