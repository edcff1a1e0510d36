-- Runs of a machine that has made some steps.
use Rattle.std.proofs.Common.{◌≡◌, inl, inr, ℕ, zero, suc, ◌+◌, ◌-◌, ◌<◌, ◌≤◌, List, [], ◌++◌, Some, None, refl, ap, ◌∙◌, append-nil, arith}
use Rattle.std.proofs.lemmas.Bool.{cases_eq}
use Rattle.traces.specs.Trace.{Label, End, Move, Stand, Go, Halt, seen, before, at_rest, run}
use Rattle.traces.specs.Steps.{Reaches, rests, goes}
use Rattle.traces.specs.RunLaws.{RunLaws}

module _ {S : Type 0} (laws : RunLaws S) (next : S → Move S) where
  -- no run has ended before its last step that goes on
  pub awake_before : (s : S) (n : ℕ) (ls : List Label) (t : S) → Reaches next s n ls t → (k : ℕ) → k < n → (run next s k).end ≡ None
  awake_before _ _ _ _ (rests s) k within = absurd (omega arith)
  awake_before _ _ _ _ (goes s ls t n rest u h r) zero within = ap (λ x. x.end) (laws.rest_go next s ls t h)
  awake_before _ _ _ _ (goes s ls t n rest u h r) (suc k) within = ap (λ x. x.end) (laws.run_go next s ls t h k) ∙ awake_before t n rest u r k (omega arith)

  -- nor by it, where no end is seen in the state that it comes to
  pub awake_at : (s : S) (n : ℕ) (ls : List Label) (t : S) → Reaches next s n ls t → run next t 0 ≡ seen [] None → (run next s n).end ≡ None
  awake_at s n ls t r rest =
      let e : n ≡ n + 0 = omega arith in
      ap (λ k. (run next s k).end) e ∙ ap (λ x. x.end) (laws.reaches_run next s n ls t r 0) ∙ ap (λ x. (before ls x).end) rest

  -- it halts by one step more
  pub halts_within : (s : S) (n : ℕ) (ls : List Label) (t : S) (ms : List Label) (e : End) (budget : ℕ) → Reaches next s n ls t → next t ≡ Halt ms e → n + 1 ≤ budget → run next s budget ≡ seen (ls ++ ms) (Some e)
  halts_within s n ls t ms e budget r h within =
      let k : budget ≡ n + suc (budget - (n + 1)) = omega arith in
      ap (run next s) k ∙ laws.reaches_run next s n ls t r (suc (budget - (n + 1))) ∙ ap (before ls) (laws.run_halt next t ms e h (budget - (n + 1)))

  pub halts_after : (s : S) (n : ℕ) (ls : List Label) (t : S) (ms : List Label) (e : End) → Reaches next s n ls t → next t ≡ Halt ms e → (k : ℕ) → k + 1 ≤ n + 1 → (run next s k).end ≡ None
  halts_after s n ls t ms e r h k within =
      let at : k ≡ n → (run next s k).end ≡ None = λ same. ap (λ j. (run next s j).end) same ∙ awake_at s n ls t r (laws.rest_halt next t ms e h) in
      let before_it : (k ≡ n → ⊥) → (run next s k).end ≡ None = λ other. awake_before s n ls t r k (omega (arith, other)) in
      elim (cases_eq k n) [ inl same ↦ at same | inr other ↦ before_it other ]

  -- it stands there
  pub stands_within : (s : S) (n : ℕ) (ls : List Label) (t : S) (e : End) (budget : ℕ) → Reaches next s n ls t → next t ≡ Stand [] e → n ≤ budget → run next s budget ≡ seen ls (Some e)
  stands_within s n ls t e budget r h within =
      let k : budget ≡ n + (budget - n) = omega arith in
      ap (run next s) k ∙ laws.reaches_run next s n ls t r (budget - n) ∙ ap (before ls) (laws.run_stand next t [] e h (budget - n)) ∙ ap (λ ms. seen ms (Some e)) (append-nil ls)

  rest_by : (t : S) (x : Move S) → next t ≡ x → at_rest x ≡ seen [] None → run next t 0 ≡ seen [] None
  rest_by t (Stand ls e) is h = laws.run_stand next t ls e is 0 ∙ h
  rest_by t (Go ls u) is h = laws.rest_go next t ls u is
  rest_by t (Halt ls e) is h = laws.rest_halt next t ls e is

  -- a move that isn't a stand shows no end before it
  pub rest_awake : (t : S) → at_rest (next t) ≡ seen [] None → run next t 0 ≡ seen [] None
  rest_awake t h = rest_by t (next t) refl h
