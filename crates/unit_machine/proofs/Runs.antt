-- Runs of a machine that has made some steps.
use Rattle.std.proofs.Common.{◌≡◌, ℕ, suc, ◌+◌, ◌-◌, ◌≤◌, List, [], ◌++◌, Some, None, refl, ap, ◌∙◌, append-nil, arith}
use Rattle.traces.specs.Trace.{Label, End, Move, Stand, Go, Halt, seen, before, at_rest, run}
use Rattle.traces.specs.Steps.{Reaches}
use Rattle.traces.specs.RunLaws.{RunLaws}

module _ {S : Type 0} (laws : RunLaws S) (next : S → Move S) where
  rest_by : (t : S) (x : Move S) → next t ≡ x → at_rest x ≡ seen [] None → run next t 0 ≡ seen [] None
  rest_by t (Stand ls e) is h = laws.run_stand next t ls e is 0 ∙ h
  rest_by t (Go ls u) is h = laws.rest_go next t ls u is
  rest_by t (Halt ls e) is h = laws.rest_halt next t ls e is

  -- where it doesn't stand no end is seen after the steps to that state
  pub awake_at : (s : S) (n : ℕ) (ls : List Label) (t : S) → Reaches next s n ls t → at_rest (next t) ≡ seen [] None → run next s n ≡ seen ls None
  awake_at s n ls t r rest =
      let e : n ≡ n + 0 = omega arith in
      ap (run next s) e ∙ laws.reaches_run next s n ls t r 0 ∙ ap (before ls) (rest_by t (next t) refl rest) ∙ ap (λ ms. seen ms None) (append-nil ls)

  -- it halts by one step more
  pub halts_within : (s : S) (n : ℕ) (ls : List Label) (t : S) (ms : List Label) (e : End) (budget : ℕ) → Reaches next s n ls t → next t ≡ Halt ms e → n + 1 ≤ budget → run next s budget ≡ seen (ls ++ ms) (Some e)
  halts_within s n ls t ms e budget r h within =
      let k : budget ≡ n + suc (budget - (n + 1)) = omega arith in
      ap (run next s) k ∙ laws.reaches_run next s n ls t r (suc (budget - (n + 1))) ∙ ap (before ls) (laws.run_halt next t ms e h (budget - (n + 1)))
