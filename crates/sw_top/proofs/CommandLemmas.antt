-- Which words spell a run.
use Rattle.std.proofs.Common.{◌≡◌, ◌≤◌, ℕ, Bool, true, false, cond, leb, List, [], ◌∷◌, Option, Some, None, codes, bytes_eq, decimal, refl, sym, ap, ◌∙◌, subst}
use Rattle.std.proofs.lemmas.Slice.Eq.{bytes_eq-Decides}
use Rattle.sw_top.specs.declared.command.Names.{Names}
use Rattle.sw_top.specs.declared.command.Running.{Running}
use Rattle.sw_top.specs.declared.command.Command.TheVariants.{Rewrite, Run}
use Rattle.sw_top.specs.Stacks.{stack_size, greatest_stack}
use Rattle.sw_top.specs.Commands.{rewrite_of, running_of, running_with, run_steps_of, steps_of, plain_steps, most_steps, command_of}
use Rattle.sw_top.specs.Laws.{HasRunForm, plainly, with_steps, IsRun, RunIsSpelled}
use Rattle.sw_top.proofs.NumberLemmas.{leb_is, is_leb, steps_of_is, steps_of_written}

-- a run of these words, from IN on, with so many steps
record IsRunOf (steps : ℕ) (words : List (List ℕ)) (running : Running) : Type 0 where
  words_are : running.words ≡ words
  steps_are : running.steps ≡ steps
  args : List (List ℕ)
  from_is : running.words ≡ running.from ∷ args
  fits : stack_size running.words ≤ greatest_stack

chosen : (b : Bool) (r s : Running) → cond b (Some (Run r)) None ≡ Some (Run s) → (b ≡ true) × (r ≡ s)
chosen true r s e = (refl, cc)
chosen false r s e = cc

taken : (b : Bool) (r s : Running) → b ≡ true → r ≡ s → cond b (Some (Run r)) None ≡ Some (Run s)
taken b r s p e = rw (p, e) refl

run_of_is : (steps : ℕ) (words : List (List ℕ)) (running : Running) → running_of steps words ≡ Some (Run running) → IsRunOf steps words running
run_of_is steps [] running e = cc
run_of_is steps (from ∷ args) running e =
    let r : Running = record { from = from; words = from ∷ args; steps = steps } in
    let is = chosen (leb (stack_size (from ∷ args)) greatest_stack) r running e in
    record {
      words_are = ap (λ (x : Running). x.words) (sym is.1);
      steps_are = ap (λ (x : Running). x.steps) (sym is.1);
      args = args;
      from_is = ap (λ (x : Running). x.words) (sym is.1) ∙ ap (λ (x : Running). x.from ∷ args) is.1;
      fits = subst (λ (x : Running). stack_size x.words ≤ greatest_stack) is.1 (leb_is (stack_size (from ∷ args)) greatest_stack is.0);
    }

run_of_spells : (steps : ℕ) (words : List (List ℕ)) (running : Running) → IsRunOf steps words running → running_of steps words ≡ Some (Run running)
run_of_spells steps words running h =
    let front = running.from ∷ h.args in
    let fits = subst (λ w. stack_size w ≤ greatest_stack) h.from_is h.fits in
    let r : Running = record { from = running.from; words = front; steps = steps } in
    let same : r ≡ running = ap (λ n. record { from = running.from; words = front; steps = n }) (sym h.steps_are) ∙ ap (λ w. record { from = running.from; words = w; steps = running.steps }) (sym h.from_is) in
    subst (λ w. running_of steps w ≡ Some (Run running)) (sym h.from_is ∙ h.words_are) (taken (leb (stack_size front) greatest_stack) r running (is_leb (stack_size front) greatest_stack fits) same)

-- a rewriting is no run
no_run : (b : Bool) (names : Names) (running : Running) → cond b None (Some (Rewrite names)) ≡ Some (Run running) → ⊥
no_run true names running e = cc
no_run false names running e = cc

rewrite_is_no_run : (words : List (List ℕ)) (running : Running) → rewrite_of words ≡ Some (Run running) → ⊥
rewrite_is_no_run [] running e = cc
rewrite_is_no_run (a ∷ []) running e = cc
rewrite_is_no_run (a ∷ b ∷ []) running e = cc
rewrite_is_no_run (a ∷ b ∷ c ∷ []) running e = no_run (bytes_eq b c) (record { from = a; to = b; map = c }) running e
rewrite_is_no_run (a ∷ b ∷ c ∷ d ∷ more) running e = cc

-- the words after `run-steps`
record HasSteps (words : List (List ℕ)) (running : Running) : Type 0 where
  words_are : words ≡ decimal running.steps ∷ running.words
  most : running.steps ≤ most_steps
  rest : List (List ℕ)
  is_run : IsRunOf running.steps rest running

steps_are_said : (number : List ℕ) (o : Option ℕ) (words : List (List ℕ)) (running : Running) → o ≡ steps_of number → running_with o words ≡ Some (Run running) → HasSteps (number ∷ words) running
steps_are_said number None words running same e = cc
steps_are_said number (Some n) words running same e =
    let is = run_of_is n words running e in
    let said = steps_of_is number n (sym same) in
    record {
      words_are = ap (λ x. x ∷ words) (said.0 ∙ ap decimal (sym is.steps_are)) ∙ ap (λ ws. decimal running.steps ∷ ws) (sym is.words_are);
      most = subst (λ k. k ≤ most_steps) (sym is.steps_are) said.1;
      rest = words;
      is_run = subst (λ k. IsRunOf k words running) (sym is.steps_are) is;
    }

run_steps_of_is : (words : List (List ℕ)) (running : Running) → run_steps_of words ≡ Some (Run running) → HasSteps words running
run_steps_of_is [] running e = cc
run_steps_of_is (number ∷ words) running e = steps_are_said number (steps_of number) words running refl e

-- by the first word
by_first : (first : List ℕ) (rest : List (List ℕ)) (running : Running) (p q r : Bool) → q ≡ bytes_eq first (codes "run") → r ≡ bytes_eq first (codes "run-steps") → cond p (rewrite_of rest) (cond q (running_of plain_steps rest) (cond r (run_steps_of rest) None)) ≡ Some (Run running) → IsRun (first ∷ rest) running
by_first first rest running true q r f g e = absurd (rewrite_is_no_run rest running e)
by_first first rest running false true r f g e =
    let is = run_of_is plain_steps rest running e in
    let first_is : first ≡ codes "run" = (bytes_eq-Decides first (codes "run")).0 (sym f) in
    record { form = plainly (ap (λ w. w ∷ rest) first_is ∙ ap (λ ws. codes "run" ∷ ws) (sym is.words_are)) is.steps_are; args = is.args; from_is = is.from_is; fits = is.fits }
by_first first rest running false false true f g e =
    let said = run_steps_of_is rest running e in
    let is = said.is_run in
    let first_is : first ≡ codes "run-steps" = (bytes_eq-Decides first (codes "run-steps")).0 (sym g) in
    record { form = with_steps (ap (λ w. w ∷ rest) first_is ∙ ap (λ ws. codes "run-steps" ∷ ws) said.words_are) said.most; args = is.args; from_is = is.from_is; fits = is.fits }
by_first first rest running false false false f g e = cc

run_words : (words : List (List ℕ)) (running : Running) → command_of words ≡ Some (Run running) → IsRun words running
run_words [] running e = cc
run_words (first ∷ rest) running e = by_first first rest running (bytes_eq first (codes "rewrite")) (bytes_eq first (codes "run")) (bytes_eq first (codes "run-steps")) refl refl e

spelled : (words : List (List ℕ)) (running : Running) → HasRunForm words running → (args : List (List ℕ)) → running.words ≡ running.from ∷ args → stack_size running.words ≤ greatest_stack → command_of words ≡ Some (Run running)
spelled words running (plainly e n) args f h =
    ap command_of e ∙ run_of_spells plain_steps running.words running (record { words_are = refl; steps_are = n; args = args; from_is = f; fits = h })
spelled words running (with_steps e n) args f h =
    ap command_of e
    ∙ ap (λ o. running_with o running.words) (steps_of_written (decimal running.steps) running.steps refl n)
    ∙ run_of_spells running.steps running.words running (record { words_are = refl; steps_are = refl; args = args; from_is = f; fits = h })

pub run_is_spelled : RunIsSpelled
run_is_spelled words running = (run_words words running, λ is. spelled words running is.form is.args is.from_is is.fits)
