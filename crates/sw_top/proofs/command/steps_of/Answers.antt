use Rattle.std.proofs.Common.{◌≡◌, ◌∙◌, ap, sym, arith, decimal}
use Rattle.sw_top.proofs.NumberLemmas.{steps_of_written, steps_of_none, not_read, one_read, is_written, not_written}
use Rattle.sw_top.proofs.command.steps_of.Goals as goal
use Rattle.sw_top.proofs.command.steps_of.Goals.{else-steps-le-MOST_STEPS-via-then-steps-le-MOST_STEPS+else-eq, else-steps-le-MOST_STEPS-via-else-steps-le-MOST_STEPS}

pub returns-in_err-steps : goal.returns-in_err-steps
returns-in_err-steps c =
    c.from_residual.ensures
    ∙ sym (steps_of_none c.args.text.now c.parse.result c.parse.ensures.value.0 (λ n is written most. not_read c.parse.result c.ok.result c.ok.ensures.value c.in_err-steps.was n is))

pub returns-then-eq : goal.returns-then-eq
returns-then-eq c =
    let written = is_written c.format.result.now c.args.text.now c.in_ok-steps.steps c.format.ensures.text (sym c.eq.ensures ∙ c.if-eq.true) in
    sym (steps_of_written c.args.text.now c.in_ok-steps.steps written c.if-steps-le-MOST_STEPS.true)

pub returns-else-steps-le-MOST_STEPS : goal.returns-else-steps-le-MOST_STEPS
returns-else-steps-le-MOST_STEPS c =
    sym (steps_of_none c.args.text.now c.parse.result c.parse.ensures.value.0 (λ n is written most.
    let same : n ≡ c.in_ok-steps.steps = one_read c.parse.result c.ok.result c.in_ok-steps.steps c.ok.ensures.value c.in_ok-steps.was n is in
    elim c.else-steps-le-MOST_STEPS.branch [
      | else-steps-le-MOST_STEPS-via-then-steps-le-MOST_STEPS+else-eq w ↦ not_written w.format.result.now c.args.text.now c.in_ok-steps.steps w.format.ensures.text (sym w.eq.ensures ∙ w.if-eq.false) (written ∙ ap decimal same)
      | else-steps-le-MOST_STEPS-via-else-steps-le-MOST_STEPS w ↦ omega (arith, same, most, w.if-steps-le-MOST_STEPS.false)
    ]))
