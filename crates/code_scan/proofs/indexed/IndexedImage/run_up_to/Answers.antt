use Rattle.std.proofs.Common.{◌≡◌, ◌+◌, ◌-◌, ◌∷◌, [], ◌++◌, ◌∙◌, arith, ap, sym}
use Rattle.x86_code.specs.Code.{code_of}
use Rattle.plan_types.specs.Straight.{straight_run}
use Rattle.code_scan.proofs.Runs.{run_stops, run_ends, run_goes_on, run_is_full}
use Rattle.code_scan.proofs.indexed.IndexedImage.run_up_to.Goals as goal

pub returns-in_default : goal.returns-in_default
returns-in_default c = record { run = c.new.ensures ∙ run_stops c.args.self.now c.loop-left.at c.loop-left.left _ c.loop-left.run.items (omega arith) c.loop-left.invariant c.in_default.ensures.place }

pub returns-then-ends_run : goal.returns-then-ends_run
returns-then-ends_run c = record { run = c.new-then-ends_run.ensures ∙ c.in_ok-push.ensures.items ∙ run_ends c.args.self.now c.loop-left.at c.loop-left.left _ c.loop-left.run.items (omega arith) c.loop-left.invariant c.in-Some.place c.in-Some.ensures.place (sym c.if-ends_run.ensures) }

pub loop-left-preserved : goal.loop-left-preserved
loop-left-preserved c =
    let goes : straight_run (code_of c.args.self.now) c.args.most c.args.leader ≡ (c.loop-left.run.items ++ c.in-Some.place ∷ []) ++ straight_run (code_of c.args.self.now) (c.loop-left.left - 1) (c.loop-left.at + c.in-Some.place.len) =
    run_goes_on c.args.self.now c.loop-left.at c.loop-left.left _ c.loop-left.run.items (omega arith) c.loop-left.invariant c.in-Some.place c.in-Some.ensures.place (sym c.if-ends_run.ensures) in
    goes ∙ ap (λ xs. xs ++ straight_run (code_of c.args.self.now) (c.loop-left.left - 1) (c.loop-left.at + c.in-Some.place.len)) (sym c.in_ok-push.ensures.items) ∙ ap (λ n. c.push.new.self.items ++ straight_run (code_of c.args.self.now) (c.loop-left.left - 1) (c.loop-left.at + n)) (sym c.from-at.ensures)

pub returns : goal.returns
returns c = record { run = c.new-2.ensures ∙ run_is_full (code_of c.args.self.now) c.loop-left.at c.loop-left.left _ c.loop-left.run.items (omega arith) c.loop-left.invariant }
