use Rattle.std.proofs.Common.{◌≡◌, ℕ, ◌<◌, length, ap, ◌∙◌, arith, Vec, Global}
use Rattle.plan_types.specs.Reached.{ReachedContents}
use Rattle.plan_types.proofs.Reaching.{mark_read, listed_yes, listed_no}
use Rattle.plan_types.proofs.reached.Reached.addresses.Goals as goal
use Rattle.plan_types.proofs.reached.Reached.addresses.Goals.{then-index+in_ok-push, else-index}

pub loop-index-preserved : goal.loop-index-preserved
loop-index-preserved c =
    let sized : length c.self.inside.marks.items ≡ length c.args.code.now = ap (λ (r : ReachedContents). length r.marks) c.self.view_is ∙ c.requires in
    let low : c.loop-index.index < length c.self.inside.marks.items = omega arith in
    elim c.if-index.branch [
      | then-index+in_ok-push w ↦ listed_yes c.loop-index.addresses.items c.if-index.addresses.items _ c.self.inside.marks.items c.args.code.now c.loop-index.index _ low c.loop-index-test.true
          (mark_read c.self.inside.marks.items c.loop-index.index c.index.result.now _ low c.index.ensures w.if-index.true) c.loop-index.invariant (ap (λ (v : Vec ℕ Global). v.items) w.addresses-is ∙ w.in_ok-push.ensures.items)
      | else-index w ↦ listed_no c.loop-index.addresses.items c.if-index.addresses.items _ c.self.inside.marks.items c.args.code.now c.loop-index.index low c.loop-index-test.true
          (mark_read c.self.inside.marks.items c.loop-index.index c.index.result.now _ low c.index.ensures w.if-index.false) c.loop-index.invariant (ap (λ (v : Vec ℕ Global). v.items) w.addresses-is)
    ]
