use Rattle.std.proofs.Common.{refl, rules, arith}
use Rattle.rewrite_core.specs.declared.placing.Placing.{Placing}
use Rattle.rewrite_core.proofs.Followings.{meeting_none, begins_first, open_first, meeting_more, meeting_all}
use Rattle.rewrite_core.proofs.placing.placing_of.Goals as goal

pub follow-requires-clause-opened : goal.follow-requires-clause-opened
follow-requires-clause-opened c =
    let s : Placing = record { places = c.in_ok-places.places; parts = c.new.result; size = 0 } in
    open_first c.args.page.now s c.requires (c.in_ok-places.ensures.items_if_clones_equal (search rules)) c.new.ensures.items refl

pub loop-index-init : goal.loop-index-init
loop-index-init c =
    let s : Placing = record { places = c.in_ok-places.places; parts = c.new.result; size = 0 } in
    let begins = begins_first c.args.page.now s (c.in_ok-places.ensures.items_if_clones_equal (search rules)) c.new.ensures.items in
    let f = rw c.if-not-branch.false at c.in_ok-follow.ensures in
    meeting_none c.args.page.now s c.follow.new.self f begins refl

pub loop-index-preserved : goal.loop-index-preserved
loop-index-preserved c =
    let f = rw c.if-not-branch-2.false at c.in_ok-follow_part.ensures in
    meeting_more c.args.page.now c.loop-index.placing c.follow_part.new.self c.loop-index.index (let h = c.len.ensures in let k = c.loop-index-test.true in let ok = c.loop-index.placing.parts.ok in omega arith) c.loop-index.invariant f

pub returns : goal.returns
returns c =
    let b = c.loop-index-test.false in
    let l = c.len.ensures in
    let ok = c.loop-index.placing.parts.ok in
    meeting_all c.args.page.now _ c.loop-index.index (omega arith) c.loop-index.invariant
