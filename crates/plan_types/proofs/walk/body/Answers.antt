use Rattle.std.proofs.Common.{◌≡◌, ◌+◌, List, length, ap, sym, subst, ◌∙◌, arith}
use Rattle.std.specs.List.Sorted.{IsStrictlyIncreasing}
use Rattle.plan_types.specs.declared.place.Place.{Place}
use Rattle.plan_types.specs.Contents.{FoundContents}
use Rattle.plan_types.specs.Ascending.{addresses_of}
use Rattle.plan_types.specs.Reached.{ReachedContents, with_address, marked_addresses}
use Rattle.plan_types.proofs.Bodies.{IsWalk, none_reached, walk_begins, walk_follows, walk_rests, body_is}
use Rattle.plan_types.proofs.walk.body.Goals as goal
use Rattle.plan_types.proofs.walk.body.Goals.{in-Some+in_ok-add_successors, in_default}

pub loop-turn-init : goal.loop-turn-init
loop-turn-init c =
    let up : IsStrictlyIncreasing (addresses_of c.args.found.now.code) = subst (λ (f : FoundContents). IsStrictlyIncreasing (addresses_of f.code)) c.found.view_is c.found.invariant.by_place in
    let code_is : c.as_slice-code.result.now ≡ c.args.found.now.code = c.as_slice-code.ensures ∙ ap (λ (f : FoundContents). f.code) c.found.view_is in
    let reached_is : c.in_ok-reached.reached ≡ none_reached (length c.args.found.now.code) = c.in_ok-reached.ensures ∙ ap (λ (code : List Place). none_reached (length code)) code_is in
    let is : c.add_address.new.self ≡ with_address c.args.found.now.code (none_reached (length c.args.found.now.code)) c.args.entry =
    c.in_ok-add_address.ensures ∙ (ap (λ (code : List Place). with_address code c.in_ok-reached.reached c.args.entry) code_is
    ∙ ap (λ (r : ReachedContents). with_address c.args.found.now.code r c.args.entry) reached_is) in
    subst (λ (r : ReachedContents). IsWalk c.args.found.now c.args.entry r 0) (sym is) (walk_begins c.args.found.now c.args.entry up)

pub loop-turn-preserved : goal.loop-turn-preserved
loop-turn-preserved c =
    let up : IsStrictlyIncreasing (addresses_of c.args.found.now.code) = subst (λ (f : FoundContents). IsStrictlyIncreasing (addresses_of f.code)) c.found.view_is c.found.invariant.by_place in
    let code_is : c.as_slice-code.result.now ≡ c.args.found.now.code = c.as_slice-code.ensures ∙ ap (λ (f : FoundContents). f.code) c.found.view_is in
    elim c.match-index_at.branch [
      | in-Some+in_ok-add_successors w ↦ walk_follows c.args.found.now c.args.entry up c.loop-turn.reached c.match-index_at.reached c.loop-turn.turn w.in-Some.index c.as_slice-code.result.now _ code_is
          c.loop-turn.invariant w.in-Some.ensures.0 w.in-Some.ensures.1 (w.reached-is ∙ w.in_ok-add_successors.ensures)
      | in_default w ↦ subst (λ (r : ReachedContents). IsWalk c.args.found.now c.args.entry r (c.loop-turn.turn + 1)) (sym w.reached-is)
          (walk_rests c.args.found.now c.args.entry up c.loop-turn.reached c.loop-turn.turn c.loop-turn.invariant w.in_default.ensures)
    ]

pub returns : goal.returns
returns c =
    let up : IsStrictlyIncreasing (addresses_of c.args.found.now.code) = subst (λ (f : FoundContents). IsStrictlyIncreasing (addresses_of f.code)) c.found.view_is c.found.invariant.by_place in
    let code_is : c.as_slice-code.result.now ≡ c.args.found.now.code = c.as_slice-code.ensures ∙ ap (λ (f : FoundContents). f.code) c.found.view_is in
    let sized : length c.as_slice-code.result.now ≡ length c.args.found.now.code = ap (λ (ps : List Place). length ps) code_is in
    body_is c.args.found.now c.args.entry up c.loop-turn.reached c.loop-turn.turn c.new-2.result c.loop-turn.invariant (omega arith)
    (c.new-2.ensures ∙ (c.in_ok-addresses.ensures ∙ ap (λ (ps : List Place). marked_addresses c.loop-turn.reached.marks ps) code_is))
