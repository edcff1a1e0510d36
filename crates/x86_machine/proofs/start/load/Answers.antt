use Rattle.std.proofs.Common.{sym, ap, ◌∙◌, subst, ◌+◌, List}
use Rattle.image.specs.declared.image.Segment.{Segment}
use Rattle.image.specs.Wanted.{FitsWideRoom}
use Rattle.memory.specs.Memory.{Memory}
use Rattle.mem_pages.specs.Regions.{HasRoom}
use Rattle.x86_machine.specs.Loading.{with_segment}
use Rattle.x86_machine.proofs.Rooms.{room_for, one_segment, no_segments, all_segments}
use Rattle.x86_machine.proofs.start.load.Goals as goal

pub add_segment-requires : goal.add_segment-requires
add_segment-requires c =
    let fits : FitsWideRoom c.as_slice-segment-items.result.now c.image.inside.entry = subst (λ (ss : List Segment). FitsWideRoom ss c.image.inside.entry) (sym c.as_slice-segment-items.ensures) c.image.invariant in
    subst (λ (m : Memory). HasRoom c.segment-item.result.start (c.segment-item.result.start + c.segment-item.result.size) m) (sym c.loop-segment.invariant)
    (room_for c.as_slice-segment-items.result.now c.image.inside.entry c.loop-segment.segment-index c.segment-item.result fits c.loop-segment-test.true c.segment-item.is)

pub loop-segment-init : goal.loop-segment-init
loop-segment-init c = c.requires ∙ sym no_segments

pub loop-segment-preserved : goal.loop-segment-preserved
loop-segment-preserved c =
    let fits : FitsWideRoom c.as_slice-segment-items.result.now c.image.inside.entry = subst (λ (ss : List Segment). FitsWideRoom ss c.image.inside.entry) (sym c.as_slice-segment-items.ensures) c.image.invariant in
    c.in_ok-add_segment.ensures ∙ ap (with_segment c.segment-item.result) c.loop-segment.invariant ∙ one_segment c.as_slice-segment-items.result.now c.image.inside.entry c.loop-segment.segment-index c.segment-item.result fits c.loop-segment-test.true c.segment-item.is

pub returns : goal.returns
returns c = c.loop-segment.invariant ∙ all_segments c.args.image.now c.as_slice-segment-items.result.now c.loop-segment.segment-index c.loop-segment-test.false (c.as_slice-segment-items.ensures ∙ ap (λ x. x.segments) c.image.view_is)
