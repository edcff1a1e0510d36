use Rattle.std.proofs.Common.{◌+◌, sym, ap, ap₂, ◌∙◌, map, drop, get_or, subst, arith}
use Rattle.named_code.specs.Items.{CodeBlock, placed_item, placed_block}
use Rattle.named_code.specs.declared.placed.PBlock.{PBlock}
use Rattle.code_text.specs.KeptPlaces.{places_in, sized, AddsPlace}
use Rattle.code_text.specs.Placing.{items_most, items_size}
use Rattle.code_text.specs.Sizes.{AreItemsSpelled}
use Rattle.code_text.proofs.Adding.{Keeps, keeps_first, keeps_more, keeps_all}
use Rattle.code_text.proofs.Walking.{items_read, block_holds, blocks_more, blocks_end, low_here, low_step, low_size, span_read}
use Rattle.code_text.proofs.placing.add_blocks.Goals as goal

pub loop-block-init : goal.loop-block-init
loop-block-init c = record { kept = keeps_first (places_in c.args.places.now) c.args.first (map (placed_block c.args.homes.now) c.args.blocks.now); low = c.requires.low; some = c.requires.some }

pub add-requires : goal.add-requires
add-requires c = span_read (places_in c.args.places.now) (places_in c.loop-block.places) c.args.homes.now c.args.blocks.now c.loop-block.block-index c.block-item.result c.loop-block-test.true c.requires.in_span c.block-item.is c.loop-block.invariant.kept.span c.loop-block.invariant.kept.count

pub items_size-place-requires : goal.items_size-place-requires
items_size-place-requires c =
    let is = items_read c.args.homes.now c.args.blocks.now c.as_slice.result.now c.loop-block.block-index c.block-item.result c.block-item.is c.as_slice.ensures in
    record {
      spelled = subst AreItemsSpelled (sym is) (block_holds c.args.homes.now c.args.blocks.now c.loop-block.block-index c.block-item.result c.loop-block-test.true (λ (b : CodeBlock). AreItemsSpelled b.items) c.requires.spelled);
      few = let same = ap items_most is in let low = low_here c.args.homes.now c.args.blocks.now c.loop-block.block-index c.block-item.result c.loop-block-test.true c.loop-block.place c.loop-block.invariant.low in omega (arith, same, low);
    }

pub overflow_add-place : goal.overflow_add-place
overflow_add-place c =
    let is = items_read c.args.homes.now c.args.blocks.now c.as_slice.result.now c.loop-block.block-index c.block-item.result c.block-item.is c.as_slice.ensures in
    let low = low_size c.args.homes.now c.args.blocks.now c.loop-block.block-index c.block-item.result c.loop-block-test.true (map (placed_item c.args.homes.now) c.as_slice.result.now) c.loop-block.place c.items_size-place.result is c.items_size-place.ensures.few c.loop-block.invariant.low in
    omega (arith, low)

pub loop-block-preserved : goal.loop-block-preserved
loop-block-preserved c =
    let before = places_in c.args.places.now in
    let mid = places_in c.loop-block.places in
    let now = places_in c.add.new.self in
    let all = map (placed_block c.args.homes.now) c.args.blocks.now in
    let i = c.loop-block.block-index in
    let b = placed_block c.args.homes.now (get_or c.args.blocks.now i c.block-item.result) in
    let rest = map (placed_block c.args.homes.now) (drop (i + 1) c.args.blocks.now) in
    let items = map (placed_item c.args.homes.now) c.as_slice.result.now in
    let is = items_read c.args.homes.now c.args.blocks.now c.as_slice.result.now i c.block-item.result c.block-item.is c.as_slice.ensures in
    let more = blocks_more c.args.homes.now c.args.blocks.now i c.block-item.result c.loop-block-test.true in
    let adds = subst (λ (x : PBlock). AddsPlace mid now x.number x.at c.loop-block.place) c.block-item.is c.in_ok-add.ensures in
    let size = c.items_size-place.ensures.size ∙ (ap (λ s. items_size s items) (ap₂ sized c.span-span.ensures c.count-count.ensures) ∙ ap (items_size (sized before.span before.count)) is) in
    record {
      kept = keeps_more before mid now c.args.first c.loop-block.place c.items_size-place.result all b rest (subst (Keeps before mid c.args.first c.loop-block.place all) more c.loop-block.invariant.kept) adds c.loop-block.invariant.some size;
      low = low_step c.args.homes.now c.args.blocks.now i c.block-item.result c.loop-block-test.true items c.loop-block.place c.items_size-place.result is c.items_size-place.ensures.few c.loop-block.invariant.low;
      some = omega (arith, c.loop-block.invariant.some);
    }

pub returns : goal.returns
returns c = keeps_all (places_in c.args.places.now) (places_in c.loop-block.places) c.args.first c.loop-block.place (map (placed_block c.args.homes.now) c.args.blocks.now) _ (blocks_end c.args.homes.now c.args.blocks.now c.loop-block.block-index c.loop-block-test.false) c.loop-block.invariant.kept
