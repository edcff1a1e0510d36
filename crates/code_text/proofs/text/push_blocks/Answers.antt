use Rattle.std.proofs.Common.{length, map, sym, subst}
use Rattle.named_code.specs.Items.{CodeBlock, placed_item}
use Rattle.code_text.specs.KeptPlaces.{places_in}
use Rattle.code_text.specs.Sizes.{AreItemsSpelled}
use Rattle.code_text.proofs.Walking.{items_read, block_holds, room_here, room_step_up}
use Rattle.code_text.proofs.Pushed.{blocks_done, blocks_go_on}
use Rattle.code_text.proofs.text.push_blocks.Goals as goal

pub push_items-requires : goal.push_items-requires
push_items-requires c =
    let homes = c.args.homes.now in
    let blocks = c.args.blocks.now in
    let i = c.loop-block.block-index in
    let is = items_read homes blocks c.as_slice.result.now i c.block-item.result c.block-item.is c.as_slice.ensures in
    record {
      spelled = subst AreItemsSpelled (sym is) (block_holds homes blocks i c.block-item.result c.loop-block-test.true (λ (b : CodeBlock). AreItemsSpelled b.items) c.requires.spelled);
      few = room_here homes blocks i c.block-item.result c.loop-block-test.true (map (placed_item homes) c.as_slice.result.now) (length c.loop-block.out.items) _ _ _ is c.loop-block.invariant.few c.requires.few;
    }

pub loop-block-preserved : goal.loop-block-preserved
loop-block-preserved c =
    let homes = c.args.homes.now in
    let blocks = c.args.blocks.now in
    let i = c.loop-block.block-index in
    let items = map (placed_item homes) c.as_slice.result.now in
    let is = items_read homes blocks c.as_slice.result.now i c.block-item.result c.block-item.is c.as_slice.ensures in
    record {
      whole = blocks_go_on homes blocks (places_in c.args.places.now) i c.block-item.result items c.loop-block.out.items c.push_items.new.out.items _ c.loop-block-test.true is c.in_ok-push_items.ensures.text c.loop-block.invariant.whole;
      few = room_step_up homes blocks i c.block-item.result c.loop-block-test.true items (length c.loop-block.out.items) (length c.push_items.new.out.items) _ is c.in_ok-push_items.ensures.short c.loop-block.invariant.few;
    }

pub returns-clause-text : goal.returns-clause-text
returns-clause-text c = blocks_done c.args.homes.now c.args.blocks.now (places_in c.args.places.now) c.loop-block.block-index c.loop-block.out.items _ c.loop-block-test.false c.loop-block.invariant.whole
