use Rattle.std.proofs.Common.{arith, map, sym, subst}
use Rattle.std.proofs.lemmas.Bool.{lt-leb, le-leb}
use Rattle.named_code.specs.Items.{CodeBlock, placed_item}
use Rattle.code_text.specs.Placing.{items_most}
use Rattle.code_text.specs.Sizes.{AreItemsSpelled}
use Rattle.code_text.proofs.Walking.{items_read, block_holds, room_step, room_over, room_enough, room_none, blocks_most_end}
use Rattle.code_text.proofs.sizes.have_room.Goals as goal

pub room_behind-requires : goal.room_behind-requires
room_behind-requires c =
    let is = items_read c.args.homes.now c.args.blocks.now c.as_slice.result.now c.loop-block.block-index c.block-item.result c.block-item.is c.as_slice.ensures in
    subst AreItemsSpelled (sym is) (block_holds c.args.homes.now c.args.blocks.now c.loop-block.block-index c.block-item.result c.loop-block-test.true (λ (b : CodeBlock). AreItemsSpelled b.items) c.requires)

pub returns-in-None : goal.returns-in-None
returns-in-None c =
    let items = map (placed_item c.args.homes.now) c.as_slice.result.now in
    let is = items_read c.args.homes.now c.args.blocks.now c.as_slice.result.now c.loop-block.block-index c.block-item.result c.block-item.is c.as_slice.ensures in
    let over = room_none (items_most items) c.loop-block.left c.in-None.ensures in
    sym (lt-leb _ _ (room_over c.args.homes.now c.args.blocks.now c.loop-block.block-index c.block-item.result c.loop-block-test.true items c.args.room c.loop-block.left _ is over c.loop-block.invariant.taken))

pub loop-block-preserved : goal.loop-block-preserved
loop-block-preserved c =
    let items = map (placed_item c.args.homes.now) c.as_slice.result.now in
    let is = items_read c.args.homes.now c.args.blocks.now c.as_slice.result.now c.loop-block.block-index c.block-item.result c.block-item.is c.as_slice.ensures in
    let enough = room_enough (items_most items) c.loop-block.left c.in-Some.rest c.in-Some.ensures in
    record {
      taken = room_step c.args.homes.now c.args.blocks.now c.loop-block.block-index c.block-item.result c.loop-block-test.true items c.args.room c.loop-block.left c.in-Some.rest _ is enough.0 enough.1 c.loop-block.invariant.taken;
      within = omega (arith, enough.1, c.loop-block.invariant.within);
    }

pub returns : goal.returns
returns c =
    let end = blocks_most_end c.args.homes.now c.args.blocks.now c.loop-block.block-index c.loop-block-test.false in
    sym (le-leb _ _ (omega (arith, end, c.loop-block.invariant.taken, c.loop-block.invariant.within)))
