use Rattle.std.proofs.Common.{◌≡◌, ◌+◌, ap₂, length, map, subst, arith}
use Rattle.named_code.specs.Items.{placed_block, placed_blocks}
use Rattle.code_text.specs.KeptPlaces.{places_in, code_start, GoesOn}
use Rattle.code_text.specs.Texts.{stores_text}
use Rattle.code_text.proofs.Adding.{placed_all}
use Rattle.code_text.proofs.placing.places_of.Goals as goal

pub returns : goal.returns
returns c =
    let stop = 1610612736 + c.stores_size.result + 5 in
    let at : stop ≡ code_start + length (stores_text c.args.cell) + 5 = omega (arith, c.stores_size.ensures.size) in
    let old = places_in c.in_ok-places.places in
    let new = places_in c.add_blocks.new.places in
    let goes : GoesOn old new (stop + 2) (placed_blocks c.args.placed.now) = subst (GoesOn old new (stop + 2)) (ap₂ (λ homes bs. map (placed_block homes) bs) c.as_slice.ensures c.as_slice-2.ensures) c.in_ok-add_blocks.ensures in
    placed_all c.size_laws.ensures c.in_ok-places.places c.add_blocks.new.places c.args.cell c.args.span c.args.count stop (placed_blocks c.args.placed.now) c.in_ok-places.ensures goes at
