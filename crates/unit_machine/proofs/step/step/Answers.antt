use Rattle.std.proofs.Common.{◌≡◌, ◌<◌, List, Some, length, slice_get, sym, ap, ◌∙◌, arith}
use Rattle.std.proofs.lemmas.Option.{slice_get-get_or, slice_get_within}
use Rattle.mem_pages.specs.Contents.{memory_in}
use Rattle.flag_ir.specs.declared.block.Block.{Block}
use Rattle.unit_machine.proofs.Moving.{tells_step}
use Rattle.unit_machine.proofs.step.step.Goals as goal

pub returns-clause-moves : goal.returns-clause-moves
returns-clause-moves g c =
    let within : c.args.at.now.block < length c.args.unit.now.whole = slice_get_within c.args.unit.now.whole c.args.at.now.block c.requires.placed.block c.requires.placed.there in
    let len : length c.as_slice.result.now ≡ length c.args.unit.now.whole = ap length c.as_slice.ensures in
    let few : c.args.at.now.block < length c.as_slice.result.now = omega (arith, within, len) in
    let here : slice_get c.args.unit.now.whole c.args.at.now.block ≡ Some c.index-as_slice-at.result =
    ap (λ (bs : List Block). slice_get bs c.args.at.now.block) (sym c.as_slice.ensures) ∙ slice_get-get_or c.as_slice.result.now c.args.at.now.block c.index-as_slice-at.result few ∙ ap Some (sym c.index-as_slice-at.is) in
    tells_step c.args.unit.now c.index-as_slice-at.result c.args.at.now c.begin.new.at (memory_in c.args.pages.now) here c.begin.ensures (g.H.Host.told c.args.host.now) (g.H.Host.told c.act.new.host) c.act.result c.act.new.at (memory_in c.act.new.pages) c.act.ensures.moves
