use Rattle.std.proofs.Common.{◌≡◌, List, length, slice_get, refl, sym, ap, ◌∙◌, arith}
use Rattle.std.proofs.lemmas.Option.{slice_get-get_or}
use Rattle.mem_pages.specs.Contents.{memory_in}
use Rattle.flag_ir.specs.declared.operation.Op.{Op}
use Rattle.unit_machine.proofs.Moving.{tells_acts, tells_last, tells_leaves, tells_left, placed_at}
use Rattle.unit_machine.proofs.step.act.Goals as goal

pub returns-in-Ok-None-clause-moves : goal.returns-in-Ok-None-clause-moves
returns-in-Ok-None-clause-moves g c =
    let h = rw c.in-Ok-None.field-0-is at c.in-Ok-None.ensures.performs in
    tells_acts c.args.unit.now c.args.block.now c.args.at.now (memory_in c.args.pages.now) _ _ _ c.perform.new.values (memory_in c.perform.new.pages) c.requires.here
    (ap (λ (xs : List Op). slice_get xs c.args.at.now.op) (sym c.as_slice-ops.ensures) ∙ slice_get-get_or c.as_slice-ops.result.now c.args.at.now.op _ c.if-at-ops.true) h

pub returns-in-Ok-Some-clause-moves : goal.returns-in-Ok-Some-clause-moves
returns-in-Ok-Some-clause-moves g c =
    let h = rw c.in-Ok-Some.field-0-is at c.in-Ok-Some.ensures.performs in
    tells_last c.args.unit.now c.args.block.now c.args.at.now (memory_in c.args.pages.now) _ _ _ c.in-Ok-Some.end c.perform.new.values (memory_in c.perform.new.pages) c.args.at.now
    (ap (λ (xs : List Op). slice_get xs c.args.at.now.op) (sym c.as_slice-ops.ensures) ∙ slice_get-get_or c.as_slice-ops.result.now c.args.at.now.op _ c.if-at-ops.true) h

pub returns-in-To-clause-moves : goal.returns-in-To-clause-moves
returns-in-To-clause-moves g c =
    let len : length c.as_slice-ops.result.now ≡ length c.args.block.now.ops = ap length c.as_slice-ops.ensures in
    tells_leaves c.args.unit.now c.args.block.now c.args.at.now (memory_in c.args.pages.now) (g.H.Host.told c.args.host.now) c.in-To.place (omega (arith, c.if-at-ops.false, len)) c.in-To.ensures.leaves

pub returns-in-To-clause-placed : goal.returns-in-To-clause-placed
returns-in-To-clause-placed g c _ = placed_at c.args.unit.now c.args.block.now _ refl c.in-To.ensures.there

pub returns-in-Ended-clause-moves : goal.returns-in-Ended-clause-moves
returns-in-Ended-clause-moves g c =
    let len : length c.as_slice-ops.result.now ≡ length c.args.block.now.ops = ap length c.as_slice-ops.ensures in
    tells_left c.args.unit.now c.args.block.now c.args.at.now (memory_in c.args.pages.now) (g.H.Host.told c.args.host.now) c.in-Ended.end c.args.at.now (omega (arith, c.if-at-ops.false, len)) c.in-Ended.ensures.leaves
