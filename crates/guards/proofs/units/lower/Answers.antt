use Rattle.std.proofs.Common.{◌≡◌, true, List, map, sym, ap, ◌∙◌, subst}
use Rattle.flag_ir.specs.declared.block.Block.{Block}
use Rattle.flag_ir.specs.Entering.{CodeUnit}
use Rattle.guards.specs.Renumbering.{renumbered_block, renumbered_unit}
use Rattle.guards.specs.Guarding.{guarded_block, has_loose_stop, guarded_unit, AreAddresses}
use Rattle.guards.specs.Lowering.{Lowers}
use Rattle.guards.proofs.Shaping.{addresses_kept}
use Rattle.guards.proofs.RenumberedUnits.{addresses_old}
use Rattle.guards.proofs.units.lower.Goals as goal

pub returns : goal.returns
returns c =
    let new : List Block = map renumbered_block c.args.unit.whole in
    let items : c.in_ok-blocks.blocks.items ≡ new = c.in_ok-blocks.ensures ∙ ap (map renumbered_block) c.as_slice.ensures in
    let blocks : c.deref.result.now ≡ new = c.deref.ensures.value ∙ items in
    let blocks' : c.deref-2.result.now ≡ new = c.deref-2.ensures.value ∙ items in
    let loose : c.has_loose_stop-loose.result ≡ has_loose_stop new = c.has_loose_stop-loose.ensures ∙ ap has_loose_stop blocks in
    let whole : c.in_ok-whole.whole ≡ map (guarded_block (has_loose_stop new)) new = c.in_ok-whole.ensures.guarded ∙ (λ i. map (guarded_block (loose i)) (blocks' i)) in
    let procs = c.new-2.ensures ∙ c.new.ensures.items in
    let made : guarded_unit (renumbered_unit c.args.unit) ≡ (let v : CodeUnit = record { lowered = true; whole = c.in_ok-whole.whole; procs = c.new-2.result } in v) = λ i. record { lowered = true; whole = sym whole i; procs = sym procs i } in
    let addresses : AreAddresses c.args.unit.whole = addresses_old c.args.unit.whole (addresses_kept (has_loose_stop new) new (subst AreAddresses whole c.in_ok-whole.ensures.addresses)) in
    subst (Lowers c.args.unit) made (c.lowering_law.ensures c.args.unit c.requires.form c.requires.shape c.requires.«open» c.requires.whole c.requires.few addresses)
