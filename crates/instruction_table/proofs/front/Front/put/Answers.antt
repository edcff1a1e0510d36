use Rattle.std.proofs.Common.{◌≡◌, sym, ◌∙◌, [], ◌∷◌, length, arith, length-take}
use Rattle.std.proofs.lemmas.List.{take_all, take-append-le}
use Rattle.instruction_table.proofs.front.Front.put.Goals as goal

pub returns-else-self-lt-KEPT : goal.returns-else-self-lt-KEPT
returns-else-self-lt-KEPT c =
    let kept = length-take c.self.inside.count c.self.inside.bytes in
    let few = c.self.invariant in
    let whole : length c.args.self.now ≡ 16 = rw (← c.self.view_is) (omega (arith, kept, few, c.self.told, c.if-self-lt-KEPT.false)) in
    sym (take-append-le 16 c.args.self.now (c.args.byte ∷ []) (omega (arith, whole)) ∙ take_all 16 c.args.self.now (omega (arith, whole)))
