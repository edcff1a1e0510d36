use Rattle.std.proofs.Common.{refl, ap, ◌∙◌, ◌++◌, length, arith}
use Rattle.code_text.specs.Texts.{stores_text}
use Rattle.code_text.proofs.Pushed.{beginning_short}
use Rattle.code_text.proofs.text.beginning.Goals as goal

pub push_jmp-requires : goal.push_jmp-requires
push_jmp-requires c =
    let stores = c.size_laws.ensures.stores c.args.cell (omega arith) in
    let whole = ap length (c.in_ok-push_stores.ensures ∙ ap (λ out. out ++ stores_text c.args.cell) c.new-out.ensures.items) in
    omega (arith, stores, whole)

pub returns-clause-short : goal.returns-clause-short
returns-clause-short c =
    let a = c.in_ok-push_stores.ensures ∙ ap (λ out. out ++ stores_text c.args.cell) c.new-out.ensures.items in
    beginning_short c.size_laws.ensures c.args.cell c.old_address.result c.push_stores.new.out.items c.push_jmp.new.out.items c.extend_from_slice.new.self.items _ (omega arith) a c.in_ok-push_jmp.ensures c.in_ok-extend_from_slice.ensures.items refl
