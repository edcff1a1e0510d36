use Rattle.std.proofs.Common.{◌+◌, [], ◌∷◌, Some, ap, ◌∙◌}
use Rattle.memory.specs.Memory.{wrapped}
use Rattle.mem_pages.specs.Contents.{memory_in}
use Rattle.x86_types.specs.declared.instr.Instr.TheVariants as instr
use Rattle.x86_types.specs.declared.width.Width.TheVariants.{Four}
use Rattle.x86_step.specs.Judged.{with_value}
use Rattle.x86_step.proofs.DirectForms.{register_made}
use Rattle.x86_values.specs.Words.{word_of}
use Rattle.x86_step.proofs.DirectProducts.{imul_by_form}
use Rattle.x86_step.proofs.direct_products.imul_by.Goals as goal

pub returns-in-Some-product_of-clause-fast : goal.returns-in-Some-product_of-clause-fast
returns-in-Some-product_of-clause-fast c =
    let a = c.args in
    let d = a.cpu.now in
    let m = memory_in a.mem.now in
    let r = c.make_register in
    let x = c.in-Some.x in
    let y = c.word_with-y.result in
    let has = c.in-Some.ensures in
    let half = c.in-Some-product_of.half in
    register_made c.step_laws.ensures (instr.ImulBy Four a.to a.from a.by) a.to half.low half.flags a.len r.result d r.new.cpu m (memory_in r.new.mem) r.ensures.made
    (imul_by_form Four a.to a.from a.by (wrapped (d.eip + a.len)) d m has.at (x ∷ y ∷ []) _ has.there (ap (λ w. Some (x ∷ w ∷ [])) c.word_with-y.ensures ∙ ap (λ o. with_value o (Some (word_of a.by ∷ []))) has.value) c.in-Some-product_of.ensures)
