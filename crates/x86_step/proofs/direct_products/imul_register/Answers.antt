use Rattle.std.proofs.Common.{◌+◌, [], ◌∷◌, Some, ap, ◌∙◌}
use Rattle.memory.specs.Memory.{wrapped}
use Rattle.mem_pages.specs.Contents.{memory_in}
use Rattle.x86_types.specs.declared.instr.Instr.TheVariants as instr
use Rattle.x86_types.specs.declared.width.Width.TheVariants.{Four}
use Rattle.x86_step.specs.Judged.{with_value}
use Rattle.x86_step.specs.Steps.{registers_of}
use Rattle.x86_step.proofs.DirectForms.{register_made}
use Rattle.x86_types.specs.Numbers.{number_of_reg}
use Rattle.x86_step.proofs.OneForms.{imul_form}
use Rattle.x86_step.proofs.direct_products.imul_register.Goals as goal

pub returns-in-Some-product_of-clause-fast : goal.returns-in-Some-product_of-clause-fast
returns-in-Some-product_of-clause-fast c =
    let a = c.args in
    let d = a.cpu.now in
    let m = memory_in a.mem.now in
    let r = c.make_register in
    let x = c.word_in-x.result in
    let y = c.in-Some.y in
    let has = c.in-Some.ensures in
    let half = c.in-Some-product_of.half in
    register_made c.step_laws.ensures (instr.Imul Four a.to a.from) a.to half.low half.flags a.len r.result d r.new.cpu m (memory_in r.new.mem) r.ensures.made
    (imul_form Four a.to a.from (wrapped (d.eip + a.len)) d m has.at (x ∷ y ∷ []) _ has.there (ap (λ w. Some (w ∷ y ∷ [])) c.word_in-x.ensures ∙ ap (λ o. with_value (Some (registers_of d.regs (number_of_reg a.to))) (with_value o (Some []))) has.value) c.in-Some-product_of.ensures)
