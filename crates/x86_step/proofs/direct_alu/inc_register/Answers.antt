use Rattle.std.proofs.Common.{◌+◌, [], ◌∷◌, false, Some, refl, ap, ◌∙◌}
use Rattle.memory.specs.Memory.{wrapped}
use Rattle.mem_pages.specs.Contents.{memory_in}
use Rattle.x86_types.specs.declared.instr.Instr.TheVariants as instr
use Rattle.x86_types.specs.declared.operand.Rm.TheVariants as rm
use Rattle.x86_types.specs.declared.width.Width.TheVariants.{Four}
use Rattle.x86_types.specs.Numbers.{number_of_reg}
use Rattle.x86_meaning.specs.Operands.{InRegister}
use Rattle.x86_meaning.specs.Outcomes.{value_and_flags, with_carry}
use Rattle.x86_values.specs.Sums.{add}
use Rattle.x86_step.proofs.DirectForms.{register_made}
use Rattle.x86_step.proofs.OneForms.{inc_form}
use Rattle.x86_step.proofs.direct_alu.inc_register.Goals as goal

pub returns-in-Some-clause-fast : goal.returns-in-Some-clause-fast
returns-in-Some-clause-fast c =
    let a = c.args in
    let d = a.cpu.now in
    let m = memory_in a.mem.now in
    let next = wrapped (d.eip + a.len) in
    let r = c.make_register in
    let x = c.word_in.result in
    let made = c.with_carry-made.result in
    register_made c.step_laws.ensures (instr.Inc Four (rm.Reg a.to)) a.to made.value made.flags a.len r.result d r.new.cpu m (memory_in r.new.mem) r.ensures.made
    (inc_form Four (rm.Reg a.to) next d m (InRegister (number_of_reg a.to) 0) (x ∷ []) _ refl (ap (λ w. Some (w ∷ [])) c.word_in.ensures)
    (ap value_and_flags (c.with_carry-made.ensures.exact ∙ ap (with_carry d.flags.cf) (c.in-Some.ensures ∙ ap (λ w. add 4 x w (Some false)) c.word_with.ensures))))
