use Rattle.mem_pages.specs.Contents.{memory_in}
use Rattle.x86_step.proofs.DirectForms.{flags_perform, register_answers}
use Rattle.x86_step.proofs.direct_alu.answer_to.Goals as goal

pub returns-in-Cmp-clause-performs : goal.returns-in-Cmp-clause-performs
returns-in-Cmp-clause-performs c =
    let a = c.args in
    let r = c.make_flags in
    rw c.in-Cmp.is (flags_perform a.to a.answered.flags a.len r.result a.cpu.now r.new.cpu (memory_in a.mem.now) (memory_in r.new.mem) r.ensures.made)

pub returns-in_default : goal.returns-in_default
returns-in_default c =
    let a = c.args in
    let r = c.make_register in
    record { performs = register_answers a.op a.to a.answered a.len r.result a.cpu.now r.new.cpu (memory_in a.mem.now) (memory_in r.new.mem) c.in_default.not-Cmp r.ensures.made; keeps = r.ensures.keeps }
