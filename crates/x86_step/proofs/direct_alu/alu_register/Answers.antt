use Rattle.std.proofs.Common.{◌+◌, [], ◌∷◌, refl, sym, ◌∙◌}
use Rattle.memory.specs.Memory.{wrapped}
use Rattle.mem_pages.specs.Contents.{memory_in}
use Rattle.x86_types.specs.declared.instr.Instr.TheVariants as instr
use Rattle.x86_types.specs.declared.operand.Rm.TheVariants as rm
use Rattle.x86_types.specs.declared.width.Width.TheVariants.{Four}
use Rattle.x86_types.specs.Numbers.{number_of_reg}
use Rattle.x86_meaning.specs.Operands.{InRegister}
use Rattle.x86_step.specs.Steps.{registers_of}
use Rattle.x86_meaning.specs.Operands.{operand}
use Rattle.x86_step.specs.Direct.{answer_of}
use Rattle.x86_step.proofs.Made.{performs}
use Rattle.x86_step.proofs.DirectReads.{both_read}
use Rattle.x86_step.proofs.FastForms.{alu_form}
use Rattle.x86_step.proofs.direct_alu.alu_register.Goals as goal

pub returns-in-Some-alu_answer-clause-fast : goal.returns-in-Some-alu_answer-clause-fast
returns-in-Some-alu_answer-clause-fast c =
    let a = c.args in
    let d = a.cpu.now in
    let m = memory_in a.mem.now in
    let r = c.answer_to in
    let x = c.word_in-x.result in
    let y = c.in-Some.y in
    let has = c.in-Some.ensures in
    let other = sym c.cancels_itself.ensures ∙ c.if-cancels_itself.false in
    performs c.step_laws.ensures (instr.Alu a.op Four (rm.Reg a.to) a.from) (operand 4 (InRegister (number_of_reg a.to) 0) ∷ []) (answer_of a.op c.in-Some-alu_answer.answered) a.len r.result d r.new.cpu m (memory_in r.new.mem) r.ensures.performs
    (alu_form a.op Four (rm.Reg a.to) a.from (wrapped (d.eip + a.len)) d m (InRegister (number_of_reg a.to) 0) has.at (x ∷ y ∷ []) _ refl has.there (both_read a.op a.to a.from x y (registers_of d.regs) m has c.word_in-x.ensures other) (sym (c.in-Some-alu_answer.ensures d.flags)))
