use Rattle.std.proofs.Common.{◌+◌, [], ◌∷◌, refl}
use Rattle.memory.specs.Memory.{wrapped}
use Rattle.mem_pages.specs.Contents.{memory_in}
use Rattle.x86_types.specs.declared.instr.Instr.TheVariants as instr
use Rattle.x86_types.specs.declared.operand.Rm.TheVariants as rm
use Rattle.x86_types.specs.declared.width.Width.TheVariants.{Four}
use Rattle.x86_types.specs.Numbers.{number_of_reg}
use Rattle.x86_meaning.specs.Operands.{InRegister}
use Rattle.x86_step.specs.Steps.{registers_of}
use Rattle.x86_step.proofs.DirectForms.{register_made}
use Rattle.x86_step.proofs.DirectReads.{one_read}
use Rattle.x86_step.proofs.FastForms.{mov_form}
use Rattle.x86_step.proofs.direct_moves.mov_register.Goals as goal

pub returns-in-Some-clause-fast : goal.returns-in-Some-clause-fast
returns-in-Some-clause-fast c =
    let a = c.args in
    let d = a.cpu.now in
    let m = memory_in a.mem.now in
    let next = wrapped (d.eip + a.len) in
    let r = c.make_move in
    let w = c.in-Some.word in
    let has = c.in-Some.ensures in
    register_made c.step_laws.ensures (instr.Mov Four (rm.Reg a.to) a.from) a.to w d.flags a.len r.result d r.new.cpu m (memory_in r.new.mem) r.ensures.made (mov_form Four (rm.Reg a.to) a.from next d m (InRegister (number_of_reg a.to) 0) has.at (w ∷ []) _ refl has.there (one_read 4 _ w (registers_of d.regs) m has) refl)
