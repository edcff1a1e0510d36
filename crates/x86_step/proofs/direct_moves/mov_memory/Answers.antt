use Rattle.std.proofs.Common.{◌+◌, [], ◌∷◌, refl, ap}
use Rattle.memory.specs.Memory.{wrapped}
use Rattle.mem_pages.specs.Contents.{memory_in}
use Rattle.x86_types.specs.declared.instr.Instr.TheVariants as instr
use Rattle.x86_types.specs.declared.operand.Rm.TheVariants as rm
use Rattle.x86_types.specs.declared.width.Width.TheVariants.{Four}
use Rattle.x86_meaning.specs.Operands.{InMemory}
use Rattle.x86_step.specs.Steps.{registers_of}
use Rattle.x86_step.specs.declared.operand.Size.TheVariants as size
use Rattle.std.specs.Option.{option_map}
use Rattle.x86_step.proofs.DirectForms.{stored_made}
use Rattle.x86_step.proofs.DirectReads.{one_read}
use Rattle.x86_step.proofs.FastForms.{mov_form}
use Rattle.x86_step.proofs.direct_moves.mov_memory.Goals as goal

pub returns-in-Some-word_from-clause-fast : goal.returns-in-Some-word_from-clause-fast
returns-in-Some-word_from-clause-fast c =
    let a = c.args in
    let d = a.cpu.now in
    let m = memory_in a.mem.now in
    let next = wrapped (d.eip + a.len) in
    let r = c.make_stored in
    let w = c.in-Some-word_from.word in
    let has = c.in-Some-word_from.ensures in
    stored_made c.step_laws.ensures (instr.Mov Four (rm.Mem a.to) a.from) c.in-Some.at size.Four w a.len r.result d r.new.cpu m (memory_in r.new.mem) r.ensures.made (mov_form Four (rm.Mem a.to) a.from next d m (InMemory c.in-Some.at) has.at (w ∷ []) _ (ap (option_map InMemory) c.in-Some.ensures) has.there (one_read 4 _ w (registers_of d.regs) m has) refl)
