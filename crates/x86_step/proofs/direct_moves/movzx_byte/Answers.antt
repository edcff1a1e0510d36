use Rattle.std.proofs.Common.{◌+◌, [], ◌∷◌, Some, refl, ap}
use Rattle.memory.specs.Memory.{wrapped}
use Rattle.mem_pages.specs.Contents.{memory_in}
use Rattle.x86_types.specs.declared.instr.Instr.TheVariants as instr
use Rattle.x86_types.specs.declared.operand.Rm.TheVariants as rm
use Rattle.x86_types.specs.declared.width.Width.TheVariants.{One, Four}
use Rattle.x86_meaning.specs.Operands.{InMemory}
use Rattle.std.specs.Option.{option_map}
use Rattle.x86_step.specs.Judged.{with_value}
use Rattle.x86_step.proofs.DirectForms.{register_made}
use Rattle.x86_step.proofs.OneForms.{movzx_form}
use Rattle.x86_step.proofs.direct_moves.movzx_byte.Goals as goal

pub returns-in-Some-load-clause-fast : goal.returns-in-Some-load-clause-fast
returns-in-Some-load-clause-fast c =
    let a = c.args in
    let d = a.cpu.now in
    let m = memory_in a.mem.now in
    let next = wrapped (d.eip + a.len) in
    let r = c.make_move in
    let w = c.in-Some-load.word in
    register_made c.step_laws.ensures (instr.Movzx Four One a.to (rm.Mem a.from)) a.to w d.flags a.len r.result d r.new.cpu m (memory_in r.new.mem) r.ensures.made (movzx_form Four One a.to (rm.Mem a.from) next d m (InMemory c.in-Some.at) (w ∷ []) _ (ap (option_map InMemory) c.in-Some.ensures) (ap (λ o. with_value o (Some [])) c.in-Some-load.ensures) refl)
