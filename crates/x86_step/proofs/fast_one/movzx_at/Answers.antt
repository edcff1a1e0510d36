use Rattle.std.proofs.Common.{◌+◌, [], ◌∷◌, ap, ◌∙◌}
use Rattle.memory.specs.Memory.{wrapped}
use Rattle.mem_pages.specs.Contents.{memory_in}
use Rattle.x86_types.specs.declared.instr.Instr.TheVariants as instr
use Rattle.x86_meaning.specs.Effect.{effect_of}
use Rattle.x86_step.specs.Computed.{computation_of, values_of}
use Rattle.x86_step.specs.Steps.{registers_of}
use Rattle.x86_step.specs.Transferred.{as_location, operand_of}
use Rattle.x86_step.proofs.Made.{performs}
use Rattle.x86_step.proofs.OneForms.{movzx_form}
use Rattle.x86_step.proofs.fast_one.movzx_at.Goals as goal

pub returns-in-Some-clause-fast : goal.returns-in-Some-clause-fast
returns-in-Some-clause-fast c =
    let a = c.args in
    let d = a.cpu.now in
    let m = memory_in a.mem.now in
    let k = computation_of c.move_computed-made.result in
    performs c.step_laws.ensures (instr.Movzx a.wide a.width a.reg a.to) (operand_of c.field_operand.result ∷ []) k a.len c.perform.result d c.perform.new.cpu m (memory_in c.perform.new.mem) c.perform.ensures.performs
    (ap (λ o. effect_of (o ∷ []) (registers_of d.regs) k) c.field_operand.ensures ∙ movzx_form a.wide a.width a.reg a.to (wrapped (d.eip + a.len)) d m (as_location a.to_at) (values_of c.in-Some.values) k c.requires c.in-Some.ensures c.move_computed-made.ensures.exact)
