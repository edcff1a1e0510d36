use Rattle.std.proofs.Common.{◌+◌, [], ◌∷◌, ap, ◌∙◌}
use Rattle.memory.specs.Memory.{wrapped}
use Rattle.mem_pages.specs.Contents.{memory_in}
use Rattle.x86_types.specs.declared.instr.Instr.TheVariants as instr
use Rattle.x86_meaning.specs.Effect.{effect_of}
use Rattle.x86_step.specs.Computed.{computation_of, values_of}
use Rattle.x86_step.specs.Steps.{registers_of}
use Rattle.x86_step.specs.Transferred.{operand_of}
use Rattle.x86_step.proofs.Made.{performs}
use Rattle.x86_step.proofs.FlowForms.{ret_form}
use Rattle.x86_step.proofs.fast_flow.ret_at.Goals as goal

pub returns-in-Some-clause-fast : goal.returns-in-Some-clause-fast
returns-in-Some-clause-fast c =
    let a = c.args in
    let d = a.cpu.now in
    let m = memory_in a.mem.now in
    let k = computation_of c.ret_computed-made.result in
    let r = c.perform in
    performs c.step_laws.ensures (instr.Ret a.drop) (operand_of c.operand.result ∷ []) k a.len r.result d r.new.cpu m (memory_in r.new.mem) r.ensures.performs
    (ap (λ o. effect_of (o ∷ []) (registers_of d.regs) k) c.operand.ensures ∙ ret_form a.drop (wrapped (d.eip + a.len)) d m a.at (values_of c.in-Some.values) k c.requires c.in-Some.ensures c.ret_computed-made.ensures.exact)
