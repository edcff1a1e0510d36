use Rattle.std.proofs.Common.{◌+◌, [], ◌∷◌, ap, ◌∙◌}
use Rattle.memory.specs.Memory.{wrapped}
use Rattle.mem_pages.specs.Contents.{memory_in}
use Rattle.x86_types.specs.declared.instr.Instr.TheVariants as instr
use Rattle.x86_meaning.specs.Effect.{effect_of}
use Rattle.x86_meaning.specs.TransferShapes.{esp, stack_word}
use Rattle.x86_step.specs.Computed.{computation_of, values_of}
use Rattle.x86_step.specs.Steps.{registers_of}
use Rattle.x86_step.specs.Transferred.{as_location}
use Rattle.x86_step.proofs.Made.{performs}
use Rattle.x86_step.proofs.FlowForms.{push_form}
use Rattle.x86_step.proofs.fast_flow.push_at.Goals as goal

pub returns-in-Some-clause-fast : goal.returns-in-Some-clause-fast
returns-in-Some-clause-fast c =
    let a = c.args in
    let d = a.cpu.now in
    let m = memory_in a.mem.now in
    let k = computation_of c.push_computed-made.result in
    let r = c.perform_push in
    performs c.step_laws.ensures (instr.Push a.from) (stack_word c.down.result ∷ esp ∷ []) k a.len r.result d r.new.cpu m (memory_in r.new.mem) r.ensures.performs
    (ap (λ x. effect_of (stack_word x ∷ esp ∷ []) (registers_of d.regs) k) c.down.ensures ∙ push_form a.from (wrapped (d.eip + a.len)) d m (as_location a.from_at) a.at (values_of c.in-Some.values) k c.requires.from c.requires.esp c.in-Some.ensures c.push_computed-made.ensures.exact)
