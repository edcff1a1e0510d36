use Rattle.std.proofs.Common.{◌+◌, [], ◌∷◌, refl, ap, ◌∙◌}
use Rattle.x86_values.specs.Words.{known}
use Rattle.memory.specs.Memory.{wrapped}
use Rattle.mem_pages.specs.Contents.{memory_in}
use Rattle.x86_types.specs.declared.instr.Instr.TheVariants as instr
use Rattle.x86_meaning.specs.Operands.{InMemory}
use Rattle.x86_step.specs.Steps.{registers_of}
use Rattle.x86_step.specs.declared.outcome.Way.TheVariants.{JumpsTo}
use Rattle.x86_meaning.specs.Outcomes as outcomes
use Rattle.x86_step.proofs.DirectForms.{return_made}
use Rattle.x86_step.proofs.DirectReads.{esp_and_read}
use Rattle.x86_step.proofs.FlowForms.{ret_form}
use Rattle.x86_step.proofs.direct_stack.ret.Goals as goal

pub returns-in-Some-number_in-clause-fast : goal.returns-in-Some-number_in-clause-fast
returns-in-Some-number_in-clause-fast c =
    let a = c.args in
    let d = a.cpu.now in
    let m = memory_in a.mem.now in
    let regs = registers_of d.regs in
    let next = wrapped (d.eip + a.len) in
    let e = c.word_in-esp.result in
    let is = c.word_in-esp.ensures in
    let there = c.in-Some.ensures ∙ ap known is in
    let r = c.make_register in
    let high = c.in-Some-raised.high in
    let w = c.in-Some-load.word in
    let target = c.in-Some-number_in.target in
    let k = outcomes.computed (high ∷ []) d.flags (outcomes.JumpsTo target) in
    return_made c.step_laws.ensures (instr.Ret a.drop) high (JumpsTo target) a.len r.result d r.new.cpu m (memory_in r.new.mem) refl r.ensures.made
    (ret_form a.drop next d m c.in-Some.at (e ∷ w ∷ []) k there (esp_and_read e w (InMemory c.in-Some.at) regs m is c.in-Some-load.ensures) (ap (λ x. outcomes.computed (x ∷ []) d.flags (outcomes.JumpsTo target)) c.in-Some-raised.ensures ∙ ap (λ o. outcomes.goes_to (outcomes.raised_by (4 + a.drop) e ∷ []) o d.flags) c.in-Some-number_in.ensures))
