use Rattle.std.proofs.Common.{◌+◌, [], ◌∷◌, refl, ap, ◌∙◌}
use Rattle.x86_values.specs.Words.{known}
use Rattle.memory.specs.Memory.{wrapped}
use Rattle.mem_pages.specs.Contents.{memory_in}
use Rattle.x86_types.specs.declared.instr.Instr.TheVariants as instr
use Rattle.x86_types.specs.declared.operand.Rm.TheVariants as rm
use Rattle.x86_meaning.specs.Operands.{InMemory}
use Rattle.x86_step.specs.Steps.{registers_of}
use Rattle.x86_step.specs.declared.outcome.Way.TheVariants.{Falls}
use Rattle.x86_meaning.specs.Outcomes as outcomes
use Rattle.x86_step.proofs.DirectForms.{pop_made}
use Rattle.x86_step.proofs.DirectReads.{esp_and_read}
use Rattle.x86_step.proofs.FlowForms.{pop_form}
use Rattle.x86_step.proofs.direct_stack.pop_register.Goals as goal

pub returns-in-Some-load-clause-fast : goal.returns-in-Some-load-clause-fast
returns-in-Some-load-clause-fast c =
    let a = c.args in
    let d = a.cpu.now in
    let m = memory_in a.mem.now in
    let regs = registers_of d.regs in
    let next = wrapped (d.eip + a.len) in
    let e = c.word_in-esp.result in
    let is = c.word_in-esp.ensures in
    let there = c.in-Some.ensures ∙ ap known is in
    let r = c.make_pop in
    let high = c.in-Some-raised.high in
    let w = c.in-Some-load.word in
    let k = outcomes.computed (high ∷ w ∷ []) d.flags outcomes.Falls in
    pop_made c.step_laws.ensures (instr.Pop (rm.Reg a.to)) a.to w high a.len r.result d r.new.cpu m (memory_in r.new.mem) r.ensures.made
    (pop_form a.to next d m c.in-Some.at (e ∷ w ∷ []) k there (esp_and_read e w (InMemory c.in-Some.at) regs m is c.in-Some-load.ensures) (ap (λ x. outcomes.computed (x ∷ w ∷ []) d.flags outcomes.Falls) c.in-Some-raised.ensures))
