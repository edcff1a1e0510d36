use Rattle.std.proofs.Common.{◌+◌, [], ◌∷◌, refl, ap, ◌∙◌}
use Rattle.x86_values.specs.Words.{known}
use Rattle.memory.specs.Memory.{wrapped}
use Rattle.mem_pages.specs.Contents.{memory_in}
use Rattle.x86_types.specs.declared.instr.Instr.TheVariants as instr
use Rattle.x86_meaning.specs.Effect.{effect_of}
use Rattle.x86_meaning.specs.TransferShapes.{esp, stack_word}
use Rattle.x86_step.specs.Steps.{registers_of}
use Rattle.x86_step.specs.declared.outcome.Way.TheVariants.{Falls}
use Rattle.x86_meaning.specs.Outcomes as outcomes
use Rattle.x86_step.proofs.DirectForms.{push_made}
use Rattle.x86_step.proofs.DirectReads.{esp_and_read}
use Rattle.x86_step.proofs.FlowForms.{push_form}
use Rattle.x86_step.proofs.direct_stack.push.Goals as goal

pub returns-in-Some-word_from-clause-fast : goal.returns-in-Some-word_from-clause-fast
returns-in-Some-word_from-clause-fast c =
    let a = c.args in
    let d = a.cpu.now in
    let m = memory_in a.mem.now in
    let regs = registers_of d.regs in
    let next = wrapped (d.eip + a.len) in
    let e = c.word_in-esp.result in
    let is = c.word_in-esp.ensures in
    let there = c.in-Some.ensures ∙ ap known is in
    let r = c.make_push in
    let low = c.in-Some-lowered.low in
    let w = c.in-Some-word_from.word in
    let has = c.in-Some-word_from.ensures in
    let k = outcomes.computed (w ∷ low ∷ []) d.flags outcomes.Falls in
    push_made c.step_laws.ensures (instr.Push a.from) c.down.result w low Falls a.len r.result d r.new.cpu m (memory_in r.new.mem) refl r.ensures.made
    (ap (λ x. effect_of (stack_word x ∷ esp ∷ []) regs k) c.down.ensures ∙ push_form a.from next d m has.at c.in-Some.at (e ∷ w ∷ []) k has.there there (esp_and_read e w has.at regs m is has.value) (ap (λ x. outcomes.computed (w ∷ x ∷ []) d.flags outcomes.Falls) c.in-Some-lowered.ensures))
