use Rattle.std.proofs.Common.{◌+◌, [], ◌∷◌, refl, ap, ◌∙◌}
use Rattle.x86_values.specs.Words.{known, word_of}
use Rattle.memory.specs.Memory.{wrapped}
use Rattle.mem_pages.specs.Contents.{memory_in}
use Rattle.x86_types.specs.declared.instr.Instr.TheVariants as instr
use Rattle.x86_meaning.specs.Effect.{effect_of}
use Rattle.x86_meaning.specs.TransferShapes.{esp, stack_word}
use Rattle.x86_step.specs.Steps.{registers_of}
use Rattle.x86_step.specs.declared.outcome.Way.TheVariants.{JumpsBy}
use Rattle.x86_meaning.specs.Outcomes as outcomes
use Rattle.x86_step.proofs.DirectForms.{push_made}
use Rattle.x86_step.proofs.DirectReads.{esp_read}
use Rattle.x86_step.proofs.FlowForms.{call_form}
use Rattle.x86_step.proofs.direct_stack.call.Goals as goal

pub returns-in-Some-lowered-clause-fast : goal.returns-in-Some-lowered-clause-fast
returns-in-Some-lowered-clause-fast c =
    let a = c.args in
    let d = a.cpu.now in
    let m = memory_in a.mem.now in
    let regs = registers_of d.regs in
    let next = wrapped (d.eip + a.len) in
    let e = c.word_in-esp.result in
    let is = c.word_in-esp.ensures in
    let there = c.in-Some.ensures ∙ ap known is in
    let r = c.make_push in
    let low = c.in-Some-lowered.low in
    let w = c.word_with-next.result in
    let k = outcomes.computed (w ∷ low ∷ []) d.flags (outcomes.JumpsBy a.by) in
    push_made c.step_laws.ensures (instr.Call a.by) c.down.result w low (JumpsBy a.by) a.len r.result d r.new.cpu m (memory_in r.new.mem) refl r.ensures.made
    (ap (λ x. effect_of (stack_word x ∷ esp ∷ []) regs k) c.down.ensures ∙ call_form a.by next d m c.in-Some.at (e ∷ []) k there (esp_read e regs m is) (ap (λ x. outcomes.computed (w ∷ x ∷ []) d.flags (outcomes.JumpsBy a.by)) c.in-Some-lowered.ensures ∙ ap (λ x. outcomes.computed (x ∷ outcomes.lowered_by 4 e ∷ []) d.flags (outcomes.JumpsBy a.by)) (c.word_with-next.ensures ∙ ap word_of c.behind.ensures)))
