use Rattle.std.proofs.Common.{◌+◌, [], ◌∷◌, Some, refl, ap}
use Rattle.memory.specs.Memory.{wrapped}
use Rattle.mem_pages.specs.Contents.{memory_in}
use Rattle.x86_types.specs.declared.instr.Instr.TheVariants as instr
use Rattle.x86_types.specs.declared.width.Width.TheVariants.{Four}
use Rattle.x86_step.proofs.DirectForms.{register_made}
use Rattle.x86_step.proofs.FlowForms.{lea_form}
use Rattle.x86_step.proofs.direct_moves.lea_register.Goals as goal

pub returns-in-Some-clause-fast : goal.returns-in-Some-clause-fast
returns-in-Some-clause-fast c =
    let a = c.args in
    let d = a.cpu.now in
    let m = memory_in a.mem.now in
    let next = wrapped (d.eip + a.len) in
    let r = c.make_move in
    let w = c.word_with.result in
    register_made c.step_laws.ensures (instr.Lea Four a.to a.from) a.to w d.flags a.len r.result d r.new.cpu m (memory_in r.new.mem) r.ensures.made (lea_form Four a.to a.from next d m c.in-Some.at (w ∷ []) _ c.in-Some.ensures (ap (λ x. Some (x ∷ [])) c.word_with.ensures) refl)
