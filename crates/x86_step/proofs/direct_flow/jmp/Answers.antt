use Rattle.std.proofs.Common.{◌+◌, refl}
use Rattle.memory.specs.Memory.{wrapped}
use Rattle.mem_pages.specs.Contents.{memory_in}
use Rattle.x86_types.specs.declared.instr.Instr.TheVariants as instr
use Rattle.x86_step.specs.declared.outcome.Way.TheVariants.{JumpsBy}
use Rattle.x86_step.proofs.DirectForms.{way_made}
use Rattle.x86_step.proofs.FlowForms.{jmp_form}
use Rattle.x86_step.proofs.direct_flow.jmp.Goals as goal

pub returns-clause-fast : goal.returns-clause-fast
returns-clause-fast c =
    let a = c.args in
    let d = a.cpu.now in
    let m = memory_in a.mem.now in
    let next = wrapped (d.eip + a.len) in
    let r = c.make_way in
    way_made c.step_laws.ensures (instr.Jmp a.by) (JumpsBy a.by) a.len r.result d r.new.cpu m (memory_in r.new.mem) refl r.ensures.made (jmp_form a.by next d m)
