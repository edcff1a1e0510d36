use Rattle.std.proofs.Common.{◌+◌, Some, refl, sym, ap, ◌∙◌}
use Rattle.memory.specs.Memory.{wrapped}
use Rattle.mem_pages.specs.Contents.{memory_in}
use Rattle.x86_types.specs.declared.instr.Instr.TheVariants as instr
use Rattle.x86_step.specs.declared.outcome.Way.TheVariants.{Falls, JumpsBy}
use Rattle.x86_step.proofs.DirectForms.{way_made}
use Rattle.x86_step.proofs.FlowForms.{jumps_form, falls_form}
use Rattle.x86_step.proofs.direct_flow.jcc.Goals as goal

pub returns-then-holds-clause-fast : goal.returns-then-holds-clause-fast
returns-then-holds-clause-fast c =
    let a = c.args in
    let d = a.cpu.now in
    let m = memory_in a.mem.now in
    let next = wrapped (d.eip + a.len) in
    let r = c.make_way in
    way_made c.step_laws.ensures (instr.Jcc a.cond a.by) (JumpsBy a.by) a.len r.result d r.new.cpu m (memory_in r.new.mem) refl r.ensures.made (jumps_form a.cond a.by next d m (ap Some (sym c.if-holds.true) ∙ c.in-Some.ensures))

pub returns-else-holds-clause-fast : goal.returns-else-holds-clause-fast
returns-else-holds-clause-fast c =
    let a = c.args in
    let d = a.cpu.now in
    let m = memory_in a.mem.now in
    let next = wrapped (d.eip + a.len) in
    let r = c.make_way-else-holds in
    way_made c.step_laws.ensures (instr.Jcc a.cond a.by) Falls a.len r.result d r.new.cpu m (memory_in r.new.mem) refl r.ensures.made (falls_form a.cond a.by next d m (ap Some (sym c.if-holds.false) ∙ c.in-Some.ensures))
