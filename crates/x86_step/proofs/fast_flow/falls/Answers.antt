use Rattle.std.proofs.Common.{◌+◌, []}
use Rattle.memory.specs.Memory.{wrapped}
use Rattle.mem_pages.specs.Contents.{memory_in}
use Rattle.x86_types.specs.declared.instr.Instr.TheVariants as instr
use Rattle.x86_meaning.specs.Outcomes.{Falls, computed}
use Rattle.x86_step.proofs.Made.{performs}
use Rattle.x86_step.proofs.FlowForms.{falls_form}
use Rattle.x86_step.proofs.fast_flow.falls.Goals as goal

pub returns-clause-fast : goal.returns-clause-fast
returns-clause-fast c =
    let a = c.args in
    let d = a.cpu.now in
    let m = memory_in a.mem.now in
    let k = computed [] d.flags Falls in
    let r = c.perform_way in
    performs c.step_laws.ensures (instr.Jcc a.cond a.by) ([]) k a.len r.result d r.new.cpu m (memory_in r.new.mem) r.ensures.performs
    (falls_form a.cond a.by (wrapped (d.eip + a.len)) d m c.requires)
