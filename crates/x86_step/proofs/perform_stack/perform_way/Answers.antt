use Rattle.std.proofs.Common.{[], None, refl}
use Rattle.mem_pages.specs.Contents.{memory_in}
use Rattle.x86_meaning.specs.Outcomes.{computed}
use Rattle.x86_step.specs.Computed.{way_of}
use Rattle.x86_step.specs.Steps.{registers_of}
use Rattle.x86_step.proofs.Made.{made_performs}
use Rattle.x86_step.proofs.perform_stack.perform_way.Goals as goal

pub returns-clause-performs : goal.returns-clause-performs
returns-clause-performs c =
    let a = c.args in
    let regs = registers_of a.cpu.now.regs in
    let made = c.make_flags in
    made_performs ([]) (computed ([]) a.flags (way_of a.way)) (regs) a.flags (None) a.way a.len made.result a.cpu.now made.new.cpu (memory_in a.mem.now) (memory_in made.new.mem) made.ensures.made c.requires.no_call refl
