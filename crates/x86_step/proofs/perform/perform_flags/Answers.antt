use Rattle.std.proofs.Common.{[], ◌∷◌, None, refl}
use Rattle.mem_pages.specs.Contents.{memory_in}
use Rattle.x86_meaning.specs.Outcomes.{computed}
use Rattle.x86_step.specs.Computed.{way_of}
use Rattle.x86_step.specs.Steps.{registers_of}
use Rattle.x86_step.specs.Transferred.{operand_of}
use Rattle.x86_step.proofs.Made.{made_performs}
use Rattle.x86_step.proofs.perform.perform_flags.Goals as goal

pub returns-clause-performs : goal.returns-clause-performs
returns-clause-performs c =
    let a = c.args in
    let made = c.make_flags in
    made_performs (operand_of a.to ∷ []) (computed [] a.flags (way_of a.way)) (registers_of a.cpu.now.regs) a.flags None a.way a.len made.result a.cpu.now made.new.cpu (memory_in a.mem.now) (memory_in made.new.mem) made.ensures.made c.requires.no_call refl
