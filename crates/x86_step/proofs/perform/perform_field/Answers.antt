use Rattle.std.proofs.Common.{[], ◌∷◌, None}
use Rattle.mem_pages.specs.Contents.{memory_in}
use Rattle.x86_types.specs.Numbers.{number_of_reg}
use Rattle.x86_meaning.specs.Outcomes.{computed}
use Rattle.x86_meaning.specs.Registers.{with_register}
use Rattle.x86_step.specs.Computed.{way_of}
use Rattle.x86_step.specs.Steps.{registers_of}
use Rattle.x86_step.specs.Transferred.{as_field}
use Rattle.x86_step.proofs.Made.{made_performs}
use Rattle.x86_step.proofs.Performing.{lowest_written, second_written}
use Rattle.x86_step.proofs.perform.perform_field.Goals as goal

pub returns-in-Lowest-clause-performs : goal.returns-in-Lowest-clause-performs
returns-in-Lowest-clause-performs c =
    let a = c.args in
    let r = c.in-Lowest.reg in
    let regs = registers_of a.cpu.now.regs in
    let word = c.with_lowest-word.result in
    let made = c.make_register in
    let eq = lowest_written a.to.size r a.to.place a.word c.register.result word a.flags a.way regs c.in-Lowest.is c.register.ensures c.with_lowest-word.ensures in
    made_performs (as_field a.to ∷ []) (computed (a.word ∷ []) a.flags (way_of a.way)) (with_register (number_of_reg r) word regs) a.flags None a.way a.len made.result a.cpu.now made.new.cpu (memory_in a.mem.now) (memory_in made.new.mem) made.ensures.made c.requires.no_call eq

pub returns-in-Second-clause-performs : goal.returns-in-Second-clause-performs
returns-in-Second-clause-performs c =
    let a = c.args in
    let r = c.in-Second.reg in
    let regs = registers_of a.cpu.now.regs in
    let word = c.with_second-word.result in
    let made = c.make_register-in-Second in
    let eq = second_written a.to.size r a.to.place a.word c.register-in-Second.result word a.flags a.way regs c.in-Second.is c.register-in-Second.ensures c.with_second-word.ensures in
    made_performs (as_field a.to ∷ []) (computed (a.word ∷ []) a.flags (way_of a.way)) (with_register (number_of_reg r) word regs) a.flags None a.way a.len made.result a.cpu.now made.new.cpu (memory_in a.mem.now) (memory_in made.new.mem) made.ensures.made c.requires.no_call eq
