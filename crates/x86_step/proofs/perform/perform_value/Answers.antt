use Rattle.std.proofs.Common.{[], ◌∷◌, Some, None}
use Rattle.mem_pages.specs.Contents.{memory_in}
use Rattle.x86_meaning.specs.Outcomes.{computed}
use Rattle.x86_step.specs.Computed.{way_of}
use Rattle.x86_step.specs.Steps.{registers_of}
use Rattle.x86_step.specs.Transferred.{operand_of}
use Rattle.x86_step.proofs.Made.{made_performs}
use Rattle.x86_step.proofs.Performing.{memory_written, nothing_written}
use Rattle.x86_step.proofs.perform.perform_value.Goals as goal

pub returns-in-Register-clause-performs : goal.returns-in-Register-clause-performs
returns-in-Register-clause-performs c = rw c.in-Register.is c.perform_field.ensures.performs

pub returns-in-Memory-clause-performs : goal.returns-in-Memory-clause-performs
returns-in-Memory-clause-performs c =
    let a = c.args in
    let regs = registers_of a.cpu.now.regs in
    let made = c.make_store in
    let eq = memory_written a.to.size c.in-Memory.at a.to.location a.word a.flags a.way regs c.in-Memory.is in
    made_performs (operand_of a.to ∷ []) (computed (a.word ∷ []) a.flags (way_of a.way)) regs a.flags (Some (record { at = c.in-Memory.at; size = a.to.size; word = a.word })) a.way a.len made.result a.cpu.now made.new.cpu (memory_in a.mem.now) (memory_in made.new.mem) made.ensures.made c.requires.no_call eq

pub returns-in-Constant-clause-performs : goal.returns-in-Constant-clause-performs
returns-in-Constant-clause-performs c =
    let a = c.args in
    let regs = registers_of a.cpu.now.regs in
    let made = c.make_flags in
    let eq = nothing_written a.to.size c.in-Constant.field-0 a.to.location a.word a.flags a.way regs c.in-Constant.is in
    made_performs (operand_of a.to ∷ []) (computed (a.word ∷ []) a.flags (way_of a.way)) regs a.flags None a.way a.len made.result a.cpu.now made.new.cpu (memory_in a.mem.now) (memory_in made.new.mem) made.ensures.made c.requires.no_call eq
