use Rattle.std.proofs.Common.{[], ◌∷◌, None, refl}
use Rattle.mem_pages.specs.Contents.{memory_in}
use Rattle.x86_types.specs.Numbers.{number_of_reg}
use Rattle.x86_meaning.specs.Outcomes.{computed}
use Rattle.x86_meaning.specs.Registers.{with_register}
use Rattle.x86_meaning.specs.TransferShapes.{esp, register}
use Rattle.x86_step.specs.Computed.{way_of}
use Rattle.x86_step.specs.Steps.{registers_of}
use Rattle.x86_step.proofs.Made.{made_performs}
use Rattle.x86_step.proofs.perform_stack.pop_words.Goals as goal

pub returns-clause-performs : goal.returns-clause-performs
returns-clause-performs c =
    let a = c.args in
    let regs = registers_of a.cpu.now.regs in
    let made = c.make_pop in
    made_performs (esp ∷ register 4 (number_of_reg a.to) ∷ []) (computed (a.esp ∷ a.word ∷ []) a.flags (way_of a.way)) (with_register (number_of_reg a.to) a.word (with_register 4 a.esp regs)) a.flags (None) a.way a.len made.result a.cpu.now made.new.cpu (memory_in a.mem.now) (memory_in made.new.mem) made.ensures.made c.requires.no_call refl
