use Rattle.std.proofs.Common.{◌-◌, ◌*◌, ◌/◌, arith}
use Rattle.mem_pages.specs.Contents.{memory_in}
use Rattle.x86_machine.proofs.Filling.{stack_filled, on_ok}
use Rattle.x86_machine.proofs.start.add_stack.Goals as goal

pub returns : goal.returns
returns c =
    on_ok c.add_filled.result (memory_in c.add_filled.new.pages) _ _
    (stack_filled c.memory_laws.ensures (c.args.esp0 / 4096 * 4096 - 8388608) c.args.esp0 c.args.stack.now (memory_in c.args.pages.now) (omega arith) (omega arith) (omega (arith, c.requires.start.within)))
    c.add_filled.ensures
