use Rattle.mem_pages.specs.Contents.{memory_in}
use Rattle.x86_step.proofs.Stepping.{steps_after, made_in_place}
use Rattle.x86_step.proofs.step.step_plain.Goals as goal

pub returns-then-fast_step-clause-steps : goal.returns-then-fast_step-clause-steps
returns-then-fast_step-clause-steps c = made_in_place c.args.instr.now c.args.len c.fast_step.result c.args.cpu.now c.fast_step.new.cpu (memory_in c.args.mem.now) (memory_in c.fast_step.new.mem) c.if-fast_step.true c.fast_step.ensures.fast

pub returns-else-fast_step-clause-steps : goal.returns-else-fast_step-clause-steps
returns-else-fast_step-clause-steps c = steps_after c.args.instr.now c.args.len c.fast_step.result c.step_whole.result c.args.cpu.now c.fast_step.new.cpu c.step_whole.new.cpu (memory_in c.args.mem.now) (memory_in c.fast_step.new.mem) (memory_in c.step_whole.new.mem) c.if-fast_step.false c.fast_step.ensures.fast c.step_whole.ensures.steps
