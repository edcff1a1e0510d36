use Rattle.mem_pages.specs.Contents.{memory_in}
use Rattle.x86_meaning.specs.Registers.{machine_naming}
use Rattle.x86_meaning.specs.Transfers.{transfer}
use Rattle.x86_step.specs.Judged.{processor_of}
use Rattle.x86_step.specs.Steps.{registers_of}
use Rattle.x86_step.proofs.Judging.{step_goes, step_stops}
use Rattle.x86_step.proofs.Stepping.{plain, step_answers, stops}
use Rattle.x86_step.proofs.step.step_whole.Goals as goal

pub finish-requires : goal.finish-requires
finish-requires c =
    let d = c.args.cpu.now in
    record { no_call = plain (transfer machine_naming c.args.instr.now (registers_of d.regs)) c.args.instr.now c.requires.no_call c.behind.result (processor_of d) (memory_in c.args.mem.now) c.in-Ok.effect c.in-Ok.ensures }

pub returns-in-Err-clause-steps : goal.returns-in-Err-clause-steps
returns-in-Err-clause-steps c =
    let m = memory_in c.args.mem.now in
    stops c.args.instr.now c.args.len c.in-Err.stop c.stopped.result c.args.cpu.now m c.stopped.ensures (step_stops c.args.instr.now c.args.len c.args.cpu.now m c.in-Err.stop (rw c.behind.ensures at c.in-Err.ensures))

pub returns-in-Ok-clause-steps : goal.returns-in-Ok-clause-steps
returns-in-Ok-clause-steps c =
    let m = memory_in c.args.mem.now in
    step_answers c.args.instr.now c.args.len c.in-Ok.effect c.finish.result c.args.cpu.now c.finish.new.cpu m (memory_in c.finish.new.mem) (step_goes c.step_laws.ensures c.args.instr.now c.args.len c.args.cpu.now m c.in-Ok.effect (rw c.behind.ensures at c.in-Ok.ensures)) c.finish.ensures.moves
