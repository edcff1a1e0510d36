use Rattle.std.proofs.Common.{ap, ◌∙◌}
use Rattle.x86_values.specs.Words.{known}
use Rattle.mem_pages.specs.Contents.{memory_in}
use Rattle.memory.specs.Memory.{forget_below}
use Rattle.x86_step.proofs.Storing.{ends_unspecified, goes_on}
use Rattle.x86_step.proofs.finish.finish.Goals as goal

pub returns-then-can_store-clause-moves : goal.returns-then-can_store-clause-moves
returns-then-can_store-clause-moves c = ends_unspecified c.args.effect.now c.args.len c.args.cpu.now (memory_in c.args.mem.now) c.requires.no_call (cc) (cc (ap known c.register.ensures, c.in-None.ensures))

pub returns-in-Ok-clause-moves : goal.returns-in-Ok-clause-moves
returns-in-Ok-clause-moves c = goes_on c.args.effect.now c.args.len c.args.cpu.now (memory_in c.args.mem.now) (memory_in c.forget_below.new.self) c.in-Some.esp c.eip_after-cpu.result c.requires.no_call c.in-Ok.ensures.stores.0 (cc (ap known c.register.ensures, c.in-Some.ensures)) c.eip_after-cpu.ensures (c.forget_below.ensures.forgets ∙ ap (forget_below c.in-Some.esp) c.in-Ok.ensures.stores.1)
