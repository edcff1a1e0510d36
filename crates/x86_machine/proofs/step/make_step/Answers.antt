use Rattle.std.proofs.Common.{refl}
use Rattle.mem_pages.specs.Contents.{memory_in}
use Rattle.x86_machine.proofs.Stepping.{stays, nexts, halts, calls, put_back}
use Rattle.x86_machine.proofs.step.make_step.Goals as goal

pub returns-in-Err-clause-steps : goal.returns-in-Err-clause-steps
returns-in-Err-clause-steps g c = stays (g.H.Host.told c.args.host.now) (g.H.Host.told c.args.host.now) c.args.kept.now.instr c.args.kept.now.len c.args.cpu.now c.step_one.new.cpu (memory_in c.args.pages.now) (memory_in c.step_one.new.mem) _ c.in-Err.ensures.steps

pub returns-in-Ok-Next-clause-steps : goal.returns-in-Ok-Next-clause-steps
returns-in-Ok-Next-clause-steps g c = nexts (g.H.Host.told c.args.host.now) (g.H.Host.told c.args.host.now) c.args.kept.now.instr c.args.kept.now.len c.args.cpu.now c.step_one.new.cpu (memory_in c.args.pages.now) (memory_in c.step_one.new.mem) (rw c.in-Ok-Next.field-0-is at c.in-Ok-Next.ensures.steps)

pub returns-in-Ok-MemoryFault-clause-steps : goal.returns-in-Ok-MemoryFault-clause-steps
returns-in-Ok-MemoryFault-clause-steps g c = let h = rw c.in-Ok-MemoryFault.field-0-is at c.in-Ok-MemoryFault.ensures.steps in halts (g.H.Host.told c.args.host.now) (g.H.Host.told c.args.host.now) c.args.kept.now.instr c.args.kept.now.len c.args.cpu.now c.step_one.new.cpu (memory_in c.args.pages.now) (memory_in c.step_one.new.mem) _ _ refl h

pub returns-in-Ok-DivideFault-clause-steps : goal.returns-in-Ok-DivideFault-clause-steps
returns-in-Ok-DivideFault-clause-steps g c = let h = rw c.in-Ok-DivideFault.field-0-is at c.in-Ok-DivideFault.ensures.steps in halts (g.H.Host.told c.args.host.now) (g.H.Host.told c.args.host.now) c.args.kept.now.instr c.args.kept.now.len c.args.cpu.now c.step_one.new.cpu (memory_in c.args.pages.now) (memory_in c.step_one.new.mem) _ _ refl h

pub returns-in-Ok-Unspecified-clause-steps : goal.returns-in-Ok-Unspecified-clause-steps
returns-in-Ok-Unspecified-clause-steps g c = let h = rw c.in-Ok-Unspecified.field-0-is at c.in-Ok-Unspecified.ensures.steps in halts (g.H.Host.told c.args.host.now) (g.H.Host.told c.args.host.now) c.args.kept.now.instr c.args.kept.now.len c.args.cpu.now c.step_one.new.cpu (memory_in c.args.pages.now) (memory_in c.step_one.new.mem) _ _ refl h

pub returns-in-Ok-clause-steps : goal.returns-in-Ok-clause-steps
returns-in-Ok-clause-steps g c = let h = rw c.in-Ok-Call.field-0-is at c.in-Ok-Call.ensures.steps in calls (g.H.Host.told c.args.host.now) (g.H.Host.told c.call.new.host) c.args.kept.now.instr c.args.kept.now.len c.args.cpu.now c.call.new.cpu (memory_in c.args.pages.now) (memory_in c.call.new.pages) c.step_laws.ensures (memory_in c.step_one.new.mem) c.step_one.new.cpu _ h c.in-Ok.ensures.calls

pub returns-in-Err-call-clause-steps : goal.returns-in-Err-call-clause-steps
returns-in-Err-call-clause-steps g c = let h = rw c.in-Ok-Call.field-0-is at c.in-Ok-Call.ensures.steps in put_back (g.H.Host.told c.args.host.now) (g.H.Host.told c.call.new.host) c.args.kept.now.instr c.args.kept.now.len c.args.cpu.now c.call.new.cpu (memory_in c.args.pages.now) (memory_in c.call.new.pages) (memory_in c.step_one.new.mem) c.step_one.new.cpu _ h c.in-Err-call.ensures.calls
