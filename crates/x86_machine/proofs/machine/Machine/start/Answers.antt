use Rattle.std.proofs.Common.{refl, ap, ◌∙◌}
use Rattle.x86_machine.proofs.Starting.{stands_at_start}
use Rattle.x86_machine.proofs.machine.Machine.start.Goals as goal

pub returns : goal.returns
returns c = stands_at_start _ c.args.image.now c.args.esp0 c.args.stack.now c.in_ok-new.ensures c.first_cpu.ensures.regs c.first_cpu.ensures.flags (c.first_cpu.ensures.eip ∙ ap (λ x. x.entry) c.image.view_is) c.in_ok-first_pages.ensures refl refl
