use Rattle.std.proofs.Common.{sym, subst, ◌∙◌}
use Rattle.mem_pages.specs.Contents.{memory_in}
use Rattle.sw_host.specs.Told.{Tells}
use Rattle.flag_ir.specs.declared.operation.Op.{Op}
use Rattle.unit_machine.specs.Performing.{PerformsOp}
use Rattle.unit_machine.proofs.Calling.{system_is, tells_computed}
use Rattle.unit_machine.proofs.perform.perform.Goals as goal

pub returns-then-is_system-clause-performs : goal.returns-then-is_system-clause-performs
returns-then-is_system-clause-performs g c =
    subst (λ (o : Op). Tells (g.H.Host.told c.args.host.now) (g.H.Host.told c.call.new.host) (PerformsOp o c.call.result c.args.values.now (memory_in c.args.pages.now) c.call.new.values (memory_in c.call.new.pages)))
    (sym (system_is c.args.op.now (sym c.is_system.ensures ∙ c.if-is_system.true))) c.call.ensures.calls

pub returns-else-is_system-clause-performs : goal.returns-else-is_system-clause-performs
returns-else-is_system-clause-performs g c =
    tells_computed (g.H.Host.told c.args.host.now) c.args.op.now c.compute.result c.args.values.now (memory_in c.args.pages.now) c.compute.new.values (memory_in c.compute.new.pages) (sym c.is_system.ensures ∙ c.if-is_system.false) c.requires.frameless c.compute.ensures
