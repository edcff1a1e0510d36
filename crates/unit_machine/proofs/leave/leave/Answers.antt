use Rattle.std.proofs.Common.{sym, subst}
use Rattle.mem_pages.specs.Contents.{memory_in}
use Rattle.mem_pages.specs.declared.end.RunEnd.TheVariants as run
use Rattle.flag_ir.specs.declared.block.Exit.{Exit}
use Rattle.unit_machine.specs.declared.end.UnitEnd.TheVariants as unitend
use Rattle.unit_machine.specs.Leaving.{EndsSo}
use Rattle.unit_machine.proofs.Leaving.{ends_fault}
use Rattle.unit_machine.proofs.leave.leave.Goals as goal

pub returns-in-Fault-clause-leaves : goal.returns-in-Fault-clause-leaves
returns-in-Fault-clause-leaves c =
    subst (λ (e : Exit). EndsSo c.args.unit.now c.args.turn e (unitend.Run run.MemoryFault) c.args.values.now (memory_in c.args.pages.now)) (sym c.in-Fault.is) (ends_fault c.args.unit.now c.args.turn c.args.values.now (memory_in c.args.pages.now))
