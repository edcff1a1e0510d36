use Rattle.mem_pages.specs.Contents.{memory_in}
use Rattle.unit_machine.proofs.Leaving.{leaves_go}
use Rattle.unit_machine.proofs.leave.go.Goals as goal

pub returns-clause-leaves : goal.returns-clause-leaves
returns-clause-leaves c turn = leaves_go c.args.unit.now c.requires.numbered c.args.number c.requires.form c.args.values.now (memory_in c.args.pages.now) turn
