use Rattle.mem_pages.specs.Contents.{memory_in}
use Rattle.unit_machine.proofs.Running.{wants_first}
use Rattle.unit_machine.proofs.run.run_on.Goals as goal

pub returns-in-Err-clause-runs : goal.returns-in-Err-clause-runs
returns-in-Err-clause-runs g c = wants_first c.args.unit.now c.args.at.now (memory_in c.args.pages.now) c.trace_laws.ensures c.run_laws.ensures c.requires.placed (g.H.Host.told c.args.host.now) c.args.budget c.in-Err.error
