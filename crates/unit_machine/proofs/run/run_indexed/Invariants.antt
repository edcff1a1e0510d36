use Rattle.std.proofs.Common.{◌≤◌}
use Rattle.mem_pages.specs.Contents.{memory_in}
use Rattle.sw_host.specs.Told.{Tells}
use Rattle.unit_machine.specs.Moving.{StandsInBlock}
use Rattle.unit_machine.specs.Running.{RanOn}
use Rattle.unit_machine.proofs.run.run_indexed.Given as goal

abbrev pub invariant-loop-i : goal.invariant-loop-i
invariant-loop-i g l = record {
  goes_on : Tells (g.H.Host.told l.fn.host) (g.H.Host.told l.host) (RanOn l.fn.unit l.fn.at (memory_in l.fn.pages) l.i l.at (memory_in l.pages));
  placed : StandsInBlock l.fn.unit l.at;
  faults : g.H.Host.faults l.fn.host ≤ g.H.Host.faults l.host;
}
