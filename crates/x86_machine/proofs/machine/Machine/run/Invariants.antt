use Rattle.std.proofs.Common.{◌≡◌, ◌≤◌, None}
use Rattle.sw_host.specs.Told.{Tells}
use Rattle.x86_machine.specs.Running.{GoesOn}
use Rattle.x86_machine.proofs.machine.Machine.run.Given as goal

abbrev pub invariant-loop-i : goal.invariant-loop-i
invariant-loop-i g l = record {
  goes_on : Tells (g.H.Host.told l.fn.host) (g.H.Host.told l.host) (GoesOn l.i 0 l.fn.self l.self);
  open_start : l.fn.self.ended ≡ None;
  open_now : l.self.ended ≡ None;
  faults : g.H.Host.faults l.fn.host ≤ g.H.Host.faults l.host;
}
