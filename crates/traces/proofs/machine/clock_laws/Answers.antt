use Rattle.traces.proofs.Pairs.{to_any}
use Rattle.traces.proofs.Clocks.{clock_rest, clock_stand, clock_go, clock_halt, clock_rises, clock_at_most, clock_reaches}
use Rattle.traces.proofs.Beginnings.{paced_after_costs}
use Rattle.traces.proofs.machine.clock_laws.Goals as goal

pub returns : goal.returns
returns g c = record {
  clock_rest = clock_rest;
  clock_stand = clock_stand;
  clock_go = clock_go;
  clock_halt = clock_halt;
  clock_rises = clock_rises;
  clock_at_most = λ next cost K h s n. clock_at_most next cost (λ s. Unit {0}) (λ s v. to_any (next s)) K (λ s v. h s) n s tt;
  clock_reaches = clock_reaches;
  paced_after = paced_after_costs;
}
