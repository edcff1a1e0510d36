use Rattle.traces.specs.Trace.{run}
use Rattle.traces.proofs.Runs.{run_grows, end_comes, ends_once, agree}
use Rattle.traces.proofs.Steps.{run_stand, rest_go, run_go, rest_halt, run_halt, goes_step, goes_then, reaches_step, reaches_then, reaches_once, reaches_run, reaches_goes, running_reaches, ended_reaches, same_run, same_goes, marked_run, marked_goes}
use Rattle.traces.proofs.Beginnings.{costs_after, paced_after, refines_after}
use Rattle.traces.proofs.machine.run_laws.Goals as goal

pub returns : goal.returns
returns g c = record {
  run_stand = run_stand;
  rest_go = rest_go;
  run_go = run_go;
  rest_halt = rest_halt;
  run_halt = run_halt;
  goes_step = goes_step;
  goes_then = goes_then;
  reaches_step = reaches_step;
  reaches_then = reaches_then;
  reaches_once = reaches_once;
  reaches_run = reaches_run;
  reaches_goes = reaches_goes;
  running_reaches = λ next s n h. running_reaches next n s h;
  ended_reaches = λ next s n e h. ended_reaches next n s e h;
  run_grows = run_grows;
  end_comes = λ next s. end_comes (run next s) (run_grows next s);
  ends_once = λ next s. ends_once (run next s);
  agrees_with_run = λ a b C next s. agree a b C (run next s) (run_grows next s);
  costs_after = λ next clock b C s k t. costs_after next s k t clock b C;
  paced_after = paced_after;
  refines_after = λ next U s k t. refines_after next s k t U;
  same_run = same_run;
  same_goes = same_goes;
  marked_run = marked_run;
  marked_goes = marked_goes;
}
