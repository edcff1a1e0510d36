use Rattle.std.proofs.Common.{◌≡◌, true, arith}
use Rattle.traces.proofs.Pairs.{to_any}
use Rattle.traces.proofs.Runs.{ends_in}
use Rattle.traces.proofs.Pace.{paced_by, paced_steps, one_event_by, one_event_steps, starts_by_move, is_ticking}
use Rattle.traces.proofs.Turned.{turned_ticks, turned_paced, turned_unmarked, guarded_unturned}
use Rattle.traces.proofs.CodeCosts.{runs_outside, refines_outside}
use Rattle.traces.proofs.Endings.{ends_quietly}
use Rattle.traces.proofs.Reached.{input_reached}
use Rattle.traces.proofs.machine.move_laws.Goals as goal

pub returns : goal.returns
returns g c = record {
  ends_by_moves = λ next passes h s n. ends_in next (λ s. Unit {0}) (λ s v. to_any (next s)) (λ e. passes e ≡ true) (λ s v. h s) n s tt;
  paced_by_moves = λ next w b left h s l. paced_steps next (λ s. 1) w b left (λ s. Unit {0}) (λ s v. to_any (next s)) (λ s v. h s) (λ s v. omega arith) s tt l;
  paced_by_costs = λ next cost w b left h s l. paced_by next cost w b left (λ s. Unit {0}) (λ s v. to_any (next s)) (λ s v. h s) s tt l;
  paced_in_steps = λ next cost w b left some h s l. paced_steps next cost w b left (λ s. Unit {0}) (λ s v. to_any (next s)) (λ s v. h s) (λ s v. some s) s tt l;
  one_event_by_moves = λ next h s. one_event_by next (λ s. Unit {0}) (λ s v. to_any (next s)) (λ s v. h s) s tt;
  one_event_by_steps = λ next h s. one_event_steps next (λ s. Unit {0}) (λ s v. to_any (next s)) (λ s v. h s) s tt;
  starts_by_move = starts_by_move;
  ticks_by_moves = is_ticking;
  turned_ticks = λ at next plain s. (turned_ticks at next plain s, turned_paced at next plain s);
  turned_unmarked = λ at next s n. turned_unmarked at next n s;
  guarded_unturned = guarded_unturned;
  runs_outside = runs_outside;
  refines_outside = refines_outside;
  ends_quietly = λ f next h s. ends_quietly f next (λ s. Unit {0}) (λ s v. to_any (next s)) (λ s v. h s) s tt;
  input_reached = λ next input h s n ls t r. input_reached next (λ s. Unit {0}) (λ s v. to_any (next s)) input (λ s v. h s) s n ls t r tt;
}
