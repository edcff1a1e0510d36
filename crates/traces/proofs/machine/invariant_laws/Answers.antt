use Rattle.std.proofs.Common.{◌≡◌, true, ◌≤◌, refl, arith}
use Rattle.traces.specs.Moves.{PacedMove, OneEventMove, OneEventStep, EndsIn, InputMove, Holds, To, GoesTo}
use Rattle.traces.specs.Endings.{QuietMove}
use Rattle.traces.proofs.Pairs.{at_state}
use Rattle.traces.proofs.Runs.{ends_in}
use Rattle.traces.proofs.Clocks.{clock_at_most}
use Rattle.traces.proofs.Pace.{paced_by, paced_steps, one_event_by, one_event_steps}
use Rattle.traces.proofs.Endings.{ends_quietly, noted_run}
use Rattle.traces.proofs.Reached.{holds_reached, input_reached, never_ends}
use Rattle.traces.proofs.machine.invariant_laws.Goals as goal

pub returns : goal.returns
returns g c index = record {
  holds_reached = λ next state kept i n ls t r. holds_reached next (Holds state) (at_state state (λ s. To (Holds state) (next s)) kept) (state i) n ls t r (i, refl);
  never_ends = λ next state on i n. never_ends next (Holds state) (at_state state (λ s. GoesTo (Holds state) (next s)) on) n (state i) (i, refl);
  ends_by_moves = λ next state kept passes h i n. ends_in next (Holds state) (at_state state (λ s. To (Holds state) (next s)) kept) (λ e. passes e ≡ true) (at_state state (λ s. EndsIn (λ e. passes e ≡ true) (next s)) h) n (state i) (i, refl);
  paced_by_moves = λ next state kept w b left h i l. paced_steps next (λ s. 1) w b left (Holds state) (at_state state (λ s. To (Holds state) (next s)) kept) (at_state state (λ s. PacedMove w left (left s) 1 (next s)) h) (λ s v. omega arith) (state i) (i, refl) l;
  paced_by_costs = λ next state kept cost w b left h i l. paced_by next cost w b left (Holds state) (at_state state (λ s. To (Holds state) (next s)) kept) (at_state state (λ s. PacedMove w left (left s) (cost s) (next s)) h) (state i) (i, refl) l;
  paced_in_steps = λ next state kept cost w b left some h i l. paced_steps next cost w b left (Holds state) (at_state state (λ s. To (Holds state) (next s)) kept) (at_state state (λ s. PacedMove w left (left s) (cost s) (next s)) h) (at_state state (λ s. 1 ≤ cost s) some) (state i) (i, refl) l;
  clock_at_most = λ next state kept cost K h i n. clock_at_most next cost (Holds state) (at_state state (λ s. To (Holds state) (next s)) kept) K (at_state state (λ s. cost s ≤ K) h) n (state i) (i, refl);
  one_event_by_moves = λ next state kept h i. one_event_by next (Holds state) (at_state state (λ s. To (Holds state) (next s)) kept) (at_state state (λ s. OneEventMove next (next s)) h) (state i) (i, refl);
  one_event_by_steps = λ next state kept h i. one_event_steps next (Holds state) (at_state state (λ s. To (Holds state) (next s)) kept) (at_state state (λ s. OneEventStep (next s)) h) (state i) (i, refl);
  ends_quietly = λ f next state kept h i. ends_quietly f next (Holds state) (at_state state (λ s. To (Holds state) (next s)) kept) (at_state state (λ s. QuietMove f next (next s)) h) (state i) (i, refl);
  input_reached = λ next state kept input h i n ls t r. input_reached next (Holds state) (at_state state (λ s. To (Holds state) (next s)) kept) input (at_state state (λ s. InputMove input (input s) (next s)) h) (state i) n ls t r (i, refl);
  noted_run = noted_run;
}
