-- The laws of code over places.
use Rattle.std.proofs.Common.{◌≡◌, ℕ, List, true, Some, arith}
use Rattle.outside.specs.Environment.{Environment}
use Rattle.traces.specs.Trace.{End, Grows}
use Rattle.traces.specs.Weight.{PacedBy, Paced, OneEvent}
use Rattle.traces.specs.Steps.{clock_of}
use Rattle.traces.specs.RunLaws.{RunLaws}
use Rattle.traces.specs.MoveLaws.{MoveLaws}
use Rattle.traces.specs.InvariantLaws.{InvariantLaws}
use Rattle.memory.specs.Memory.{Memory, with_stack}
use Rattle.memory.specs.CallLaws.{CallLaws, is_own_end}
use Rattle.named_code.specs.Items.{Item, CodeBlock}
use Rattle.named_code.specs.Running.{CodePosition, Marks, code_next}
use Rattle.named_code.specs.CodeRun.{first_position, blocks_run}
use Rattle.named_code.specs.Weight.{step_cost, BoundsCode}
use Rattle.named_code.specs.CodeRunLaws.{OncePosition, CodeRunLaws}
use Rattle.named_code.proofs.CodeMoves.{next_small}
use Rattle.named_code.proofs.Courses.{way_is, calls_is}
use Rattle.named_code.proofs.Weighing.{left_in, next_paced, kept, next_in_steps}

module _ (calls : CallLaws) (runs : RunLaws CodePosition) (moves : MoveLaws CodePosition) (invariants : InvariantLaws CodePosition OncePosition) where
  module _ (marks : Marks) (code : List CodeBlock) (m : Memory) (entry esp0 : ℕ) (stack : List ℕ) (left : Environment) where
    abbrev first : CodePosition
    first = first_position (with_stack esp0 stack m) entry esp0 left

    grow : Grows (blocks_run marks code m entry esp0 stack left)
    unfolding blocks_run
    grow = runs.run_grows (code_next marks code) first

    one_event : OneEvent (blocks_run marks code m entry esp0 stack left)
    unfolding blocks_run
    one_event = moves.one_event_by_steps (code_next marks code) (λ p. (next_small calls marks code p).event) first

    own_end : (n : ℕ) (e : End) → (blocks_run marks code m entry esp0 stack left n).end ≡ Some e → is_own_end e ≡ true
    unfolding blocks_run
    own_end = moves.ends_by_moves (code_next marks code) is_own_end (λ p. (next_small calls marks code p).own) first

    paced : (cost : Item → ℕ) (rest : ℕ → ℕ) (w : ℕ) → BoundsCode marks cost rest w code → PacedBy (clock_of (code_next marks code) (step_cost cost code) first) w 0 (blocks_run marks code m entry esp0 stack left)
    unfolding blocks_run
    paced cost rest w bounds =
        invariants.paced_by_costs (code_next marks code) (λ (i : OncePosition). i.position) (kept calls marks cost rest w code bounds) (step_cost cost code) w 0 (left_in calls marks cost rest w)
        (λ i. next_paced calls marks cost rest w code bounds i.position i.once) (record { position = first; once = tt }) (omega arith)

    in_steps : (rest : ℕ → ℕ) (w : ℕ) → BoundsCode marks (λ x. 1) rest w code → Paced w 0 (blocks_run marks code m entry esp0 stack left)
    unfolding blocks_run
    in_steps rest w bounds =
        invariants.paced_by_moves (code_next marks code) (λ (i : OncePosition). i.position) (kept calls marks (λ x. 1) rest w code bounds) w 0 (left_in calls marks (λ x. 1) rest w)
        (λ i. next_in_steps calls marks rest w code bounds i.position i.once) (record { position = first; once = tt }) (omega arith)

  pub code_laws : CodeRunLaws
  code_laws = record {
    grow = grow;
    move_event = λ marks code p. (next_small calls marks code p).event;
    one_event = one_event;
    own_end = own_end;
    paced = λ marks cost rest w code m entry esp0 stack left bounds. paced marks code m entry esp0 stack left cost rest w bounds;
    paced_in_steps = λ marks rest w code m entry esp0 stack left bounds. in_steps marks code m entry esp0 stack left rest w bounds;
    way = way_is;
    calls = calls_is;
  }
