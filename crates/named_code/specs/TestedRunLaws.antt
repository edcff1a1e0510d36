-- The laws of code whose accesses are tested.
use Rattle.std.specs.Prelude.{◌≡◌, ℕ, true, List, [], All, Some}
use Rattle.outside.specs.Environment.{Environment}
use Rattle.traces.specs.Trace.{End, Grows, events}
use Rattle.traces.specs.Moves.{OneEventStep}
use Rattle.traces.specs.Steps.{clock_of}
use Rattle.traces.specs.Weight.{PacedBy, Paced, OneEvent}
use Rattle.memory.specs.Memory.{Memory, with_stack}
use Rattle.memory.specs.CallLaws.{is_own_end}
use Rattle.private_memory.specs.PrivateArea.{IsApartAccess, is_apart_access, IsClearAccess, is_clear_access}
use Rattle.named_code.specs.Items.{Item, CodeBlock}
use Rattle.named_code.specs.Running.{CodePoint, CodePosition, Marks}
use Rattle.named_code.specs.CodeRun.{first_position}
use Rattle.named_code.specs.TestedRun.{AccessTest, position_accesses, turn_at, all_pass, tested_next, tested_run, SameUpToAccess}
use Rattle.named_code.specs.Weight.{step_cost, BoundsCode}

pub record TestedRunLaws : Type 0 where
  -- it goes on as the code does exactly where each access passes
  pub all_passes : (test : AccessTest) (code : List CodeBlock) (p : CodePosition) → All (λ a. test p.state.memory a ≡ true) (position_accesses code p) → all_pass test code p ≡ true
  pub passes_all : (test : AccessTest) (code : List CodeBlock) (p : CodePosition) → all_pass test code p ≡ true → All (λ a. test p.state.memory a ≡ true) (position_accesses code p)
  -- where each one is apart, or clear
  pub apart_passes : (code : List CodeBlock) (p : CodePosition) → All (IsApartAccess p.state.memory) (position_accesses code p) → all_pass is_apart_access code p ≡ true
  pub passes_apart : (code : List CodeBlock) (p : CodePosition) → all_pass is_apart_access code p ≡ true → All (IsApartAccess p.state.memory) (position_accesses code p)
  pub clear_passes : (code : List CodeBlock) (p : CodePosition) → All (IsClearAccess p.state.memory) (position_accesses code p) → all_pass is_clear_access code p ≡ true
  pub passes_clear : (code : List CodeBlock) (p : CodePosition) → all_pass is_clear_access code p ≡ true → All (IsClearAccess p.state.memory) (position_accesses code p)
  -- it does what the code does up to an access that doesn't pass
  pub same_up_to : (test : AccessTest) (marks : Marks) (code : List CodeBlock) (p : CodePosition) (n : ℕ) → SameUpToAccess test marks code p n
  -- the turn of a position is no event
  pub turn_is_quiet : (marks : Marks) (code : List CodeBlock) (p : CodePoint) → events (turn_at marks code p) ≡ []
  -- more steps show the same and more, and an end stays
  pub grow : (test : AccessTest) (marks : Marks) (code : List CodeBlock) (m : Memory) (entry esp0 : ℕ) (stack : List ℕ) (left : Environment) → Grows (tested_run test marks code m entry esp0 stack left)
  -- each step shows at most one event, and none where the run stands
  pub move_event : (test : AccessTest) (marks : Marks) (code : List CodeBlock) (p : CodePosition) → OneEventStep (tested_next test marks code p)
  pub one_event : (test : AccessTest) (marks : Marks) (code : List CodeBlock) (m : Memory) (entry esp0 : ℕ) (stack : List ℕ) (left : Environment) → OneEvent (tested_run test marks code m entry esp0 stack left)
  -- no run stops or has a guard event
  pub own_end : (test : AccessTest) (marks : Marks) (code : List CodeBlock) (m : Memory) (entry esp0 : ℕ) (stack : List ℕ) (left : Environment) (n : ℕ) (e : End) → (tested_run test marks code m entry esp0 stack left n).end ≡ Some e → is_own_end e ≡ true
  -- turns cost what is read off the text of the code
  pub paced : (test : AccessTest) (marks : Marks) (cost : Item → ℕ) (rest : ℕ → ℕ) (w : ℕ) (code : List CodeBlock) (m : Memory) (entry esp0 : ℕ) (stack : List ℕ) (left : Environment) → BoundsCode marks cost rest w code
      → PacedBy (clock_of (tested_next test marks code) (step_cost cost code) (first_position (with_stack esp0 stack m) entry esp0 left)) w 0 (tested_run test marks code m entry esp0 stack left)
  -- so they have that weight in steps where each instruction counts as one
  pub paced_in_steps : (test : AccessTest) (marks : Marks) (rest : ℕ → ℕ) (w : ℕ) (code : List CodeBlock) (m : Memory) (entry esp0 : ℕ) (stack : List ℕ) (left : Environment) → BoundsCode marks (λ x. 1) rest w code → Paced w 0 (tested_run test marks code m entry esp0 stack left)
