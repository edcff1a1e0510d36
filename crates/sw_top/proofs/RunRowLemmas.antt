-- The rows of runs, computed.
use Rattle.std.proofs.Common.{refl}
use Rattle.std.specs.Fmt.{digits}
use Rattle.sw_top.specs.Stacks.{start_stack}
use Rattle.sw_top.specs.RunRows.{RunCommandRows, StackRows, RunEndRows}

pub run_command_rows : RunCommandRows
unfolding digits
run_command_rows = record {
  plainly = refl;
  args = refl;
  run_alone = refl;
  with_steps = refl;
  no_steps = refl;
  most_steps = refl;
  more_steps = refl;
  leading_zero = refl;
  two_zeros = refl;
  plus = refl;
  minus = refl;
  letter = refl;
  no_number = refl;
  steps_alone = refl;
}

pub stack_rows : StackRows
unfolding start_stack
stack_rows = record { size = refl; esp = refl; bytes = refl; full = refl; over = refl }

pub run_end_rows : RunEndRows
unfolding digits
run_end_rows = record {
  exited = λ s. refl;
  memory_fault = refl;
  divide_fault = refl;
  outside = refl;
  other_call = λ n. refl;
  unspecified = refl;
  spent = refl;
  exited_line = λ s. refl;
  memory_fault_line = refl;
  divide_fault_line = refl;
  outside_line = refl;
  first_call = refl;
  last_call = refl;
  unspecified_line = refl;
  spent_line = refl;
}
