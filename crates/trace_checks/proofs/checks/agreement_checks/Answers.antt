use Rattle.trace_checks.proofs.Agreement.{refuses_dropped_event, refuses_other_event, refuses_early_end, refuses_endless_run, refuses_other_status, refuses_extra_event, refuses_dropped_before_unspecified, refuses_exit_at_guard, refuses_slow_exit, allows_anything_after_unspecified, allows_outside_at_guard, allows_slow_exit, refuses_step_left_out, refuses_fewer_steps}
use Rattle.trace_checks.proofs.checks.agreement_checks.Goals as goal

pub returns-clause-refuses_dropped_event : goal.returns-clause-refuses_dropped_event
returns-clause-refuses_dropped_event c = refuses_dropped_event

pub returns-clause-refuses_other_event : goal.returns-clause-refuses_other_event
returns-clause-refuses_other_event c = refuses_other_event

pub returns-clause-refuses_early_end : goal.returns-clause-refuses_early_end
returns-clause-refuses_early_end c = refuses_early_end

pub returns-clause-refuses_endless_run : goal.returns-clause-refuses_endless_run
returns-clause-refuses_endless_run c = refuses_endless_run

pub returns-clause-refuses_other_status : goal.returns-clause-refuses_other_status
returns-clause-refuses_other_status c = refuses_other_status

pub returns-clause-refuses_extra_event : goal.returns-clause-refuses_extra_event
returns-clause-refuses_extra_event c = refuses_extra_event

pub returns-clause-refuses_dropped_before_unspecified : goal.returns-clause-refuses_dropped_before_unspecified
returns-clause-refuses_dropped_before_unspecified c = refuses_dropped_before_unspecified

pub returns-clause-refuses_exit_at_guard : goal.returns-clause-refuses_exit_at_guard
returns-clause-refuses_exit_at_guard c = refuses_exit_at_guard

pub returns-clause-refuses_slow_exit : goal.returns-clause-refuses_slow_exit
returns-clause-refuses_slow_exit c = refuses_slow_exit

pub returns-clause-allows_anything_after_unspecified : goal.returns-clause-allows_anything_after_unspecified
returns-clause-allows_anything_after_unspecified c = allows_anything_after_unspecified

pub returns-clause-allows_outside_at_guard : goal.returns-clause-allows_outside_at_guard
returns-clause-allows_outside_at_guard c = allows_outside_at_guard

pub returns-clause-allows_slow_exit : goal.returns-clause-allows_slow_exit
returns-clause-allows_slow_exit c = allows_slow_exit

pub returns-clause-refuses_step_left_out : goal.returns-clause-refuses_step_left_out
returns-clause-refuses_step_left_out c = refuses_step_left_out

pub returns-clause-refuses_fewer_steps : goal.returns-clause-refuses_fewer_steps
returns-clause-refuses_fewer_steps c = refuses_fewer_steps
