use Rattle.trace_checks.proofs.Turns.{PlayLaws, refuses_moved_event, refuses_other_address, refuses_lost_moment, refuses_late_guard, refuses_early_report, allows_split_events, allows_long_turn}
use Rattle.trace_checks.proofs.Alternate.{allows_step_left_out}
use Rattle.trace_checks.proofs.checks.turn_checks.Goals as goal

laws : goal.After-simulation_laws → PlayLaws
laws c = record { agreements = c.agreement_laws.ensures; runs = c.run_laws.ensures }

pub returns-clause-refuses_moved_event : goal.returns-clause-refuses_moved_event
returns-clause-refuses_moved_event c = refuses_moved_event (laws c)

pub returns-clause-refuses_other_address : goal.returns-clause-refuses_other_address
returns-clause-refuses_other_address c = refuses_other_address (laws c)

pub returns-clause-refuses_lost_moment : goal.returns-clause-refuses_lost_moment
returns-clause-refuses_lost_moment c = refuses_lost_moment

pub returns-clause-refuses_late_guard : goal.returns-clause-refuses_late_guard
returns-clause-refuses_late_guard c = refuses_late_guard (laws c)

pub returns-clause-refuses_early_report : goal.returns-clause-refuses_early_report
returns-clause-refuses_early_report c = refuses_early_report (laws c)

pub returns-clause-allows_split_events : goal.returns-clause-allows_split_events
returns-clause-allows_split_events c = allows_split_events

pub returns-clause-allows_long_turn : goal.returns-clause-allows_long_turn
returns-clause-allows_long_turn c = allows_long_turn

pub returns-clause-allows_step_left_out : goal.returns-clause-allows_step_left_out
returns-clause-allows_step_left_out c = allows_step_left_out (record { runs = c.run_laws-2.ensures; moves = c.move_laws.ensures; pairs = c.simulation_laws.ensures 0; turns = c.turn_laws.ensures })
