use Rattle.trace_checks.proofs.Rows.{charges_each_step}
use Rattle.trace_checks.proofs.checks.row_checks.Goals as goal

pub returns-clause-charges_each_step : goal.returns-clause-charges_each_step
returns-clause-charges_each_step c = charges_each_step
