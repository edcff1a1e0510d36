use Rattle.trace_checks.proofs.Ends.{reporting_ends, counting_ends}
use Rattle.trace_checks.proofs.checks.ending_checks.Goals as goal

pub returns-clause-reporting_ends : goal.returns-clause-reporting_ends
returns-clause-reporting_ends c = reporting_ends c.trace_laws.ensures

pub returns-clause-counting_ends : goal.returns-clause-counting_ends
returns-clause-counting_ends c = counting_ends
