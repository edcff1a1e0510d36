use Rattle.trace_checks.proofs.Weight.{walk_paced, refuses_weight_without_constant, allows_weight_with_constant}
use Rattle.trace_checks.proofs.checks.weight_checks.Goals as goal

pub returns-clause-walk_paced : goal.returns-clause-walk_paced
returns-clause-walk_paced c = walk_paced c.invariant_laws.ensures

pub returns-clause-refuses_weight_without_constant : goal.returns-clause-refuses_weight_without_constant
returns-clause-refuses_weight_without_constant c = refuses_weight_without_constant

pub returns-clause-allows_weight_with_constant : goal.returns-clause-allows_weight_with_constant
returns-clause-allows_weight_with_constant c = allows_weight_with_constant c.invariant_laws.ensures
