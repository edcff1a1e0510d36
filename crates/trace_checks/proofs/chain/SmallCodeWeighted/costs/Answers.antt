use Rattle.trace_checks.proofs.LaidCode.{laid_costs_code}
use Rattle.trace_checks.proofs.chain.SmallCodeWeighted.costs.Goals as goal

pub returns : goal.returns
returns c byte n = laid_costs_code c.run_laws.ensures byte c.simulation_laws.ensures n
