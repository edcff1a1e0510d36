use Rattle.sw_top.proofs.CommandLemmas.{run_is_spelled}
use Rattle.sw_top.proofs.laws.command_laws.Goals as goal

pub returns-clause-run : goal.returns-clause-run
returns-clause-run c = run_is_spelled
