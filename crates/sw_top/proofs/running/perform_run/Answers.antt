use Rattle.sw_host.specs.Chains.{tells_map, tells_then}
use Rattle.sw_top.specs.declared.command.Running.{Running}
use Rattle.sw_top.specs.Running.{before_run, in_run}
use Rattle.sw_top.proofs.RunLemmas.{ran, stopped}
use Rattle.sw_top.proofs.running.perform_run.Goals as goal

pub returns-in_default-clause-performs : goal.returns-in_default-clause-performs
returns-in_default-clause-performs g c = tells_map _ _ _ _ c.in-Ok.ensures.loads (λ a b p. before_run p.1)

pub returns-in-Ok-run-clause-performs : goal.returns-in-Ok-run-clause-performs
returns-in-Ok-run-clause-performs g c =
    let running : Running = c.args.running.now in
    tells_then _ _ _ _ _ _ c.in-Ok.ensures.loads c.in-Ok-run.ensures.runs (λ a m b p q. ran c.run_laws.ensures running c.in-Ok.image c.in-Ok-start_machine.machine c.run.new.self c.in-Ok-start_machine.ensures a m b p.1 c.in-Ok-run.end p.0 q)

pub returns-clause-performs : goal.returns-clause-performs
returns-clause-performs g c =
    let running : Running = c.args.running.now in
    tells_then _ _ _ _ _ _ c.in-Ok.ensures.loads c.in-Err-run.ensures.runs (λ a m b p q. in_run (stopped c.run_laws.ensures running c.in-Ok.image c.in-Ok-start_machine.machine c.run.new.self c.in-Ok-start_machine.ensures a m b p.1 c.in-Err-run.field-0 p.0 q))
