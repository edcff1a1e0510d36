use Rattle.sw_top.proofs.top.perform.Goals as goal

pub returns-in-Rewrite-clause-performs : goal.returns-in-Rewrite-clause-performs
returns-in-Rewrite-clause-performs g c = rw c.in-Rewrite.is c.perform_rewrite.ensures.performs

pub returns-in-Run-clause-performs : goal.returns-in-Run-clause-performs
returns-in-Run-clause-performs g c = rw c.in-Run.is c.perform_run.ensures.performs
