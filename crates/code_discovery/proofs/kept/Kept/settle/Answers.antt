use Rattle.std.proofs.Common.{subst, Some}
use Rattle.code_discovery.specs.declared.work.Work.{Work}
use Rattle.code_discovery.specs.Settled.{IsSettling}
use Rattle.code_discovery.proofs.AllSettled.{code_done, leader_done}
use Rattle.code_discovery.proofs.kept.Kept.settle.Goals as goal

pub returns-in_ok-settle_code-in-Instruction-clause-settling : goal.returns-in_ok-settle_code-in-Instruction-clause-settling
returns-in_ok-settle_code-in-Instruction-clause-settling c =
    code_done c.args.scan.now c.settle_code.new.self c.in-Instruction.at
    (subst (λ (w : Work). IsSettling c.args.scan.now c.settle_code.new.self (Some w)) c.in-Instruction.is (c.in_ok-settle_code-in-Instruction.ensures.more.settling (Some c.args.work) c.requires.settling))
    c.in_ok-settle_code-in-Instruction.ensures.settled

pub returns-in_ok-settle_leader-in-Leader-clause-settling : goal.returns-in_ok-settle_leader-in-Leader-clause-settling
returns-in_ok-settle_leader-in-Leader-clause-settling c =
    leader_done c.args.scan.now c.settle_leader.new.self c.in-Leader.at
    (subst (λ (w : Work). IsSettling c.args.scan.now c.settle_leader.new.self (Some w)) c.in-Leader.is (c.in_ok-settle_leader-in-Leader.ensures.more.settling (Some c.args.work) c.requires.settling))
    c.in_ok-settle_leader-in-Leader.ensures.settled
