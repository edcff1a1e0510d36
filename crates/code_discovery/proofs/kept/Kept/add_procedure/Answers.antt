use Rattle.code_discovery.proofs.OneMore.{procedure_then}
use Rattle.code_discovery.proofs.kept.Kept.add_procedure.Goals as goal

pub returns-in_ok-keep_procedure-clause-more : goal.returns-in_ok-keep_procedure-clause-more
returns-in_ok-keep_procedure-clause-more c =
    let s = c.stands.ensures.0 c.if-stands.true in
    (procedure_then c.args.scan.now c.args.self.now c.add_leader.new.self c.keep_procedure.new.self c.in_ok-add_leader.ensures.more c.args.at (c.requires.named s) (c.in_ok-add_leader.ensures.kept s) c.in_ok-keep_procedure.ensures).0

pub returns-in_ok-keep_procedure-clause-kept : goal.returns-in_ok-keep_procedure-clause-kept
returns-in_ok-keep_procedure-clause-kept c = λ s.
    (procedure_then c.args.scan.now c.args.self.now c.add_leader.new.self c.keep_procedure.new.self c.in_ok-add_leader.ensures.more c.args.at (c.requires.named s) (c.in_ok-add_leader.ensures.kept s) c.in_ok-keep_procedure.ensures).1
