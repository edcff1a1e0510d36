use Rattle.code_discovery.proofs.Found.{leader_found}
use Rattle.code_discovery.proofs.OneMore.{leader_then}
use Rattle.code_discovery.proofs.kept.Kept.add_leader.Goals as goal

pub add_code-requires-clause-found : goal.add_code-requires-clause-found
add_code-requires-clause-found c = λ s. leader_found c.args.scan.now c.args.self.now.stored c.args.at (c.requires.leads s) s

pub returns-in_ok-keep_leader-clause-more : goal.returns-in_ok-keep_leader-clause-more
returns-in_ok-keep_leader-clause-more c =
    let s = c.stands.ensures.0 c.if-stands.true in
    (leader_then c.args.scan.now c.args.self.now c.add_code.new.self c.keep_leader.new.self c.in_ok-add_code.ensures.more c.args.at (c.requires.leads s) (c.in_ok-add_code.ensures.kept s) c.in_ok-keep_leader.ensures).0

pub returns-in_ok-keep_leader-clause-kept : goal.returns-in_ok-keep_leader-clause-kept
returns-in_ok-keep_leader-clause-kept c = λ s.
    (leader_then c.args.scan.now c.args.self.now c.add_code.new.self c.keep_leader.new.self c.in_ok-add_code.ensures.more c.args.at (c.requires.leads s) (c.in_ok-add_code.ensures.kept s) c.in_ok-keep_leader.ensures).1
