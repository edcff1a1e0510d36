use Rattle.code_discovery.proofs.OneMore.{added_code}
use Rattle.code_discovery.proofs.kept.Kept.add_code.Goals as goal

pub returns-in_ok-keep_code-clause-more : goal.returns-in_ok-keep_code-clause-more
returns-in_ok-keep_code-clause-more c =
    (added_code c.args.scan.now c.args.self.now c.requires.sound c.args.at c.keep_code.new.self c.in_ok-keep_code.ensures (c.requires.found (c.stands.ensures.0 c.if-stands.true))).0

pub returns-in_ok-keep_code-clause-kept : goal.returns-in_ok-keep_code-clause-kept
returns-in_ok-keep_code-clause-kept c = λ s.
    (added_code c.args.scan.now c.args.self.now c.requires.sound c.args.at c.keep_code.new.self c.in_ok-keep_code.ensures (c.requires.found s)).1
