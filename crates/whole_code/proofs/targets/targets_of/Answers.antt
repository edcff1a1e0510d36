use Rattle.whole_code.proofs.Numbering.{are_targets}
use Rattle.whole_code.proofs.targets.targets_of.Goals as goal

pub returns : goal.returns
returns c = are_targets c.args.found.now.code c.args.first c.args.yes c.args.no _ _ _ _ _ c.new-jumps.ensures.items c.in_ok-yes_number.ensures c.in_ok-no_number.ensures
