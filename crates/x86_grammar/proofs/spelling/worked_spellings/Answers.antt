use Rattle.x86_grammar.proofs.Worked.{all_spelled, none_spelled_there}
use Rattle.x86_grammar.proofs.spelling.worked_spellings.Goals as goal

pub returns-clause-spelled : goal.returns-clause-spelled
returns-clause-spelled c = all_spelled

pub returns-clause-nothing : goal.returns-clause-nothing
returns-clause-nothing c = none_spelled_there
