use Rattle.x86_grammar.proofs.Whole.{one_spelling}
use Rattle.x86_grammar.proofs.spelling.no_spelling_begins_another.Goals as goal

pub returns : goal.returns
returns c = record { one = one_spelling }
