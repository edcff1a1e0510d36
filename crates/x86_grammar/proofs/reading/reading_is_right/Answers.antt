use Rattle.x86_grammar.proofs.Sound.{read_gave, read_wants}
use Rattle.x86_grammar.proofs.Whole.{spells_cut, spells_whole}
use Rattle.x86_grammar.proofs.reading.reading_is_right.Goals as goal

pub returns : goal.returns
returns c = record { right = record { whole = spells_whole; cut = spells_cut; gave = read_gave; wants = read_wants } }
