use Rattle.x86_grammar.proofs.Bytes.{spells_bytes, spells_some}
use Rattle.x86_grammar.proofs.spelling.spelling_is_short.Goals as goal

pub returns : goal.returns
returns c = record { short = λ bytes i s. s.short; some = spells_some; bytes = spells_bytes }
