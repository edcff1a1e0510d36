use Rattle.x86_grammar.proofs.Fit.{spelled_exact}
use Rattle.x86_grammar.proofs.spelling.has_spelling.Goals as goal

pub returns : goal.returns
returns c = record { exact = rw c.fields_fit.ensures (spelled_exact c.args.instr.now) }
