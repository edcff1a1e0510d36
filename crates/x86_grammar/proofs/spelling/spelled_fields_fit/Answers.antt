use Rattle.x86_grammar.proofs.Fit.{spelled_exact}
use Rattle.x86_grammar.proofs.spelling.spelled_fields_fit.Goals as goal

pub returns : goal.returns
returns c = record { fields = spelled_exact }
