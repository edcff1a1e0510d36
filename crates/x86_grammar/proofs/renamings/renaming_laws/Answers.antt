use Rattle.x86_grammar.proofs.RenamedFields.{keeps, stays, spelling_keeps, spelling_stays}
use Rattle.x86_grammar.proofs.renamings.renaming_laws.Goals as goal

pub returns : goal.returns
returns c = record { kept = record { fields = λ f i k. keeps f k i; spelling = spelling_keeps; fields_stay = λ f i k. stays f k i; spelling_stays = spelling_stays } }
