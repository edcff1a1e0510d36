use Rattle.whole_code.proofs.FirstPage.{places_above}
use Rattle.whole_code.proofs.above.above_law.Goals as goal

pub returns : goal.returns
returns c = places_above c.found_laws.ensures c.code_laws.ensures
