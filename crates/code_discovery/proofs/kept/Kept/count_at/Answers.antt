use Rattle.std.proofs.Common.{subst}
use Rattle.code_discovery.specs.Kept.{FoundSoFar}
use Rattle.code_discovery.specs.Tables.{IsLengthAt}
use Rattle.code_discovery.proofs.kept.Kept.count_at.Goals as goal

pub returns : goal.returns
returns c = subst (λ (k : FoundSoFar). IsLengthAt k.tables c.args.jump c.length_at.result) c.self.view_is c.length_at.ensures
