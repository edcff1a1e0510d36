use Rattle.std.proofs.Common.{ap, subst}
use Rattle.code_discovery.specs.Kept.{FoundSoFar}
use Rattle.code_discovery.specs.Tables.{IsPut}
use Rattle.code_discovery.specs.Added.{with_tables}
use Rattle.code_discovery.proofs.kept.Kept.keep_table.Goals as goal

pub returns : goal.returns
returns c = record {
  tables = c.put.new.self;
  put = subst (λ (k : FoundSoFar). IsPut k.tables c.args.table c.put.new.self) c.self.view_is c.in_ok-put.ensures;
  is = ap (λ (k : FoundSoFar). with_tables k c.put.new.self) c.self.view_is;
}
