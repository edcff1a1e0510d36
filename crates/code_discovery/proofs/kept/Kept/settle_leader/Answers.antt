use Rattle.std.proofs.Common.{◌≡◌, List, Some, sym, subst}
use Rattle.plan_types.specs.declared.place.Place.{Place}
use Rattle.plan_types.specs.Tables.{table_in}
use Rattle.code_discovery.proofs.kept.Kept.settle_leader.Goals as goal

pub returns-clause-settled : goal.returns-clause-settled
returns-clause-settled c = λ t is. c.in_ok-add_table_of.ensures.covered t (subst (λ (run : List Place). table_in c.args.scan.now run ≡ Some t) (sym c.in_ok-run.ensures.run) is)
