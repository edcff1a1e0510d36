use Rattle.std.proofs.Common.{sym, subst}
use Rattle.plan_types.specs.FoundCode.{Stands}
use Rattle.code_discovery.specs.Kept.{IsFoundAt}
use Rattle.code_discovery.proofs.Found.{next_found}
use Rattle.code_discovery.proofs.kept.Kept.add_next.Goals as goal

pub add_code-requires-clause-found : goal.add_code-requires-clause-found
add_code-requires-clause-found c =
    subst (λ n. Stands c.args.scan.now n → IsFoundAt c.args.scan.now c.args.self.now.stored n) (sym c.next_of.ensures)
    (next_found c.args.scan.now c.args.self.now.stored c.run_laws.ensures c.args.place.now c.requires.found (sym c.if-not-ends_run.ensures))
