use Rattle.std.proofs.Common.{◌≡◌, ◌≤◌, List, length, Some, sym, ◌∙◌, subst, arith}
use Rattle.x86_code.specs.Code.{code_of}
use Rattle.plan_types.specs.declared.place.Place.{Place}
use Rattle.plan_types.specs.Tables.{table_in}
use Rattle.plan_types.specs.FoundCode.{run_in}
use Rattle.code_discovery.proofs.Found.{place_table}
use Rattle.code_discovery.proofs.Runs.{few_in_run}
use Rattle.code_discovery.proofs.kept.Kept.add_table_behind.Goals as goal

pub add_table_of-requires-clause-found : goal.add_table_of-requires-clause-found
add_table_of-requires-clause-found c = λ t is.
    let far : 9 ≤ length (run_in c.args.scan.now 9 c.args.place.now.at) = subst (λ (run : List Place). 9 ≤ length run) (c.as_slice.ensures ∙ c.in_ok-run.ensures.run) c.if-as_slice-lt-NEAR.false in
    place_table c.args.scan.now _ c.args.place.now c.requires.found t (omega (arith, few_in_run (code_of c.args.scan.now) 9 c.args.place.now.at))
    (subst (λ (run : List Place). table_in c.args.scan.now run ≡ Some t) c.in_ok-run.ensures.run is)

pub returns-clause-covered : goal.returns-clause-covered
returns-clause-covered c = λ t nine is. c.in_ok-add_table_of.ensures.covered t (subst (λ (run : List Place). table_in c.args.scan.now run ≡ Some t) (sym c.in_ok-run.ensures.run) is)
