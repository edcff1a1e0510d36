use Rattle.std.proofs.Common.{ℕ, List, [], Contains, subst}
use Rattle.code_discovery.proofs.Members.{head_in}
use Rattle.code_discovery.proofs.Found.{procedure_leads, procedure_named}
use Rattle.code_discovery.proofs.kept.Kept.add_procedure_of.Goals as goal

pub add_procedure-requires-clause-leads : goal.add_procedure-requires-clause-leads
add_procedure-requires-clause-leads c = λ s.
    procedure_leads c.args.scan.now _ c.args.place.now c.requires.found c.in-Some.at (subst (λ (xs : List ℕ). Contains xs c.in-Some.at) c.in-Some.ensures (head_in c.in-Some.at [])) s

pub add_procedure-requires-clause-named : goal.add_procedure-requires-clause-named
add_procedure-requires-clause-named c = λ s.
    procedure_named c.args.scan.now _ c.args.place.now c.requires.found c.in-Some.at (subst (λ (xs : List ℕ). Contains xs c.in-Some.at) c.in-Some.ensures (head_in c.in-Some.at [])) s
