use Rattle.std.proofs.Common.{ℕ, List, [], Contains, subst}
use Rattle.code_discovery.proofs.Members.{head_in}
use Rattle.code_discovery.proofs.Found.{leader_leads}
use Rattle.code_discovery.proofs.kept.Kept.add_leader_of.Goals as goal

pub add_leader-requires-clause-leads : goal.add_leader-requires-clause-leads
add_leader-requires-clause-leads c = λ s.
    leader_leads c.args.scan.now _ c.args.place.now c.requires.found c.in-Some.at (subst (λ (xs : List ℕ). Contains xs c.in-Some.at) c.in-Some.ensures (head_in c.in-Some.at [])) s
