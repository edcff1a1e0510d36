use Rattle.std.proofs.Common.{ℕ, List, subst}
use Rattle.std.specs.List.Sorted.{IsStrictlyIncreasing}
use Rattle.std.proofs.lemmas.Map.Keys.{IsStrictlyIncreasing-from_sorted}
use Rattle.code_discovery.proofs.address_set.AddressSet.len.Goals as goal

pub returns-clause-ascending : goal.returns-clause-ascending
returns-clause-ascending c = subst (λ (xs : List ℕ). IsStrictlyIncreasing xs) c.self.view_is (IsStrictlyIncreasing-from_sorted c.self.inside.addresses.keys c.len.ensures.ordered)
