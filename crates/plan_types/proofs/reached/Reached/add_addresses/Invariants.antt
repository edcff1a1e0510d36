use Rattle.std.proofs.Common.{◌≡◌, length, take}
use Rattle.plan_types.specs.Reached.{with_addresses}
use Rattle.plan_types.proofs.reached.Reached.add_addresses.Given as goal

abbrev pub invariant-loop-at : goal.invariant-loop-at
invariant-loop-at l = record { sized : length l.self.marks ≡ length l.code; so_far : l.self ≡ with_addresses l.code l.initial.self (take l.at-index l.addresses) }
