use Rattle.std.proofs.Common.{◌≡◌, ◌++◌, drop}
use Rattle.plan_types.specs.Reached.{marked_addresses}
use Rattle.plan_types.proofs.reached.Reached.addresses.Given as goal

abbrev pub invariant-loop-index : goal.invariant-loop-index
invariant-loop-index l = l.addresses.items ++ marked_addresses (drop l.index l.self-inside.marks.items) (drop l.index l.code) ≡ marked_addresses l.self-inside.marks.items l.code
