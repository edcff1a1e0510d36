use Rattle.std.proofs.Common.{◌≡◌, take}
use Rattle.code_discovery.specs.Extents.{raised}
use Rattle.code_discovery.proofs.Extents.{highest}
use Rattle.code_discovery.proofs.table_extents.raise.Given as goal

abbrev pub invariant-loop-extent : goal.invariant-loop-extent
invariant-loop-extent l = record {
  extents : l.extents.items ≡ raised 0 (take l.extent-index l.ordered);
  end : l.end ≡ highest 0 (take l.extent-index l.ordered);
}
