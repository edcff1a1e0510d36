use Rattle.std.proofs.Common.{List, map, subst}
use Rattle.std.specs.List.Sorted.{IsStrictlyIncreasing}
use Rattle.plan_types.specs.declared.table.Table.{Table}
use Rattle.code_discovery.proofs.TableMaps.{tables_ascend}
use Rattle.code_discovery.proofs.table_map.TableMap.ascends.Goals as goal

pub returns : goal.returns
returns c = subst (λ (ts : List Table). IsStrictlyIncreasing (map (λ (t : Table). t.jump) ts)) c.self.view_is (tables_ascend c.self.inside.tables c.self.invariant)
