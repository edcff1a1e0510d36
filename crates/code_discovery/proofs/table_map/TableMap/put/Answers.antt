use Rattle.std.proofs.Common.{List, subst}
use Rattle.std.specs.BTreeMap.{values}
use Rattle.plan_types.specs.declared.table.Table.{Table}
use Rattle.code_discovery.specs.Tables.{IsPut}
use Rattle.code_discovery.proofs.TableMaps.{put_keyed, put_is}
use Rattle.code_discovery.proofs.table_map.TableMap.put.Goals as goal

pub invariant_of-self-2 : goal.invariant_of-self-2
invariant_of-self-2 c = put_keyed c.self.inside.tables c.insert.new.self c.self.invariant c.args.table c.in_ok-insert.ensures.ordered c.in_ok-insert.ensures.updates

pub returns : goal.returns
returns c = subst (λ (ts : List Table). IsPut ts c.args.table (values c.insert.new.self)) c.self.view_is
    (put_is c.self.inside.tables c.insert.new.self c.self.invariant c.args.table c.in_ok-insert.ensures.ordered c.in_ok-insert.ensures.updates)
