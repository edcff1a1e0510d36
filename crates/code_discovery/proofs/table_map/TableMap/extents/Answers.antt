use Rattle.std.proofs.Common.{rules, ◌≡◌, List, map, IfOk, refl, sym, ap, ◌∙◌, subst}
use Rattle.std.proofs.lemmas.Iterator.{YieldsList-from_map, items_from_collect}
use Rattle.std.proofs.lemmas.Iterator.Consumers.{YieldsList-at, YieldsList-from_rest}
use Rattle.plan_types.specs.declared.table.Table.{Table}
use Rattle.code_discovery.specs.declared.table_extents.TableExtent.{TableExtent}
use Rattle.code_discovery.specs.Extents.{extent_of}
use Rattle.code_discovery.proofs.table_map.TableMap.extents.Goals as goal

pub returns : goal.returns
returns c =
    items_from_collect c.collect.result c.collect.ensures.ran
    (YieldsList-from_map _ extent_of (YieldsList-at c.map.ensures.source (YieldsList-from_rest c.args.self.now (c.values.ensures.rest ∙ c.self.view_is))) c.map.ensures.closure (λ x r q k. search rules))
