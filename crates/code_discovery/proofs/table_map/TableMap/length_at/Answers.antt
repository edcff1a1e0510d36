use Rattle.std.proofs.Common.{◌≡◌, List, ℕ, length, None, sym, ap, subst}
use Rattle.plan_types.specs.declared.table.Table.{Table}
use Rattle.code_discovery.specs.Tables.{IsLengthAt, HasLength}
use Rattle.code_discovery.proofs.TableMaps.{no_length, its_length}
use Rattle.code_discovery.proofs.table_map.TableMap.length_at.Goals as goal

pub returns-in-None : goal.returns-in-None
returns-in-None c = subst (λ (ts : List Table). IsLengthAt ts c.args.jump None) c.self.view_is (no_length c.self.inside.tables c.self.invariant c.args.jump (sym c.in-None.ensures.value))

pub returns-in-Some : goal.returns-in-Some
returns-in-Some c =
    let words : length c.in-Some.table.now.targets ≡ length c.as_slice.result.now = ap (λ (xs : List ℕ). length xs) (sym c.as_slice.ensures) in
    subst (λ (ts : List Table). HasLength ts c.args.jump (length c.as_slice.result.now)) c.self.view_is
    (subst (λ n. HasLength (Rattle.std.specs.BTreeMap.values c.self.inside.tables) c.args.jump n) words (its_length c.self.inside.tables c.self.invariant c.args.jump c.in-Some.table.now (sym c.in-Some.ensures.value)))
