use Rattle.std.proofs.Common.{◌≡◌, ℕ, ◌==◌, None, Some, List, find, position, slice_get, subst, ap, sym, ◌∙◌, OnOk, ◌<◌, length, get_or}
use Rattle.std.proofs.lemmas.Option.{slice_get-get_or}
use Rattle.std.proofs.lemmas.List.Quantifiers.{position-Some}
use Rattle.plan_types.specs.declared.table.Table.{Table}
use Rattle.plan_types.specs.Contents.{FoundContents}
use Rattle.plan_types.specs.Reached.{with_addresses}
use Rattle.plan_types.specs.Body.{targets_in, targets_at}
use Rattle.plan_types.proofs.Reaching.{found_by}
use Rattle.plan_types.proofs.reached.Reached.add_table.Goals as goal

pub returns-in-None : goal.returns-in-None
returns-in-None c =
    let is : c.index_of.result ≡ position (λ (t : Table). t.jump == c.args.jump) c.found.inside.tables =
    subst (λ (ts : List Table). c.index_of.result ≡ position (λ (t : Table). t.jump == c.args.jump) ts) c.as_slice-tables.ensures c.index_of.ensures in
    let none : find (λ (t : Table). t.jump == c.args.jump) c.found.inside.tables ≡ None = found_by (λ (t : Table). t.jump == c.args.jump) c.found.inside.tables None (sym c.in-None.is ∙ is) in
    subst (λ (f : FoundContents). c.args.self.now ≡ with_addresses f.code c.args.self.now (targets_at f c.args.jump)) c.found.view_is
    (sym (ap (λ o. with_addresses c.found.inside.code c.args.self.now (targets_in o)) none))

pub returns-in-Some : goal.returns-in-Some
returns-in-Some c =
    let is : c.index_of.result ≡ position (λ (t : Table). t.jump == c.args.jump) c.found.inside.tables =
    subst (λ (ts : List Table). c.index_of.result ≡ position (λ (t : Table). t.jump == c.args.jump) ts) c.as_slice-tables.ensures c.index_of.ensures in
    let there : find (λ (t : Table). t.jump == c.args.jump) c.found.inside.tables ≡ slice_get c.found.inside.tables c.in-Some.index = found_by (λ (t : Table). t.jump == c.args.jump) c.found.inside.tables (Some c.in-Some.index) (sym c.in-Some.is ∙ is) in
    let f : FoundContents = record { code = c.found.inside.code; procs = c.found.inside.procs; tables = c.found.inside.tables } in
    let item : Table = c.index-tables-index.result in
    let low : c.in-Some.index < length c.found.inside.tables = slice_get_found c.in-Some.index (sym is ∙ c.in-Some.is) in
    let read : item ≡ get_or c.found.inside.tables c.in-Some.index item = subst (λ (ts : List Table). item ≡ get_or ts c.in-Some.index item) c.as_slice-tables.ensures c.index-tables-index.is in
    let targets : targets_at f c.args.jump ≡ item.targets = ap (λ o. targets_in o) (there ∙ (slice_get-get_or c.found.inside.tables c.in-Some.index item low ∙ ap Some (sym read))) in
    let listed : c.as_slice-in-Some.result.now ≡ item.targets = c.as_slice-in-Some.ensures ∙ ap (λ (t : Table). t.targets) (sym c.index-tables-index.is) in
    let goes : OnOk c.add_addresses.result (c.add_addresses.new.self ≡ with_addresses c.found.inside.code c.args.self.now (targets_at f c.args.jump)) =
    rw (targets, ← listed, ← c.as_slice.ensures) c.add_addresses.ensures in
    subst (λ (f : FoundContents). OnOk c.add_addresses.result (c.add_addresses.new.self ≡ with_addresses f.code c.args.self.now (targets_at f c.args.jump))) c.found.view_is goes
  where
    slice_get_found : (k : ℕ) → position (λ (t : Table). t.jump == c.args.jump) c.found.inside.tables ≡ Some k → k < length c.found.inside.tables
    slice_get_found k e = (position-Some (λ (t : Table). t.jump == c.args.jump) c.found.inside.tables k c.index-tables-index.result e).0
