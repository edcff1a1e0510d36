use Rattle.std.proofs.Common.{◌≡◌, List, ℕ, length, sym, ap, ◌∙◌, subst}
use Rattle.plan_types.specs.declared.place.Place.{Place}
use Rattle.plan_types.specs.declared.table.Table.{Table}
use Rattle.plan_types.specs.Contents.{FoundContents}
use Rattle.plan_types.specs.Ascending.{Ascends}
use Rattle.plan_types.specs.FoundCode.{IsFoundCode}
use Rattle.code_discovery.proofs.Whole.{places_at, whole_found, whole_ascends, whole_length}
use Rattle.code_discovery.proofs.kept.Kept.into_found.Goals as goal

pub found_with-requires : goal.found_with-requires
found_with-requires c =
    subst (λ (ps : List Place). Ascends ps c.in_ok-procs.procs.items c.in_ok-tables.tables.items) (sym c.in_ok-code.ensures)
    (subst (λ (xs : List ℕ). Ascends (places_at c.args.scan.now c.args.self.code) xs c.in_ok-tables.tables.items) (sym c.in_ok-procs.ensures)
    (subst (λ (ts : List Table). Ascends (places_at c.args.scan.now c.args.self.code) c.args.self.procs ts) (sym c.in_ok-tables.ensures)
    (whole_ascends c.args.scan.now c.args.self c.run_laws.ensures c.requires.sound c.ascends.ensures.code c.ascends.ensures.procs c.ascends.ensures.tables)))

lists : (c d : List Place) (p q : List ℕ) (t u : List Table) → c ≡ d → p ≡ q → t ≡ u → ◌≡◌ {A = FoundContents} (record { code = c; procs = p; tables = t }) (record { code = d; procs = q; tables = u })
lists c d p q t u e1 e2 e3 = cc

pub returns-clause-found : goal.returns-clause-found
returns-clause-found c =
    subst (λ (f : FoundContents). IsFoundCode c.args.scan.now f)
    (sym (c.found_with.ensures ∙ lists c.in_ok-code.code.items (places_at c.args.scan.now c.args.self.code) c.in_ok-procs.procs.items c.args.self.procs c.in_ok-tables.tables.items c.args.self.tables c.in_ok-code.ensures c.in_ok-procs.ensures c.in_ok-tables.ensures))
    (whole_found c.args.scan.now c.args.self c.run_laws.ensures c.requires.sound c.requires.whole c.ascends.ensures.tables)

pub returns-clause-size : goal.returns-clause-size
returns-clause-size c =
    ap (λ (f : FoundContents). length f.code) c.found_with.ensures ∙ (ap (λ (ps : List Place). length ps) c.in_ok-code.ensures ∙ whole_length c.args.scan.now c.args.self c.run_laws.ensures c.requires.sound)
