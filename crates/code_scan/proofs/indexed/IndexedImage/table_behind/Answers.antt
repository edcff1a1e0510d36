use Rattle.std.proofs.Common.{◌≡◌, ◌++◌, ◌∙◌, reverse, take, ap, sym}
use Rattle.plan_types.specs.Tables.{targets_by}
use Rattle.code_scan.proofs.Behind.{no_table, one_table, last_places, earlier_places}
use Rattle.code_scan.proofs.indexed.IndexedImage.table_behind.Goals as goal

pub returns-in_default-clause-table : goal.returns-in_default-clause-table
returns-in_default-clause-table c = no_table c.args.self.now c.args.before.now c.args.jump.now c.in_default.ensures

pub returns-in_default-clause-eight : goal.returns-in_default-clause-eight
returns-in_default-clause-eight c = λ earlier _. no_table c.args.self.now (earlier ++ c.args.before.now) c.args.jump.now c.in_default.ensures

pub returns-clause-table : goal.returns-clause-table
returns-clause-table c =
    let near : reverse c.last_eight.result.now ≡ take 8 (reverse c.args.before.now) = ap reverse c.last_eight.ensures ∙ last_places 8 c.args.before.now in
    one_table c.args.self.now c.args.before.now c.last_eight.result.now c.args.jump.now c.in-Some.index c.in-Some.start c.new.result c.in-Some.ensures near (c.new.ensures ∙ c.in_ok-targets.ensures ∙ ap (targets_by c.args.self.now c.in-Some.start) c.bound_behind-bound.ensures)

pub returns-clause-eight : goal.returns-clause-eight
returns-clause-eight c = λ earlier enough.
    let near : reverse c.last_eight.result.now ≡ take 8 (reverse (earlier ++ c.args.before.now)) = ap reverse c.last_eight.ensures ∙ last_places 8 c.args.before.now ∙ sym (earlier_places 8 earlier c.args.before.now enough) in
    one_table c.args.self.now (earlier ++ c.args.before.now) c.last_eight.result.now c.args.jump.now c.in-Some.index c.in-Some.start c.new.result c.in-Some.ensures near (c.new.ensures ∙ c.in_ok-targets.ensures ∙ ap (targets_by c.args.self.now c.in-Some.start) c.bound_behind-bound.ensures)
