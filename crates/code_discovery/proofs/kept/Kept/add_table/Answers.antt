use Rattle.std.proofs.Common.{ℕ, List, Contains, refl, subst, sym}
use Rattle.code_discovery.proofs.Found.{target_leads}
use Rattle.code_discovery.proofs.OneMore.{table_then}
use Rattle.code_discovery.proofs.kept.Kept.add_table.Goals as goal

pub add_leaders-requires-clause-lead : goal.add_leaders-requires-clause-lead
add_leaders-requires-clause-lead c = λ a there s.
    target_leads c.args.scan.now _ c.args.table a c.requires.found (subst (λ (xs : List ℕ). Contains xs a) c.as_slice.ensures there) s

pub returns-in_ok-keep_table-clause-more : goal.returns-in_ok-keep_table-clause-more
returns-in_ok-keep_table-clause-more c =
    (table_then c.args.scan.now c.args.self.now c.add_leaders.new.self c.keep_table.new.self c.in_ok-add_leaders.ensures.more c.args.table c.requires.found (c.if-not-has_table.ensures.longest refl)
    (λ a there s. c.in_ok-add_leaders.ensures.kept a (subst (λ (xs : List ℕ). Contains xs a) (sym c.as_slice.ensures) there) s) c.in_ok-keep_table.ensures).0

pub returns-in_ok-keep_table-clause-covered : goal.returns-in_ok-keep_table-clause-covered
returns-in_ok-keep_table-clause-covered c =
    (table_then c.args.scan.now c.args.self.now c.add_leaders.new.self c.keep_table.new.self c.in_ok-add_leaders.ensures.more c.args.table c.requires.found (c.if-not-has_table.ensures.longest refl)
    (λ a there s. c.in_ok-add_leaders.ensures.kept a (subst (λ (xs : List ℕ). Contains xs a) (sym c.as_slice.ensures) there) s) c.in_ok-keep_table.ensures).1

pub returns-else-not-has_table-clause-covered : goal.returns-else-not-has_table-clause-covered
returns-else-not-has_table-clause-covered c = record {
  kept = c.if-not-has_table.ensures.kept refl;
  targets = λ a there s. c.in_ok-add_leaders.ensures.kept a (subst (λ (xs : List ℕ). Contains xs a) (sym c.as_slice.ensures) there) s;
}
