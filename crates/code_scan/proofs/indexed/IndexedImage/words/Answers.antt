use Rattle.std.proofs.Common.{◌+◌, ◌-◌, ◌++◌, ◌∙◌, arith, ap, sym}
use Rattle.plan_types.specs.Tables.{table_words}
use Rattle.code_scan.specs.Bounds.{is_target}
use Rattle.code_scan.proofs.TableWords.{by_bound, words_stop, words_end, words_go_on, words_are_full}
use Rattle.code_scan.proofs.indexed.IndexedImage.words.Goals as goal

pub loop-left-init : goal.loop-left-init
loop-left-init c = record {
  near = omega (arith, c.most_words-left.ensures.few);
  words =
      by_bound c.args.self.now c.args.start c.args.bound
      ∙ ap (λ n. table_words c.args.self.now (is_target c.args.self.now c.args.bound) n c.args.start) (sym c.most_words-left.ensures.count)
      ∙ ap (λ at. table_words c.args.self.now (is_target c.args.self.now c.args.bound) c.most_words-left.result at) (sym c.from-at.ensures)
      ∙ ap (λ xs. xs ++ table_words c.args.self.now (is_target c.args.self.now c.args.bound) c.most_words-left.result c.from-at.result) (sym c.new-words.ensures.items);
}

pub returns-in_default : goal.returns-in_default
returns-in_default c = words_stop c.args.self.now (is_target c.args.self.now c.args.bound) c.loop-left.at c.loop-left.left _ c.loop-left.words.items (omega arith) c.loop-left.invariant.words c.in_default.ensures

pub returns-then-not-is_target : goal.returns-then-not-is_target
returns-then-not-is_target c = words_end c.args.self.now (is_target c.args.self.now c.args.bound) c.loop-left.at c.loop-left.left _ c.loop-left.words.items (omega arith) c.loop-left.invariant.words c.in-Some.word c.in-Some.ensures (sym c.if-not-is_target.ensures)

pub loop-left-preserved : goal.loop-left-preserved
loop-left-preserved c = record {
  near = omega arith;
  words =
      words_go_on c.args.self.now (is_target c.args.self.now c.args.bound) c.loop-left.at c.loop-left.left _ c.loop-left.words.items (omega arith) c.loop-left.invariant.words c.in-Some.word c.in-Some.ensures (sym c.if-not-is_target.ensures)
      ∙ ap (λ xs. xs ++ table_words c.args.self.now (is_target c.args.self.now c.args.bound) (c.loop-left.left - 1) (c.loop-left.at + 4)) (sym c.in_ok-push.ensures.items);
}

pub returns : goal.returns
returns c = words_are_full c.args.self.now (is_target c.args.self.now c.args.bound) c.loop-left.at c.loop-left.left _ c.loop-left.words.items (omega arith) c.loop-left.invariant.words
