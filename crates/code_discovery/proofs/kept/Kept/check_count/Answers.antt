use Rattle.std.proofs.Common.{refl, arith}
use Rattle.code_discovery.proofs.TooMany.{too_many}
use Rattle.code_discovery.proofs.kept.Kept.check_count.Goals as goal
use Rattle.code_discovery.proofs.kept.Kept.check_count.Goals.{then-count_code-gt-MOST-via-then-count_code-gt-MOST, then-count_code-gt-MOST-via-else-count_code-gt-MOST+then-count_leaders-gt-MOST}

pub returns-then-count_code-gt-MOST-clause-refused : goal.returns-then-count_code-gt-MOST-clause-refused
returns-then-count_code-gt-MOST-clause-refused c = (
  refl,
  elim c.then-count_code-gt-MOST.branch [
    | then-count_code-gt-MOST-via-then-count_code-gt-MOST w ↦
        too_many c.args.scan.now c.args.self.now.stored 32768 c.args.self.now.code c.count_code.ensures.ascending c.requires.code (omega (arith, c.count_code.ensures.count))
    | then-count_code-gt-MOST-via-else-count_code-gt-MOST+then-count_leaders-gt-MOST w ↦
        too_many c.args.scan.now c.args.self.now.stored 32768 c.args.self.now.leaders w.count_leaders.ensures.ascending (λ a there. c.requires.code a (c.requires.leaders a there).code) (omega (arith, w.count_leaders.ensures.count))
  ],
)
