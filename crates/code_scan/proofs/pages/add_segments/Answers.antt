use Rattle.std.proofs.Common.{◌≡◌, ◌-◌, ◌+◌, ◌/◌, ◌∙◌, arith, refl, ap, find, drop, length}
use Rattle.image.specs.Addresses.{holds}
use Rattle.code_scan.proofs.Paging.{none_listed, one_listed}
use Rattle.code_scan.proofs.pages.add_segments.Goals as goal

pub loop-left-init : goal.loop-left-init
loop-left-init c = record {
  within = omega arith;
  size = refl;
  listed = λ a. none_listed c.args.segments.now a _ (c.requires.none (a / 4096));
}

pub loop-left-preserved : goal.loop-left-preserved
loop-left-preserved c = record {
  within = omega arith;
  size = c.add_segment.ensures.size ∙ c.loop-left.invariant.size;
  listed = λ a.
      let e : c.loop-left.left - 1 + 1 ≡ c.loop-left.left = omega arith in
      one_listed c.args.segments.now (c.loop-left.left - 1) _ _ a c.index-segments-left.result (omega arith) c.index-segments-left.is (c.add_segment.ensures.pages a (length c.args.segments.now)) (ap (λ k. find (holds a) (drop k c.args.segments.now)) e ∙ c.loop-left.invariant.listed a);
}
