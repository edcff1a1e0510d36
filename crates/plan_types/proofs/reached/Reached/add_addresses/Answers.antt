use Rattle.std.proofs.Common.{ℕ, get_or, ap, sym, ◌∙◌, length}
use Rattle.std.proofs.lemmas.List.Sums.{fold_more}
use Rattle.plan_types.specs.Reached.{ReachedContents, with_address}
use Rattle.plan_types.proofs.Reaching.{sized_address}
use Rattle.plan_types.proofs.reached.Reached.add_addresses.Goals as goal

pub loop-at-preserved : goal.loop-at-preserved
loop-at-preserved c =
    let a : ℕ = get_or c.args.addresses.now c.loop-at.at-index 0 in
    record {
      sized = ap (λ (r : ReachedContents). length r.marks) c.in_ok-add_address.ensures ∙ (sized_address c.args.code.now c.loop-at.self a ∙ c.loop-at.invariant.sized);
      so_far = c.in_ok-add_address.ensures
          ∙ (ap (λ (r : ReachedContents). with_address c.args.code.now r a) c.loop-at.invariant.so_far
          ∙ sym (fold_more (with_address c.args.code.now) c.args.self.now c.args.addresses.now c.loop-at.at-index 0 c.loop-at-test.true));
    }
