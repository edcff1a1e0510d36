use Rattle.std.proofs.Common.{◌≡◌, ℕ, Bool, get_or, Contains, below_more, sym, subst, ◌∙◌, arith}
use Rattle.std.proofs.lemmas.List.{get_or_default}
use Rattle.std.proofs.lemmas.List.Elements.{Contains-get_or}
use Rattle.plan_types.specs.FoundCode.{Stands, IsLeader}
use Rattle.code_discovery.specs.Kept.{GivenIn}
use Rattle.code_discovery.proofs.Growth.{more_then}
use Rattle.code_discovery.proofs.kept.Kept.add_leaders.Goals as goal

pub add_leader-requires-clause-leads : goal.add_leader-requires-clause-leads
add_leader-requires-clause-leads c =
    let a : ℕ = get_or c.args.addresses.now c.loop-at.at-index 0 in
    subst (λ (b : Bool). Stands c.args.scan.now a → IsLeader c.args.scan.now (GivenIn c.args.scan.now b) a) (sym c.loop-at.invariant.more.stored)
    (c.requires.lead a (Contains-get_or c.args.addresses.now c.loop-at.at-index 0 c.loop-at-test.true))

pub loop-at-preserved : goal.loop-at-preserved
loop-at-preserved c = record {
  more = more_then c.args.scan.now c.args.self.now c.loop-at.self c.add_leader.new.self c.loop-at.invariant.more c.in_ok-add_leader.ensures.more;
  kept = below_more (λ i. Stands c.args.scan.now (get_or c.args.addresses.now i 0) → Contains c.add_leader.new.self.leaders (get_or c.args.addresses.now i 0)) c.loop-at.at-index
      (λ i low s. c.in_ok-add_leader.ensures.more.grows.leaders (get_or c.args.addresses.now i 0) (c.loop-at.invariant.kept i low s)) c.in_ok-add_leader.ensures.kept;
}

pub returns-clause-kept : goal.returns-clause-kept
returns-clause-kept c = λ a there s.
    let is : get_or c.args.addresses.now there.0 0 ≡ a = get_or_default c.args.addresses.now there.0 0 a there.1 ∙ there.2 in
    subst (λ n. Stands c.args.scan.now n → Contains c.loop-at.self.leaders n) is (c.loop-at.invariant.kept there.0 (omega (arith, there.1))) s
