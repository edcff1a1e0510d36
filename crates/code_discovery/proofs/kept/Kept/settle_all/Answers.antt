use Rattle.std.proofs.Common.{◌≡◌, ℕ, ◌+◌, ◌-◌, ◌<◌, ◌≤◌, length, sym, ◌∙◌, subst, arith}
use Rattle.code_discovery.specs.Kept.{FoundSoFar}
use Rattle.code_discovery.specs.Settled.{IsClosed, looked_at}
use Rattle.code_discovery.proofs.Growth.{grows_then}
use Rattle.code_discovery.proofs.AllSettled.{taken, all_closed}
use Rattle.code_discovery.proofs.kept.Kept.settle_all.Goals as goal

pub settle-requires-clause-sound : goal.settle-requires-clause-sound
settle-requires-clause-sound c = (taken c.args.scan.now c.loop-work.self c.in-Some.work c.next_work.new.self c.in-Some.ensures c.loop-work.invariant.sound c.loop-work.invariant.settling).sound

pub settle-requires-clause-kept : goal.settle-requires-clause-kept
settle-requires-clause-kept c = (taken c.args.scan.now c.loop-work.self c.in-Some.work c.next_work.new.self c.in-Some.ensures c.loop-work.invariant.sound c.loop-work.invariant.settling).kept

pub settle-requires-clause-settling : goal.settle-requires-clause-settling
settle-requires-clause-settling c = (taken c.args.scan.now c.loop-work.self c.in-Some.work c.next_work.new.self c.in-Some.ensures c.loop-work.invariant.sound c.loop-work.invariant.settling).settling

pub loop-work-preserved : goal.loop-work-preserved
loop-work-preserved c =
    let t = taken c.args.scan.now c.loop-work.self c.in-Some.work c.next_work.new.self c.in-Some.ensures c.loop-work.invariant.sound c.loop-work.invariant.settling in
    record {
      sound = c.in_ok-settle.ensures.more.sound;
      settling = c.in_ok-settle.ensures.settling;
      grows = grows_then c.args.self.now c.loop-work.self c.settle.new.self c.loop-work.invariant.grows (grows_then c.loop-work.self c.next_work.new.self c.settle.new.self t.grows c.in_ok-settle.ensures.more.grows);
      stored = c.in_ok-settle.ensures.more.stored ∙ (t.stored ∙ c.loop-work.invariant.stored);
      code = c.in_ok-check_count-2.ensures.code;
      leaders = c.in_ok-check_count-2.ensures.leaders;
    }

smaller : (old mid new looked_old looked_mid looked_new : ℕ) → old ≡ mid + 1 → looked_mid ≡ looked_old → new + looked_mid ≡ mid + looked_new → looked_old ≤ 65536 → looked_new ≤ 65536
    → (65536 + new) - looked_new < (65536 + old) - looked_old
smaller old mid new looked_old looked_mid looked_new sized looked more low high = omega arith

pub loop-work-smaller : goal.loop-work-smaller
loop-work-smaller c =
    let t = taken c.args.scan.now c.loop-work.self c.in-Some.work c.next_work.new.self c.in-Some.ensures c.loop-work.invariant.sound c.loop-work.invariant.settling in
    smaller (length c.loop-work.self.todo) (length c.next_work.new.self.todo) (length c.settle.new.self.todo) (looked_at c.loop-work.self) (looked_at c.next_work.new.self) (looked_at c.settle.new.self)
    t.sized t.looked c.in_ok-settle.ensures.more.sized (omega (arith, c.loop-work.invariant.code, c.loop-work.invariant.leaders)) (omega (arith, c.in_ok-check_count-2.ensures.code, c.in_ok-check_count-2.ensures.leaders))

pub returns-clause-closed : goal.returns-clause-closed
returns-clause-closed c =
    subst (λ (k : FoundSoFar). IsClosed c.args.scan.now k) (sym c.in_default.ensures.1) (all_closed c.args.scan.now c.loop-work.self c.in_default.ensures.0 c.loop-work.invariant.settling)
