use Rattle.std.proofs.Common.{◌≡◌, ◌+◌, true, take, arith, below_more, sym, ◌∙◌}
use Rattle.std.specs.List.{find}
use Rattle.std.specs.Option.{is_some}
use Rattle.memory.specs.Memory.{wrapped}
use Rattle.flag_ir.specs.Frames.{covers}
use Rattle.unit_frames.specs.Kept.{frames_of}
use Rattle.unit_frames.proofs.Accesses.{covered_up_to, not_covered}
use Rattle.unit_frames.proofs.frames.OpenFrames.covers_all.Goals as goal

pub loop-k-init : goal.loop-k-init
loop-k-init c = λ procs k less. absurd (omega arith)

pub loop-k-preserved : goal.loop-k-preserved
loop-k-preserved c = λ procs.
    below_more (λ k. is_some (find (covers (wrapped (c.args.at + k))) (take c.args.count (frames_of procs c.args.self.now))) ≡ true) c.loop-k.k (c.loop-k.invariant procs) (sym (c.covers.ensures procs) ∙ c.if-not-covers.false)

pub returns-then-not-covers : goal.returns-then-not-covers
returns-then-not-covers c = λ procs.
    sym (not_covered c.args.len (take c.args.count (frames_of procs c.args.self.now)) c.args.at c.loop-k.k c.loop-k-test.true (sym (c.covers.ensures procs) ∙ c.if-not-covers.true))

pub returns : goal.returns
returns c = λ procs.
    sym (covered_up_to c.args.len (take c.args.count (frames_of procs c.args.self.now)) c.args.at (λ k less. c.loop-k.invariant procs k (omega arith)))
