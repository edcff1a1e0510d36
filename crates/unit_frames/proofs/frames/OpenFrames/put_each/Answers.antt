use Rattle.std.proofs.Common.{arith, refl}
use Rattle.unit_frames.specs.Kept.{frames_of}
use Rattle.unit_frames.proofs.Putting.{put_zero, put_more, put_whole}
use Rattle.unit_frames.proofs.frames.OpenFrames.put_each.Goals as goal

pub loop-k-init : goal.loop-k-init
loop-k-init c = λ procs. put_zero c.args.count c.args.at c.args.bytes.now (frames_of procs c.args.self.now)

pub loop-k-preserved : goal.loop-k-preserved
loop-k-preserved c = λ procs.
    put_more c.args.count c.args.at c.loop-k.k c.args.bytes.now _ _ _ (frames_of procs c.args.self.now) (frames_of procs c.loop-k.self) (frames_of procs c.put.new.self) (omega arith) refl refl (c.put.ensures procs) (c.loop-k.invariant procs)

pub returns : goal.returns
returns c = λ procs. put_whole c.args.count c.args.at c.loop-k.k c.args.bytes.now (frames_of procs c.args.self.now) (frames_of procs c.loop-k.self) (omega arith) (c.loop-k.invariant procs)
