use Rattle.std.proofs.Common.{◌≡◌, ◌+◌, ◌%◌, length, refl, sym, arith}
use Rattle.memory.specs.Memory.{wrapped}
use Rattle.flag_ir.specs.Frames.{reached_frames, seen_memory}
use Rattle.unit_frames.specs.Kept.{frames_of}
use Rattle.unit_frames.proofs.Buffers.{number_there, not_all_known, none_copied, more_copied}
use Rattle.unit_frames.proofs.frames.OpenFrames.near_known.Goals as goal

pub loop-k-init : goal.loop-k-init
loop-k-init c = λ procs m. none_copied (seen_memory (reached_frames (frames_of procs c.args.self.now)) m) c.args.at c.args.to.now

pub returns-in-None-clause-unspecified : goal.returns-in-None-clause-unspecified
returns-in-None-clause-unspecified c _ = λ procs m.
    let place : (c.args.at + c.loop-k.k) % 4294967296 ≡ wrapped (c.args.at + c.loop-k.k) = refl in
    not_all_known (seen_memory (reached_frames (frames_of procs c.args.self.now)) m) c.args.at (length c.args.to.now) c.loop-k.k (omega arith)
    (sym (number_there procs m c.args.self.now c.reached-count.result c.args.at c.loop-k.k (length c.args.to.now) _ _ c.reached-count.ensures.count place (omega arith) (c.requires.covered procs) c.in-None.ensures))

pub loop-k-preserved : goal.loop-k-preserved
loop-k-preserved c = λ procs m.
    let place : (c.args.at + c.loop-k.k) % 4294967296 ≡ wrapped (c.args.at + c.loop-k.k) = refl in
    more_copied (seen_memory (reached_frames (frames_of procs c.args.self.now)) m) c.args.at c.loop-k.k c.loop-k.to c.in-Some.number (omega arith)
    (number_there procs m c.args.self.now c.reached-count.result c.args.at c.loop-k.k (length c.args.to.now) _ _ c.reached-count.ensures.count place (omega arith) (c.requires.covered procs) c.in-Some.ensures) (c.loop-k.invariant procs m)
