use Rattle.std.proofs.Common.{◌+◌, refl}
use Rattle.mem_pages.specs.Contents.{memory_in}
use Rattle.unit_frames.specs.Kept.{frame_of}
use Rattle.unit_frames.specs.Closed.{with_kept}
use Rattle.unit_frames.proofs.CopyingBack.{none_back, more_back}
use Rattle.unit_frames.proofs.frames.OpenFrames.copy_back.Goals as goal

pub loop-k-init : goal.loop-k-init
loop-k-init c = λ procs u. none_back (frame_of procs c.args.closed.now) (c.args.closed.now.height + 4) (with_kept procs c.args.self.now (memory_in c.args.pages.now) u)

pub loop-k-preserved : goal.loop-k-preserved
loop-k-preserved c = λ procs u.
    let f = c.args.closed.now in
    more_back (frame_of procs f) (f.height + 4) c.loop-k.k _ c.image.result (with_kept procs c.args.self.now (memory_in c.args.pages.now) u) (with_kept procs c.loop-k.self (memory_in c.loop-k.pages) u) (with_kept procs c.put_back.new.self (memory_in c.put_back.new.pages) u)
    refl c.image.ensures (c.loop-k.invariant procs u) (c.in_ok-put_back.ensures procs u)
