use Rattle.std.proofs.Common.{◌≡◌, List, take}
use Rattle.flag_ir.specs.declared.procedure.Proc.{Proc}
use Rattle.unit_frames.specs.Kept.{frames_of}
use Rattle.unit_frames.specs.Looking.{put_all_in}
use Rattle.unit_frames.proofs.frames.OpenFrames.put_each.Given as goal

abbrev pub invariant-loop-k : goal.invariant-loop-k
invariant-loop-k l = (procs : List Proc) → frames_of procs l.self ≡ put_all_in l.count l.at (take l.k l.bytes) (frames_of procs l.fn.self)
