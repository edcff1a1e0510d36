use Rattle.std.proofs.Common.{◌≡◌, List, map, take}
use Rattle.x86_values.specs.declared.byte.Byte.TheVariants.{Known}
use Rattle.flag_ir.specs.declared.procedure.Proc.{Proc}
use Rattle.unit_frames.specs.Kept.{frames_of}
use Rattle.unit_frames.specs.Looking.{put_all_in}
use Rattle.unit_frames.proofs.frames.OpenFrames.near_put.Given as goal

abbrev pub invariant-loop-k : goal.invariant-loop-k
invariant-loop-k l = (procs : List Proc) → frames_of procs l.self ≡ put_all_in l.count l.at (take l.k (map Known l.bytes)) (frames_of procs l.fn.self)
