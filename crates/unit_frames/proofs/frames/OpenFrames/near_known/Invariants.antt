use Rattle.std.proofs.Common.{◌≡◌, List, take, Some}
use Rattle.x86_values.specs.Words.{all_known}
use Rattle.memory.specs.Memory.{Memory, bytes_at}
use Rattle.flag_ir.specs.declared.procedure.Proc.{Proc}
use Rattle.flag_ir.specs.Frames.{reached_frames, seen_memory}
use Rattle.unit_frames.specs.Kept.{frames_of}
use Rattle.unit_frames.proofs.frames.OpenFrames.near_known.Given as goal

abbrev pub invariant-loop-k : goal.invariant-loop-k
invariant-loop-k l = (procs : List Proc) (m : Memory) → all_known (bytes_at (seen_memory (reached_frames (frames_of procs l.self)) m) l.at l.k) ≡ Some (take l.k l.to)
