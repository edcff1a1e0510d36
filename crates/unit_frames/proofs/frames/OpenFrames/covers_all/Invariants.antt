use Rattle.std.proofs.Common.{List, take}
use Rattle.flag_ir.specs.declared.procedure.Proc.{Proc}
use Rattle.unit_frames.specs.Kept.{frames_of}
use Rattle.unit_frames.proofs.Accesses.{IsCoveredUpTo}
use Rattle.unit_frames.proofs.frames.OpenFrames.covers_all.Given as goal

abbrev pub invariant-loop-k : goal.invariant-loop-k
invariant-loop-k l = (procs : List Proc) → IsCoveredUpTo l.k (take l.count (frames_of procs l.self)) l.at
