use Rattle.std.proofs.Common.{◌≡◌, List, length}
use Rattle.flag_ir.specs.declared.procedure.Proc.{Proc}
use Rattle.unit_frames.specs.Kept.{frames_of}
use Rattle.unit_frames.specs.Closed.{forget_first}
use Rattle.unit_frames.proofs.frames.OpenFrames.forget_in.Given as goal

abbrev pub invariant-loop-i : goal.invariant-loop-i
invariant-loop-i l = record {
  frames : (procs : List Proc) → frames_of procs l.self ≡ forget_first l.i l.from l.to (frames_of procs l.fn.self);
  len : length l.self ≡ length l.fn.self;
}
