use Rattle.std.proofs.Common.{◌≡◌, ◌+◌, List}
use Rattle.mem_pages.specs.Contents.{memory_in}
use Rattle.flag_ir.specs.declared.procedure.Proc.{Proc}
use Rattle.flag_ir.specs.Storage.{Storage}
use Rattle.flag_ir.specs.Frames.{copied_back}
use Rattle.unit_frames.specs.Kept.{frame_of}
use Rattle.unit_frames.specs.Closed.{with_kept}
use Rattle.unit_frames.proofs.frames.OpenFrames.copy_back.Given as goal

abbrev pub invariant-loop-k : goal.invariant-loop-k
invariant-loop-k l =
    (procs : List Proc) (u : Storage) → copied_back (frame_of procs l.closed) (l.closed.height + 4) l.k (with_kept procs l.fn.self (memory_in l.fn.pages) u) ≡ with_kept procs l.self (memory_in l.pages) u
