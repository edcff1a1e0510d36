use Rattle.std.proofs.Common.{◌≡◌, List, ap, sym, ◌∙◌}
use Rattle.std.proofs.lemmas.List.{get_or_default}
use Rattle.traces.specs.Trace.{Outside}
use Rattle.mem_pages.specs.Contents.{memory_in}
use Rattle.flag_ir.specs.declared.procedure.Proc.{Proc}
use Rattle.flag_ir.specs.Entering.{before_block, index_at}
use Rattle.unit_frames.specs.declared.frame.OpenFrame.{OpenFrame}
use Rattle.unit_frames.specs.Kept.{no_proc, frames_of}
use Rattle.unit_frames.specs.Opened.{started}
use Rattle.unit_frames.proofs.Deep.{opens_frame}
use Rattle.unit_frames.proofs.frames.OpenFrames.open.Goals as goal

pub returns : goal.returns
returns c = λ u o.
    let procs : List Proc = c.args.procs.now in
    let s = c.args.start in
    let p : Proc = c.index-procs-start.result in
    let e : p ≡ started procs s = c.index-procs-start.is ∙ get_or_default procs s.proc p no_proc c.requires in
    opens_frame procs s c.args.esp0 (memory_in c.args.pages.now) c.args.self.now p c.in_ok-frame.frame e (sym c.if-goes_too_deep.false ∙ c.goes_too_deep.ensures) c.in_ok-frame.ensures.0 u o
    ∙ ap (λ (x : List OpenFrame). before_block (index_at (started procs s).entry (started procs s).blocks) Outside (record u { frames = frames_of procs x })) (sym c.in_ok-push.ensures.pushed)
