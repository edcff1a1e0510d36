use Rattle.std.proofs.Common.{◌≡◌, List, ◌∙◌}
use Rattle.std.proofs.lemmas.List.{get_or_default}
use Rattle.flag_ir.specs.declared.procedure.Proc.{Proc}
use Rattle.unit_frames.specs.Kept.{no_proc}
use Rattle.unit_frames.specs.Opened.{started}
use Rattle.unit_frames.proofs.Deep.{tests_depth}
use Rattle.unit_frames.proofs.frames.OpenFrames.is_too_deep.Goals as goal

pub returns : goal.returns
returns c = λ u m o.
    let procs : List Proc = c.args.procs.now in
    let p : Proc = c.index-procs-start.result in
    let e : p ≡ started procs c.args.start = c.index-procs-start.is ∙ get_or_default procs c.args.start.proc p no_proc c.requires in
    tests_depth procs c.args.start c.args.esp0 m c.args.self.now p c.goes_too_deep.result e c.goes_too_deep.ensures u o
