use Rattle.std.proofs.Common.{ap, ◌∙◌, List}
use Rattle.unit_frames.specs.declared.frame.OpenFrame.{OpenFrame}
use Rattle.unit_frames.specs.Kept.{frames_of}
use Rattle.unit_frames.proofs.Forgetting.{forgot_one}
use Rattle.unit_frames.proofs.frames.OpenFrames.forget_at.Goals as goal

pub returns-clause-frames : goal.returns-clause-frames
returns-clause-frames c = λ procs fs less done.
    forgot_one procs c.args.place c.args.from c.args.to fs c.self.inside.frames.items c.index_mut.result.now c.forget.new.self less (ap (λ (x : List OpenFrame). frames_of procs x) c.self.view_is ∙ done) c.index_mut.ensures.value (c.forget.ensures.image procs)
