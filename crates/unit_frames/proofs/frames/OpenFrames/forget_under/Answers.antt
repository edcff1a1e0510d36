use Rattle.std.proofs.Common.{ℕ, ap, ◌+◌, ◌∙◌}
use Rattle.unit_frames.specs.Kept.{frames_of}
use Rattle.unit_frames.specs.Looking.{shared_count}
use Rattle.unit_frames.specs.Closed.{forget_first}
use Rattle.unit_frames.proofs.Forgetting.{forgets_shared}
use Rattle.unit_frames.proofs.frames.OpenFrames.forget_under.Goals as goal

pub returns-in-Shared : goal.returns-in-Shared
returns-in-Shared c = λ procs.
    let fs = c.args.self.now in
    let top : ℕ = c.args.closed.now.height + 4 in
    c.forget_in.ensures procs ∙ ap (λ (n : ℕ). forget_first n c.low.result top (frames_of procs fs)) c.shared-count.ensures.count
    ∙ ap (λ (n : ℕ). forget_first (shared_count fs) n top (frames_of procs fs)) c.low.ensures ∙ forgets_shared procs c.args.closed.now fs c.in-Shared.is
