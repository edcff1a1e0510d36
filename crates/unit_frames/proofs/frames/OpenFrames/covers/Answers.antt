use Rattle.std.proofs.Common.{ap, ◌∙◌}
use Rattle.std.specs.Option.{is_some}
use Rattle.unit_frames.proofs.Accesses.{covered_kept}
use Rattle.unit_frames.proofs.frames.OpenFrames.covers.Goals as goal

pub returns : goal.returns
returns c = λ procs. c.is_some.ensures ∙ ap is_some c.first_cover.ensures ∙ covered_kept procs c.args.count c.args.at c.args.self.now
