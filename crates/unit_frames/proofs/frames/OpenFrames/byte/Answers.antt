use Rattle.std.proofs.Common.{◌≡◌, ap, sym, ◌∙◌, get_or}
use Rattle.unit_frames.specs.Kept.{is_in}
use Rattle.unit_frames.proofs.Looking.{is_covered, covered_there}
use Rattle.unit_frames.proofs.frames.OpenFrames.byte.Goals as goal

pub byte-requires : goal.byte-requires
byte-requires c =
    let h = is_covered c.args.count c.args.at c.in-Some.place c.args.self.now (sym c.first_cover.ensures ∙ c.in-Some.is) in
    let there : c.index.result.now ≡ get_or c.args.self.now c.in-Some.place c.index.result.now = cc in
    ap (is_in c.args.at) there ∙ covered_there c.args.count c.args.at c.in-Some.place c.args.self.now c.index.result.now h
