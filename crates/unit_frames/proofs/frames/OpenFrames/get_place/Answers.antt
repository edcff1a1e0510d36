use Rattle.std.proofs.Common.{w32, ◌≡◌, ap, sym, ◌∙◌, ℕ}
use Rattle.std.proofs.lemmas.Int.{to_z-of_z}
use Rattle.flag_ir.specs.Operations.{at_offset}
use Rattle.unit_frames.specs.Looking.{word_kept}
use Rattle.unit_frames.specs.Places.{got}
use Rattle.unit_frames.proofs.FixedPlaces.{offset_small, got_there}
use Rattle.unit_frames.proofs.frames.OpenFrames.get_place.Goals as goal

pub returns-in-Some : goal.returns-in-Some
returns-in-Some c = λ procs m.
    let fs = c.args.self.now in
    let at : c.at_offset.result ≡ at_offset c.in-Some.height c.args.offset = c.at_offset.ensures ∙ ap (at_offset c.in-Some.height) (to_z-of_z w32 c.args.offset c.ranges.offset) in
    got_there procs m c.args.size c.args.offset c.in-Some.height fs (sym c.height.ensures ∙ c.in-Some.is) c.requires (offset_small c.in-Some.height c.args.offset)
    ∙ sym (ap got (c.word.ensures ∙ ap (λ (a : ℕ). word_kept 1 a c.args.size fs) at))
