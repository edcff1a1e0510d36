use Rattle.std.proofs.Common.{w32, ◌≡◌, ap, sym, ◌∙◌, ℕ, List, take}
use Rattle.x86_values.specs.declared.byte.Byte.{Byte}
use Rattle.x86_values.specs.Words.{word_list}
use Rattle.flag_ir.specs.Storage.{Frame}
use Rattle.flag_ir.specs.Frames.{all_covered}
use Rattle.std.proofs.lemmas.Int.{to_z-of_z}
use Rattle.flag_ir.specs.Operations.{at_offset}
use Rattle.unit_frames.specs.Kept.{frames_of}
use Rattle.unit_frames.specs.Looking.{put_all_in}
use Rattle.unit_frames.proofs.FixedPlaces.{put_covered}
use Rattle.unit_frames.proofs.frames.OpenFrames.put_place.Goals as goal

pub returns-clause-puts : goal.returns-clause-puts
returns-clause-puts c = λ procs u.
    let fs = c.args.self.now in
    let gs : List Frame = frames_of procs fs in
    let bs : List Byte = take c.args.size (word_list c.args.word) in
    let at : c.at_offset-at.result ≡ at_offset c.in-Some.height c.args.offset = c.at_offset-at.ensures ∙ ap (at_offset c.in-Some.height) (to_z-of_z w32 c.args.offset c.ranges.offset) in
    put_covered procs u c.args.size c.args.offset c.args.word c.in-Some.height fs (frames_of procs c.put_each.new.self) (sym c.height.ensures ∙ c.in-Some.is) c.requires
    (ap (λ (a : ℕ). all_covered (take 1 gs) a c.args.size) (sym at) ∙ sym (c.covers_all.ensures procs) ∙ c.if-not-covers_all.false)
    (c.put_each.ensures procs ∙ ap (λ (a : ℕ). put_all_in 1 a bs gs) at)
