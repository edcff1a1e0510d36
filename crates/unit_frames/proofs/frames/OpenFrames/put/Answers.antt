use Rattle.std.proofs.Common.{[], ◌≡◌, ap, sym, ◌∙◌, get_or, take, position, List, Some}
use Rattle.unit_frames.specs.declared.frame.OpenFrame.{OpenFrame}
use Rattle.unit_frames.specs.Kept.{is_in, frames_of}
use Rattle.unit_frames.specs.Looking.{put_in}
use Rattle.unit_frames.proofs.Looking.{is_covered, covered_there}
use Rattle.unit_frames.proofs.Putting.{put_nowhere, put_there, taken_put}
use Rattle.unit_frames.proofs.frames.OpenFrames.put.Goals as goal

pub put-requires : goal.put-requires
put-requires c =
    let h = is_covered c.args.count c.args.at c.in-Some.place c.args.self.now (sym c.first_cover.ensures ∙ c.in-Some.is) in
    let there : c.index_mut.result.now ≡ get_or c.args.self.now c.in-Some.place c.index_mut.result.now = cc in
    ap (is_in c.args.at) there ∙ covered_there c.args.count c.args.at c.in-Some.place c.args.self.now c.index_mut.result.now h

pub returns-in-Some : goal.returns-in-Some
returns-in-Some c = λ procs.
    let fs = c.self.inside.frames.items in
    let same : fs ≡ c.args.self.now = c.self.view_is in
    let there : c.index_mut.result.now ≡ get_or fs c.in-Some.place c.index_mut.result.now = c.index_mut.ensures.value in
    let found : position (λ f. is_in c.args.at f) (take c.args.count fs) ≡ Some c.in-Some.place = ap (λ (xs : List OpenFrame). position (λ f. is_in c.args.at f) (take c.args.count xs)) same ∙ sym c.first_cover.ensures ∙ c.in-Some.is in
    put_there procs c.args.at c.args.byte c.args.count c.in-Some.place fs c.index_mut.result.now c.put.new.self found there (c.put.ensures procs)
    ∙ ap (λ (xs : List OpenFrame). put_in c.args.count c.args.at c.args.byte (frames_of procs xs)) same

pub returns-in_default : goal.returns-in_default
returns-in_default c = λ procs. put_nowhere procs c.args.at c.args.byte c.args.count c.args.self.now (sym c.first_cover.ensures ∙ c.in_default.is)

pub invariant_of-self : goal.invariant_of-self
invariant_of-self c = taken_put c.self.inside.frames.items c.in-Some.place c.args.at c.args.byte c.index_mut.result.now c.put.new.self c.self.inside.taken c.index_mut.ensures.value (c.put.ensures []) c.self.invariant
