use Rattle.std.proofs.Common.{◌≡◌, [], ◌∷◌, ◌++◌, List, ap, ◌∙◌, Option}
use Rattle.std.specs.Option.{option_to_list}
use Rattle.mem_pages.specs.Contents.{memory_in}
use Rattle.unit_frames.specs.declared.frame.OpenFrame.{OpenFrame}
use Rattle.unit_frames.proofs.CopyingBack.{closes_one}
use Rattle.unit_frames.proofs.frames.OpenFrames.close.Goals as goal

pub returns-in_ok-copy_back-in-Some : goal.returns-in_ok-copy_back-in-Some
returns-in_ok-copy_back-in-Some c =
    let f : OpenFrame = c.in-Some.closed in
    let more : List OpenFrame = c.pop.new.self in
    let split : c.args.self.now ≡ (f ∷ []) ++ more = c.pop.ensures.frames ∙ ap (λ (o : Option OpenFrame). option_to_list o ++ more) c.in-Some.is in
    closes_one f c.args.self.now more c.forget_under.new.self c.copy_back.new.self (memory_in c.args.pages.now) (memory_in c.copy_back.new.pages) split c.forget_under.ensures c.in_ok-copy_back-in-Some.ensures
