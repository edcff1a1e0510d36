use Rattle.std.proofs.Common.{◌∙◌, ap, sym, find}
use Rattle.image.specs.declared.image.Image.{Image}
use Rattle.image.specs.Addresses.{holds, segment_at}
use Rattle.code_scan.proofs.Paging.{found_holds_there, same_page}
use Rattle.code_scan.proofs.indexed.IndexedImage.segment.Goals as goal

pub returns-clause-holds : goal.returns-clause-holds
returns-clause-holds c = found_holds_there (holds c.args.at) c.as_slice.result.now c.segment_in.result c.segment_in.ensures

pub returns-clause-page : goal.returns-clause-page
unfolding segment_at
returns-clause-page c = λ a same.
    ap (λ (image : Image). find (holds a) image.segments) (sym c.self.view_is)
    ∙ same_page c.self.inside.image.now.segments c.self.inside.pages.items c.self.invariant a c.args.at same
    ∙ ap (λ (image : Image). find (holds c.args.at) image.segments) c.self.view_is
