use Rattle.std.proofs.Common.{◌<◌, length, ap, ◌∙◌, sym, subst, arith, Ok}
use Rattle.std.proofs.lemmas.List.Elements.{All-from_get_or}
use Rattle.image.specs.declared.image.Image.{Image}
use Rattle.image.specs.declared.image.Segment.{Segment}
use Rattle.image.specs.declared.room.Room.TheVariants.{Any, Source}
use Rattle.elf_image.specs.Image.{image_of}
use Rattle.rewrite_core.specs.Places.{IsLeftOut, IsLaid}
use Rattle.rewrite_core.specs.Layout.{text_of, new_file, new_image}
use Rattle.rewrite_core.proofs.Outcomes.{plain_file, refused_by_image, other_form_refuses, left_out_refuses, laid_takes, text_is}
use Rattle.rewrite_core.proofs.rewriter.rewrite.Goals as goal

pub returns-in-Err-Refused : goal.returns-in-Err-Refused
returns-in-Err-Refused c =
    let refused = rw c.in-Err-Refused.field-0-is at c.in-Err-Refused.ensures in
    rw c.in-Err-Refused.r-is (refused_by_image c.args.bytes.now c.in-Err-Refused.r refused.is)

pub returns-then-not-is_plain : goal.returns-then-not-is_plain
returns-then-not-is_plain c = other_form_refuses c.args.bytes.now c.in-Ok.image c.in-Ok.ensures.is (sym c.if-not-is_plain.ensures)

pub lay-requires : goal.lay-requires
lay-requires c =
    let file = c.args.bytes.now in
    let is_plain_file = sym c.if-not-is_plain.ensures in
    let read = c.image_laws.ensures.plain_is_read file Source c.in-Ok.image c.in-Ok.ensures.is is_plain_file in
    let plain = plain_file file read.0 is_plain_file in
    let segments = c.as_slice.ensures ∙ ap (λ (i : Image). i.segments) c.image.view_is in
    let text = c.as_slice-text.ensures ∙ ap (λ (s : Segment). s.bytes) (c.segment.view_is ∙ c.index-as_slice-0.is) ∙ text_is file c.in-Ok.image c.as_slice.result.now _ read.1 segments in
    ap length text ∙ plain.whole

pub returns-in_default : goal.returns-in_default
returns-in_default c =
    let file = c.args.bytes.now in
    let is_plain_file = sym c.if-not-is_plain.ensures in
    let read = c.image_laws.ensures.plain_is_read file Source c.in-Ok.image c.in-Ok.ensures.is is_plain_file in
    let segments = c.as_slice.ensures ∙ ap (λ (i : Image). i.segments) c.image.view_is in
    let text = c.as_slice-text.ensures ∙ ap (λ (s : Segment). s.bytes) (c.segment.view_is ∙ c.index-as_slice-0.is) ∙ text_is file c.in-Ok.image c.as_slice.result.now _ read.1 segments in
    let left_out : IsLeftOut c.as_slice-text.result.now = rw c.in_default.is at c.in_ok-code.ensures.laid in
    let bytes = All-from_get_or (λ b. b < 256) file 0 (λ i h. omega (arith, c.type_inv.bytes i)) in
    left_out_refuses c.front_laws.ensures.spelling c.front_laws.ensures.equations file c.in-Ok.image bytes c.in-Ok.ensures.is (plain_file file read.0 is_plain_file) (subst IsLeftOut text left_out)

pub write_file-requires-clause-page : goal.write_file-requires-clause-page
write_file-requires-clause-page c =
    let file = c.args.bytes.now in
    let is_plain_file = sym c.if-not-is_plain.ensures in
    let read = c.image_laws.ensures.plain_is_read file Source c.in-Ok.image c.in-Ok.ensures.is is_plain_file in
    let plain = plain_file file read.0 is_plain_file in
    let segments = c.as_slice.ensures ∙ ap (λ (i : Image). i.segments) c.image.view_is in
    let text = c.as_slice-text.ensures ∙ ap (λ (s : Segment). s.bytes) (c.segment.view_is ∙ c.index-as_slice-0.is) ∙ text_is file c.in-Ok.image c.as_slice.result.now _ read.1 segments in
    ap length text ∙ plain.whole

pub write_file-requires-clause-some : goal.write_file-requires-clause-some
write_file-requires-clause-some c =
    let laid : IsLaid c.as_slice-text.result.now c.in-Some.code.items = rw c.in-Some.is at c.in_ok-code.ensures.laid in
    laid.some

pub write_file-requires-clause-few : goal.write_file-requires-clause-few
write_file-requires-clause-few c =
    let laid : IsLaid c.as_slice-text.result.now c.in-Some.code.items = rw c.in-Some.is at c.in_ok-code.ensures.laid in
    omega (arith, laid.few)

pub returns : goal.returns
returns c =
    let file = c.args.bytes.now in
    let is_plain_file = sym c.if-not-is_plain.ensures in
    let read = c.image_laws.ensures.plain_is_read file Source c.in-Ok.image c.in-Ok.ensures.is is_plain_file in
    let plain = plain_file file read.0 is_plain_file in
    let segments = c.as_slice.ensures ∙ ap (λ (i : Image). i.segments) c.image.view_is in
    let text = c.as_slice-text.ensures ∙ ap (λ (s : Segment). s.bytes) (c.segment.view_is ∙ c.index-as_slice-0.is) ∙ text_is file c.in-Ok.image c.as_slice.result.now _ read.1 segments in
    let code = c.in-Some.code.items in
    let found : IsLaid c.as_slice-text.result.now code = rw c.in-Some.is at c.in_ok-code.ensures.laid in
    let laid : IsLaid (text_of file) code = subst (λ t. IsLaid t code) text found in
    let out = c.new.ensures in
    let bytes = All-from_get_or (λ b. b < 256) file 0 (λ i h. omega (arith, c.type_inv.bytes i)) in
    let takes = laid_takes c.front_laws.ensures.spelling c.front_laws.ensures.equations file code bytes plain laid in
    record {
      rewritable = takes;
      code = code;
      laid = laid;
      is = out ∙ c.in_ok-file.ensures.exact ∙ ap (λ t. new_file t code) text;
      read = c.in-Ok.ensures.is ∙ ap Ok read.1;
      accepted = ap (λ f. image_of f Any) out ∙ c.in_ok-file.ensures.accepted ∙ ap (λ t. Ok (new_image t code)) text;
      agrees = c.agreement_laws.ensures.new_file file code bytes takes laid;
    }
