use Rattle.std.proofs.Common.{◌≡◌, ℕ, ◌++◌, List, ap, ◌∙◌}
use Rattle.laid_image.specs.NewImage.{words_bytes}
use Rattle.code_layout.proofs.Places.{table_place}
use Rattle.code_layout.proofs.segments.table_segment.Goals as goal

pub bytes_segment-requires-clause-place : goal.bytes_segment-requires-clause-place
bytes_segment-requires-clause-place c =
    let words = c.args.words.now in
    let is : c.push_words.new.out.items ≡ words_bytes words = c.in_ok-push_words.ensures ∙ ap (λ (bytes : List ℕ). bytes ++ words_bytes words) c.in_ok-bytes.ensures.items in
    table_place words c.push_words.new.out.items is c.requires.some c.requires.few
