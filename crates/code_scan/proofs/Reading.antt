-- The word of four bytes that one segment has.
use Rattle.std.proofs.Common.{◌≡◌, ℕ, ◌+◌, Option, Some, sym, ap, ◌∙◌}
use Rattle.std.specs.Option.{option_map}
use Rattle.byte_lists.specs.LittleEndian.{word_from}
use Rattle.image.specs.declared.image.Segment.{Segment}
use Rattle.image.specs.declared.image.Image.{Image}
use Rattle.image.specs.Addresses.{segment_at, segment_byte}
use Rattle.plan_types.specs.Tables.{word_with}
use Rattle.plan_types.specs.FoundCode.{word_at}

pub word_of_segment : (image : Image) (a : ℕ) (s : Segment) → segment_at image a ≡ Some s → segment_at image (a + 1) ≡ segment_at image a → segment_at image (a + 2) ≡ segment_at image a → segment_at image (a + 3) ≡ segment_at image a → Some (word_from (segment_byte a s) (segment_byte (a + 1) s) (segment_byte (a + 2) s) (segment_byte (a + 3) s)) ≡ word_at image a
word_of_segment image a s e0 e1 e2 e3 =
    let b : ℕ → Option Segment → Option ℕ = λ k o. option_map (segment_byte (a + k)) o in
    sym (ap (λ o. word_with (option_map (segment_byte a) o) (b 1 (segment_at image (a + 1))) (b 2 (segment_at image (a + 2))) (b 3 (segment_at image (a + 3)))) e0
    ∙ ap (λ o. word_with (Some (segment_byte a s)) (b 1 o) (b 2 (segment_at image (a + 2))) (b 3 (segment_at image (a + 3)))) (e1 ∙ e0)
    ∙ ap (λ o. word_with (Some (segment_byte a s)) (b 1 (Some s)) (b 2 o) (b 3 (segment_at image (a + 3)))) (e2 ∙ e0)
    ∙ ap (λ o. word_with (Some (segment_byte a s)) (b 1 (Some s)) (b 2 (Some s)) (b 3 o)) (e3 ∙ e0))
