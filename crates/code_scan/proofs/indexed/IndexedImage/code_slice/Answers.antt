use Rattle.std.proofs.Common.{◌≡◌, ℕ, ◌+◌, ◌-◌, ◌/◌, ◌≤◌, true, List, length, take, drop, Some, sym, ap, ◌∙◌, subst, arith}
use Rattle.image.specs.declared.image.Segment.{Segment}
use Rattle.image.specs.declared.image.Image.{Image}
use Rattle.image.specs.Addresses.{holds, segment_at}
use Rattle.code_scan.proofs.Slices.{slice_of_page}
use Rattle.code_scan.proofs.indexed.IndexedImage.code_slice.Goals as goal

pub returns-clause-bytes : goal.returns-clause-bytes
returns-clause-bytes c =
    let image : Image = c.args.self.now in
    let s : Segment = c.in_ok-segment.segment.now in
    let offset : ℕ = c.saturating_sub-offset.result in
    let bytes : List ℕ = c.as_slice-bytes.result.now in
    let n : ℕ = c.args.count in
    let start_is : c.from.result ≡ s.start = c.from.ensures ∙ ap (λ (t : Segment). t.start) c.segment-2.view_is in
    let bytes_is : bytes ≡ s.bytes = c.as_slice-bytes.ensures ∙ ap (λ (t : Segment). t.bytes) c.segment-2.view_is in
    let offset_is : offset ≡ c.args.at - s.start = c.saturating_sub-offset.ensures ∙ (ap (λ k. k - c.from.result) c.from-at.ensures ∙ ap (λ k. c.args.at - k) start_is) in
    let size : offset + n - offset ≡ n = omega arith in
    ap (λ k. take k (drop offset bytes)) size ∙ (ap (λ k. take n (drop k bytes)) offset_is ∙ (ap (λ xs. take n (drop (c.args.at - s.start) xs)) bytes_is
    ∙ slice_of_page image s c.args.at n (omega (arith, c.if-at-count-gt4096.false, c.from-at.ensures))
    (subst (λ k. segment_at image k ≡ Some s) c.from-at.ensures c.in_ok-segment.ensures.there)
    (subst (λ k. (b : ℕ) → b / 4096 ≡ k / 4096 → segment_at image b ≡ segment_at image k) c.from-at.ensures c.in_ok-segment.ensures.page)
    (sym c.if-not-is_code.ensures)
    (subst (λ k. holds k s ≡ true) c.from-at.ensures c.in_ok-segment.ensures.holds)
    (subst (λ k. k + n ≤ length s.bytes) offset_is (subst (λ (xs : List ℕ). offset + n ≤ length xs) bytes_is c.if-bytes-offset.false))))
