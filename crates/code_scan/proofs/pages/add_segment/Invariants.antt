use Rattle.std.proofs.Common.{◌≡◌, ℕ, ◌&&◌, leb, ltb, cond, slice_index_or}
use Rattle.code_scan.proofs.pages.add_segment.Given as goal

abbrev pub invariant-loop-page : goal.invariant-loop-page
invariant-loop-page l = (p d : ℕ) → slice_index_or l.pages p d ≡ cond (leb l.first p && ltb p l.page) l.index (slice_index_or l.initial.pages p d)
