use Rattle.std.proofs.Common.{◌≡◌, ℕ, ◌*◌, ◌<◌, true, false}
use Rattle.byte_lists.specs.LittleEndian.{word_at}
use Rattle.code_scan.specs.Spans.{is_between}
use Rattle.code_scan.proofs.span.CodeSpan.has_none.Given as goal

abbrev pub invariant-loop-index : goal.invariant-loop-index
invariant-loop-index l = l.none ≡ true → (i : ℕ) → i < l.index → is_between (word_at l.bytes (4 * i)) l.self ≡ false
