use Rattle.std.proofs.Common.{◌≡◌, ℕ, ◌≤◌, ◌&&◌, max, length, cond, leb, ltb, get_or}
use Rattle.x86_values.specs.declared.byte.Byte.TheVariants.{Unspecified}
use Rattle.unit_frames.proofs.frame.forget_bytes.Given as goal

abbrev pub invariant-loop-k : goal.invariant-loop-k
invariant-loop-k l = record {
  bytes : (j : ℕ) → get_or l.bytes.items j Unspecified ≡ cond (leb l.first j && ltb j l.k) Unspecified (get_or l.fn.bytes.items j Unspecified);
  len : length l.bytes.items ≡ length l.fn.bytes.items;
  bound : l.k ≤ max l.first l.last;
}
