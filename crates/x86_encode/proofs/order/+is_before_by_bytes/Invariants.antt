use Rattle.std.proofs.Common.{length}
use Rattle.x86_encode.proofs.order.+is_before_by_bytes.Given as goal

abbrev pub decreases-is_before_by_bytes : goal.decreases-is_before_by_bytes
decreases-is_before_by_bytes l = length l.a.now
