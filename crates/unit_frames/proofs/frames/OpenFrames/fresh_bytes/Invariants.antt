use Rattle.std.proofs.Common.{◌≡◌, ℕ, ◌+◌, length}
use Rattle.mem_pages.specs.Contents.{memory_in}
use Rattle.unit_frames.specs.Kept.{byte_from}
use Rattle.unit_frames.specs.Opened.{from_caller, fresh_byte}
use Rattle.unit_frames.proofs.frames.OpenFrames.fresh_bytes.Given as goal

abbrev pub invariant-loop-at : goal.invariant-loop-at
invariant-loop-at l = record {
  len : length l.bytes.items + l.fn.low ≡ l.at;
  bytes : (a : ℕ) → byte_from l.fn.low l.bytes.items a ≡ fresh_byte l.fn.height l.at (from_caller l.fn.self (memory_in l.fn.pages)) a;
}
