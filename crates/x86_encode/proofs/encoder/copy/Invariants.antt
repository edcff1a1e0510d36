use Rattle.std.proofs.Common.{◌≡◌, take, drop}
use Rattle.x86_encode.proofs.encoder.copy.Given as goal

abbrev pub invariant-loop-i : goal.invariant-loop-i
invariant-loop-i l = record {
  written : take l.i l.out ≡ take l.i l.from.bytes;
  kept : drop l.i l.out ≡ drop l.i l.initial.out;
}
