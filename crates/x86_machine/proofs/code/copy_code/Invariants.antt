use Rattle.std.proofs.Common.{◌≡◌, ◌+◌, ◌-◌, ◌++◌, length, take}
use Rattle.image.specs.Addresses.{code_bytes}
use Rattle.image.specs.Wanted.{image_with}
use Rattle.x86_machine.proofs.code.copy_code.Given as goal

abbrev pub invariant-loop-i : goal.invariant-loop-i
invariant-loop-i l = record {
  next : l.next ≡ l.at + l.i;
  bytes : code_bytes (image_with l.segments 0) l.at (length l.to) ≡ take l.i l.to ++ code_bytes (image_with l.segments 0) l.next (length l.to - l.i);
}
