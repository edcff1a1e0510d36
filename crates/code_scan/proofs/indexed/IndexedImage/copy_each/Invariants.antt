use Rattle.std.proofs.Common.{◌≡◌, ◌+◌, ◌-◌, ◌<◌, ◌≤◌, ◌++◌, length, take}
use Rattle.image.specs.declared.room.Room.TheVariants.{Any}
use Rattle.image.specs.Rooms.{room_end}
use Rattle.image.specs.Addresses.{code_bytes}
use Rattle.code_scan.proofs.indexed.IndexedImage.copy_each.Given as goal

abbrev pub invariant-loop-i : goal.invariant-loop-i
invariant-loop-i l = record {
  next : l.next ≡ l.at + l.i;
  within : 0 < l.i → l.at + l.i ≤ room_end Any;
  bytes : code_bytes l.self l.at (length l.to) ≡ take l.i l.to ++ code_bytes l.self l.next (length l.to - l.i);
}
