use Rattle.std.proofs.Common.{◌≡◌, find, drop}
use Rattle.image.specs.Addresses.{holds}
use Rattle.x86_machine.proofs.code.code_byte.Given as goal

abbrev pub invariant-loop-segment : goal.invariant-loop-segment
invariant-loop-segment l = find (holds l.at) (drop l.segment-index l.segments) ≡ find (holds l.at) l.segments
