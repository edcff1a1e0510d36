use Rattle.std.proofs.Common.{◌≡◌, map, take}
use Rattle.x86_machine.specs.Kept.{code_segment}
use Rattle.x86_machine.proofs.kept.code_segments.Given as goal

abbrev pub invariant-loop-segment : goal.invariant-loop-segment
invariant-loop-segment l = l.made.items ≡ map code_segment (take l.segment-index l.segments)
