use Rattle.std.proofs.Common.{◌≡◌, map, take}
use Rattle.laid_image.specs.NewImage.{as_data}
use Rattle.code_layout.proofs.segments.all_as_data.Given as goal

abbrev pub invariant-loop-segment : goal.invariant-loop-segment
invariant-loop-segment l = l.segments.items ≡ map as_data (take l.segment-index l.old)
