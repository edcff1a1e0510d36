use Rattle.std.proofs.Common.{◌≡◌, take}
use Rattle.image.specs.Wanted.{image_with}
use Rattle.memory.specs.Memory.{memory_of}
use Rattle.mem_pages.specs.Contents.{memory_in}
use Rattle.x86_machine.proofs.start.load.Given as goal

abbrev pub invariant-loop-segment : goal.invariant-loop-segment
invariant-loop-segment l = memory_in l.pages ≡ memory_of (image_with (take l.segment-index l.segment-items) 0)
