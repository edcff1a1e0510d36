use Rattle.std.proofs.Common.{◌≡◌, map, take}
use Rattle.elf_image.specs.Image.{segment_of}
use Rattle.elf_image.proofs.segment.segments_of.Given as goal

abbrev pub invariant-loop-h : goal.invariant-loop-h
invariant-loop-h l = l.segments.items ≡ map (segment_of l.bytes) (take l.h-index l.headers)
