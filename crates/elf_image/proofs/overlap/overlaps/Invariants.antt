use Rattle.std.proofs.Common.{◌≡◌, drop}
use Rattle.elf_image.specs.Overlaps.{overlaps}
use Rattle.elf_image.proofs.overlap.overlaps.Given as goal

abbrev pub invariant-loop-h : goal.invariant-loop-h
invariant-loop-h l = overlaps l.end (drop l.h-index l.ordered) ≡ overlaps 0 l.ordered
