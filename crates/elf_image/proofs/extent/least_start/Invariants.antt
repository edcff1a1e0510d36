use Rattle.std.proofs.Common.{◌≡◌, ◌∷◌, map, drop}
use Rattle.elf_image.specs.Pages.{first_page}
use Rattle.image.specs.Rooms.{least}
use Rattle.elf_image.proofs.extent.least_start.Given as goal

abbrev pub invariant-loop-h : goal.invariant-loop-h
invariant-loop-h l = least (l.start ∷ map first_page (drop l.h-index l.code)) ≡ least (map first_page l.code)
