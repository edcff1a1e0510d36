use Rattle.std.proofs.Common.{◌≡◌, ◌<◌, ◌^◌, max, map, drop}
use Rattle.elf_image.specs.Pages.{end_page}
use Rattle.image.specs.Rooms.{greatest}
use Rattle.elf_image.proofs.extent.greatest_end.Given as goal

abbrev pub invariant-loop-h : goal.invariant-loop-h
invariant-loop-h l = record { is : max l.end (greatest (map end_page (drop l.h-index l.code))) ≡ greatest (map end_page l.code); small : l.end < 2 ^ 22 }
