use Rattle.std.proofs.Common.{◌≡◌, ◌≤◌, ◌*◌, ◌-◌, ◌^◌, map, take, sum}
use Rattle.elf_image.specs.Pages.{first_page, end_page}
use Rattle.elf_image.proofs.extent.pages_size.Given as goal

abbrev pub invariant-loop-h : goal.invariant-loop-h
invariant-loop-h l = record { is : l.pages ≡ sum (map (λ h. end_page h - first_page h) (take l.h-index l.segments)); small : l.pages ≤ 2 ^ 22 * l.h-index }
