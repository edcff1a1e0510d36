use Rattle.std.proofs.Common.{rules, ap, ◌∙◌, subst}
use Rattle.std.specs.List.Sorted.{IsPermutation}
use Rattle.std.proofs.lemmas.List.Sorted.{IsNonDecreasingBy-from_sort_by_key}
use Rattle.elf_image.specs.Pages.{first_page}
use Rattle.elf_image.specs.Overlaps.{overlaps}
use Rattle.elf_image.proofs.SharedPages.{neighbours_tell}
use Rattle.elf_image.proofs.overlap.any_shares_page.Goals as goal

pub returns : goal.returns
returns c =
    let hs = c.args.segments.now in
    let ordered = c.sort_unstable_by_key.new.self.items in
    let up = IsNonDecreasingBy-from_sort_by_key first_page ordered c.sort_unstable_by_key.ensures.sorted (λ a r q k. search rules) in
    let moved : IsPermutation hs ordered = subst (λ xs. IsPermutation xs ordered) c.in_ok-ordered.ensures.items c.sort_unstable_by_key.ensures.permutation in
    c.overlaps.ensures ∙ ap (overlaps 0) c.as_slice.ensures.value ∙ neighbours_tell hs ordered moved up c.requires
