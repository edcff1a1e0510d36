use Rattle.std.proofs.Common.{◌≡◌, ℕ, List, Option, ap, ◌∙◌}
use Rattle.rewrite_core.specs.Placing.{place_at, parts_code}
use Rattle.rewrite_core.proofs.LaidCode.{laid}
use Rattle.rewrite_core.proofs.lay.lay.Goals as goal

pub returns : goal.returns
returns c =
    let page : List ℕ = c.args.page.now in
    let s = c.in-Some.placing in
    let is : c.in_ok-code.code.items ≡ parts_code page (place_at s.places.items) 0 s.parts.items =
    c.in_ok-code.ensures
    ∙ ap (λ (places : List (Option ℕ)). parts_code page (place_at places) 0 c.as_slice-2.result.now) c.as_slice.ensures.value
    ∙ ap (parts_code page (place_at s.places.items) 0) c.as_slice-2.ensures.value in
    record { laid = laid c.front_laws.ensures.equations page c.in_ok-code.code.items c.requires s (rw c.in-Some.is at c.in_ok-placing.ensures) is }
