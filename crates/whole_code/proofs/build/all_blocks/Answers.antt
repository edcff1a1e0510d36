use Rattle.std.proofs.Common.{◌≡◌, ◌+◌, List, length, refl, ap, ◌∙◌, subst, arith}
use Rattle.plan_types.specs.declared.place.Place.{Place}
use Rattle.plan_types.specs.Contents.{FoundContents}
use Rattle.whole_code.specs.Building.{lifting_of_places, AreMade}
use Rattle.whole_code.proofs.Growing.{place_made, made_none}
use Rattle.whole_code.proofs.build.all_blocks.Goals as goal

pub loop-index-init : goal.loop-index-init
loop-index-init c = made_none lifting_of_places c.args.found.now.code (length c.args.found.now.code) _ _ c.new-blocks.ensures.items c.new-further.ensures.items

pub loop-index-preserved : goal.loop-index-preserved
loop-index-preserved c =
    let code_is : c.as_slice-code.result.now ≡ c.args.found.now.code = c.as_slice-code.ensures ∙ ap (λ (f : FoundContents). f.code) c.found.view_is in
    let sized : length c.as_slice-code.result.now ≡ length c.args.found.now.code = ap (λ (l : List Place). length l) code_is in
    let first_is : c.in_ok-first.first ≡ length c.args.found.now.code = c.in_ok-first.ensures ∙ sized in
    let next_is : c.in_ok-next.next ≡ length c.args.found.now.code + length c.loop-index.further.items = omega (arith, c.in_ok-next.ensures, c.len.ensures, first_is, c.loop-index.further.ok) in
    place_made lifting_of_places c.args.found.now.code c.as_slice-code.result.now (length c.args.found.now.code) c.loop-index.index _ c.loop-index.blocks.items c.loop-index.further.items code_is (omega arith) c.loop-index.invariant
    c.in_ok-number.number c.in_ok-next.next _ _ _ _ c.in_ok-number.ensures next_is c.in_ok-block.ensures refl refl _ _ c.in_ok-push.ensures.items c.in_ok-append.ensures.items

pub returns : goal.returns
returns c =
    let code_is : c.as_slice-code.result.now ≡ c.args.found.now.code = c.as_slice-code.ensures ∙ ap (λ (f : FoundContents). f.code) c.found.view_is in
    let sized : length c.as_slice-code.result.now ≡ length c.args.found.now.code = ap (λ (l : List Place). length l) code_is in
    let all : c.loop-index.index ≡ length c.args.found.now.code = omega arith in
    record {
      blocks = c.loop-index.blocks.items;
      further = c.loop-index.further.items;
      whole_is = c.in_ok-append-2.ensures.items;
      made = subst (λ i. AreMade lifting_of_places c.args.found.now.code (length c.args.found.now.code) i c.loop-index.blocks.items c.loop-index.further.items) all c.loop-index.invariant;
    }
