use Rattle.std.proofs.Common.{refl, ◌∙◌, subst, sym, arith, List}
use Rattle.flag_ir.specs.declared.block.Block.{Block}
use Rattle.x86_code.specs.Code.{code_of}
use Rattle.whole_code.specs.Building.{lifting_of_places, AreBlocksOf}
use Rattle.whole_code.specs.Weight.{longest_list, whole_weight}
use Rattle.whole_code.proofs.PlainPlaces.{plain_places}
use Rattle.whole_code.proofs.WholeUnit.{is_whole}
use Rattle.whole_code.proofs.Shapes.{made_in_form, made_well_shaped, made_short_lists, made_bounds}
use Rattle.whole_code.proofs.OfImage.{lifted_of_image}
use Rattle.whole_code.proofs.unit.whole.Goals as goal

pub returns-clause-whole : goal.returns-clause-whole
returns-clause-whole c =
    is_whole lifting_of_places _ c.args.found.now c.ascends.ensures.by_place c.requires refl (c.new-3.ensures ∙ c.new-2.ensures.items)
    (subst (λ (l : List Block). AreBlocksOf lifting_of_places c.args.found.now.code l) (sym c.new.ensures) c.in_ok-blocks.ensures)

pub returns-clause-form : goal.returns-clause-form
returns-clause-form c =
    made_in_form longest_list lifting_of_places (plain_places c.lifting_laws.ensures) c.args.found.now.code _ c.ascends.ensures.by_place c.requires refl (c.new-3.ensures ∙ c.new-2.ensures.items)
    (subst (λ (l : List Block). AreBlocksOf lifting_of_places c.args.found.now.code l) (sym c.new.ensures) c.in_ok-blocks.ensures)

pub returns-clause-shape : goal.returns-clause-shape
returns-clause-shape c =
    made_well_shaped longest_list lifting_of_places (plain_places c.lifting_laws.ensures) c.args.found.now.code _ c.ascends.ensures.by_place c.requires refl (c.new-3.ensures ∙ c.new-2.ensures.items)
    (subst (λ (l : List Block). AreBlocksOf lifting_of_places c.args.found.now.code l) (sym c.new.ensures) c.in_ok-blocks.ensures)

pub returns-clause-short : goal.returns-clause-short
returns-clause-short c =
    made_short_lists longest_list lifting_of_places (plain_places c.lifting_laws.ensures) c.args.found.now.code _ c.ascends.ensures.by_place c.requires refl (c.new-3.ensures ∙ c.new-2.ensures.items)
    (subst (λ (l : List Block). AreBlocksOf lifting_of_places c.args.found.now.code l) (sym c.new.ensures) c.in_ok-blocks.ensures)

pub returns-clause-weight : goal.returns-clause-weight
returns-clause-weight c =
    made_bounds longest_list whole_weight (omega arith) lifting_of_places (plain_places c.lifting_laws.ensures) c.args.found.now.code _ c.ascends.ensures.by_place c.requires refl (c.new-3.ensures ∙ c.new-2.ensures.items)
    (subst (λ (l : List Block). AreBlocksOf lifting_of_places c.args.found.now.code l) (sym c.new.ensures) c.in_ok-blocks.ensures)

pub returns-clause-one_stack : goal.returns-clause-one_stack
returns-clause-one_stack c = λ image fits is.
    c.one_stack_law.ensures lifting_of_places (code_of image) c.args.found.now _
    (lifted_of_image c.found_laws.ensures c.lifting_laws.ensures image c.args.found.now fits is) (returns-clause-whole c) (returns-clause-shape c)
