use Rattle.std.proofs.Common.{◌≤◌, sym, ◌∙◌}
use Rattle.std.proofs.lemmas.Bool.{leb-true}
use Rattle.named_code.specs.Items.{placed_blocks}
use Rattle.code_text.specs.Placing.{blocks_most}
use Rattle.recompile.proofs.Recompiled.{Given, can_be_laid, is_recompiled}
use Rattle.recompile.proofs.recompiler.recompile.Goals as goal

pub lay-requires : goal.lay-requires
lay-requires c =
    let given : Given = record { agreement = c.agreement_law.ensures; lengths = c.layout_laws.ensures.lengths; jumps = c.best_lengths.ensures.lengths; above = c.above_law.ensures; image = c.image_laws.ensures; found = c.found_laws.ensures; code = c.code_laws.ensures } in
    can_be_laid given c.args.image.now c.in_ok-found.found c.in_ok-found.ensures.found c.in_ok-placed.placed c.in_ok-placed.ensures c.requires.source c.requires.bytes
    (leb-true (blocks_most (placed_blocks c.in_ok-placed.placed)) 335000000 (sym c.has_room.ensures ∙ c.if-not-has_room.false))

pub returns : goal.returns
returns c =
    let given : Given = record { agreement = c.agreement_law.ensures; lengths = c.layout_laws.ensures.lengths; jumps = c.best_lengths.ensures.lengths; above = c.above_law.ensures; image = c.image_laws.ensures; found = c.found_laws.ensures; code = c.code_laws.ensures } in
    is_recompiled given c.args.image.now c.in_ok-found.found c.in_ok-found.ensures.found c.in_ok-placed.placed c.in_ok-placed.ensures c.requires.source c.in_ok-layout.layout c.in_ok-layout.ensures
