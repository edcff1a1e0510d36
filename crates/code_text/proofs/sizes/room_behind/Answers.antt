use Rattle.std.proofs.Common.{subst, sym}
use Rattle.x86_grammar.specs.Fields.{HasSpelling}
use Rattle.code_text.proofs.Walking.{spelled_here}
use Rattle.code_text.proofs.sizes.room_behind.Goals as goal

pub most_bytes-most-requires : goal.most_bytes-most-requires
most_bytes-most-requires c = subst HasSpelling (sym c.instr_of.ensures) (spelled_here c.args.homes.now c.args.items.now c.loop-item.item-index _ c.loop-item-test.true c.requires)
