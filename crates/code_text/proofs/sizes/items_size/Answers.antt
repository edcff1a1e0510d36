use Rattle.std.proofs.Common.{arith, subst, sym}
use Rattle.x86_grammar.specs.Fields.{HasSpelling}
use Rattle.code_text.specs.KeptPlaces.{sized}
use Rattle.code_text.proofs.Walking.{spelled_here, size_end, size_step, few_step}
use Rattle.code_text.proofs.sizes.items_size.Goals as goal

pub instr_size-size-requires : goal.instr_size-size-requires
instr_size-size-requires c = subst HasSpelling (sym c.instr_of.ensures) (spelled_here c.args.homes.now c.args.items.now c.loop-item.item-index _ c.loop-item-test.true c.requires.spelled)

pub loop-item-preserved : goal.loop-item-preserved
loop-item-preserved c = record {
  whole = size_step c.args.homes.now c.args.items.now c.loop-item.item-index _ c.loop-item-test.true (sized c.args.span c.args.count) c.instr_of.result c.loop-item.size c.instr_size-size.result _ c.instr_of.ensures c.instr_size-size.ensures.size c.loop-item.invariant.whole;
  few = few_step c.args.homes.now c.args.items.now c.loop-item.item-index _ c.loop-item-test.true c.instr_of.result c.loop-item.size c.instr_size-size.result _ c.instr_of.ensures c.instr_size-size.ensures.short c.loop-item.invariant.few;
}

pub returns-clause-size : goal.returns-clause-size
returns-clause-size c = let end = size_end c.args.homes.now c.args.items.now (sized c.args.span c.args.count) c.loop-item.item-index c.loop-item-test.false in omega (arith, end, c.loop-item.invariant.whole)
