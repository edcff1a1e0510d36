use Rattle.std.proofs.Common.{◌++◌, length, sym, subst}
use Rattle.x86_grammar.specs.Fields.{HasSpelling}
use Rattle.code_text.specs.KeptPlaces.{places_in}
use Rattle.code_text.specs.Texts.{stop}
use Rattle.code_text.proofs.Walking.{spelled_here, size_step_up}
use Rattle.code_text.proofs.Pushed.{items_done, items_go_on, on_ok_if}
use Rattle.code_text.proofs.text.push_items.Goals as goal

pub push_instr-requires-clause-spelled : goal.push_instr-requires-clause-spelled
push_instr-requires-clause-spelled c = subst HasSpelling (sym c.instr_of.ensures) (spelled_here c.args.homes.now c.args.items.now c.loop-item.item-index _ c.loop-item-test.true c.requires.spelled)

pub loop-item-preserved : goal.loop-item-preserved
loop-item-preserved c =
    let homes = c.args.homes.now in
    let items = c.args.items.now in
    let i = c.loop-item.item-index in
    record {
      whole = items_go_on homes items (places_in c.args.places.now) i _ c.instr_of.result c.loop-item.out.items c.push_instr.new.out.items _ c.loop-item-test.true c.instr_of.ensures c.in_ok-push_instr.ensures.text c.loop-item.invariant.whole;
      few = size_step_up homes items i _ c.loop-item-test.true c.instr_of.result (length c.loop-item.out.items) (length c.push_instr.new.out.items) _ c.instr_of.ensures c.in_ok-push_instr.ensures.short c.loop-item.invariant.few;
    }

pub returns-clause-text : goal.returns-clause-text
returns-clause-text c =
    let done = items_done c.args.homes.now c.args.items.now (places_in c.args.places.now) c.loop-item.item-index c.loop-item.out.items _ c.loop-item-test.false c.loop-item.invariant.whole in
    on_ok_if c.extend_from_slice.result c.extend_from_slice.new.self.items (c.loop-item.out.items ++ stop) c.loop-item.out.items _ c.extend_from_slice.ensures.items done
