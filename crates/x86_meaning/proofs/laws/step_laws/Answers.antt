use Rattle.x86_meaning.proofs.Steps as steps
use Rattle.x86_meaning.proofs.laws.step_laws.Goals as goal

pub returns : goal.returns
returns c = record {
  move = steps.moved;
  jump = steps.jumped;
  call = steps.called;
  set_there = steps.set_there;
  set_elsewhere = steps.set_elsewhere;
  at_instruction = steps.at_instruction;
  at_none = steps.at_none;
  stores_are_accesses = steps.stores_are_accesses;
}
