use Rattle.memory.proofs.Calls as calls
use Rattle.memory.proofs.laws.call_laws.Goals as goal

pub returns : goal.returns
returns c = record {
  by_buffer = calls.by_buffer;
  same_in_is_buffer = calls.same_in_is_buffer;
  are_plain = calls.are_plain;
  show_one_event = calls.show_one_event;
  keep_environment = calls.keep_environment;
  leave_input = calls.leave_input;
  store_in_buffer = calls.store_in_buffer;
}
