use Rattle.x86_meaning.proofs.States as states
use Rattle.x86_meaning.proofs.Bytes as bytes
use Rattle.x86_meaning.proofs.laws.state_laws.Goals as goal

pub returns : goal.returns
returns c = record {
  start_is_forgotten = states.start_is_forgotten c.word_laws.ensures;
  step_forgets = states.step_forgets c.memory_laws.ensures;
  step_keeps_kinds = states.step_keeps_kinds c.memory_laws.ensures;
  start_is_of_bytes = bytes.start_is_of_bytes c.word_laws.ensures c.memory_laws.ensures;
  step_keeps_bytes = bytes.step_keeps_bytes c.less_specified_laws.ensures c.less_specified_memory_laws.ensures c.monotone_laws.ensures;
}
