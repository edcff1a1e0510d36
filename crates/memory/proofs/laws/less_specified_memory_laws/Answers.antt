use Rattle.memory.proofs.LessSpecified as memories
use Rattle.memory.proofs.LessSpecifiedCalls as calls
use Rattle.memory.proofs.laws.less_specified_memory_laws.Goals as goal

pub returns : goal.returns
returns c = record {
  itself = memories.itself c.less_specified_laws.ensures;
  of_bytes = memories.of_bytes c.less_specified_laws.ensures;
  then = memories.then c.less_specified_laws.ensures;
  allows = memories.allows;
  bytes = memories.bytes;
  put = memories.put_bytes;
  stored = memories.stored;
  forget = memories.forget;
  forget_left = memories.forget_left;
  call = calls.call c.less_specified_laws.ensures;
}
