use Rattle.x86_meaning.proofs.Accessing.{effect_by_loads, step_outside}
use Rattle.x86_meaning.proofs.laws.access_laws.Goals as goal

pub returns : goal.returns
returns c = record {
  effect_by_loads = effect_by_loads c.memory_laws.ensures;
  step_outside = λ i len at count s t. step_outside c.memory_laws.ensures c.call_laws.ensures at count i len s t;
}
