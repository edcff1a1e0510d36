-- The run of named code whose accesses keep apart from what the program mustn't reach. All of this is own.
use Rattle.std.specs.Prelude.{ℕ, List}
use Rattle.outside.specs.Environment.{Environment}
use Rattle.traces.specs.Trace.{Behaviour}
use Rattle.memory.specs.Memory.{Memory}
use Rattle.private_memory.specs.PrivateArea.{is_apart_access}
use Rattle.named_code.specs.declared.named.VBlock.{VBlock}
use Rattle.named_code.specs.Items.{named_blocks}
use Rattle.named_code.specs.Running.{Marks}
use Rattle.named_code.specs.TestedRun.{tested_run}

abbrev pub apart_run : Marks → List VBlock → Memory → ℕ → ℕ → List ℕ → Environment → Behaviour
apart_run marks code m entry esp0 stack left = tested_run is_apart_access marks (named_blocks code) m entry esp0 stack left
