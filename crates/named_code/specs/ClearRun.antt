-- The run of placed code whose accesses are clear of what is reserved in a written file. All of this is own.
use Rattle.std.specs.Prelude.{ℕ, List}
use Rattle.outside.specs.Environment.{Environment}
use Rattle.traces.specs.Trace.{Behaviour}
use Rattle.memory.specs.Memory.{Memory}
use Rattle.private_memory.specs.PrivateArea.{is_clear_access}
use Rattle.named_code.specs.declared.placed.Placed.{Placed}
use Rattle.named_code.specs.Items.{placed_blocks}
use Rattle.named_code.specs.Running.{Marks}
use Rattle.named_code.specs.CodeRun.{with_cells}
use Rattle.named_code.specs.TestedRun.{tested_run}

-- each name stands in its cell
abbrev pub clear_run : Marks → Placed → Memory → ℕ → ℕ → List ℕ → Environment → Behaviour
clear_run marks p m entry esp0 stack left = tested_run is_clear_access marks (placed_blocks p) (with_cells esp0 p.homes m) entry esp0 stack left
