-- The runs of named and of placed code. All of this is own.
use Rattle.std.specs.Prelude.{ℕ, ◌+◌, ◌-◌, ◌==◌, cond, ltb, List, [], ◌∷◌}
use Rattle.x86_values.specs.declared.word.Word.{Word}
use Rattle.x86_values.specs.Words.{word_of, word_list}
use Rattle.x86_values.specs.Results.{no_flags}
use Rattle.x86_values.specs.Sizes.{no_word}
use Rattle.outside.specs.Environment.{Environment}
use Rattle.traces.specs.Trace.{Behaviour, run}
use Rattle.memory.specs.Memory.{Memory, put_all, with_stack}
use Rattle.x86_meaning.specs.Registers.{Registers}
use Rattle.x86_meaning.specs.Run.{first_registers}
use Rattle.named_code.specs.declared.named.VBlock.{VBlock}
use Rattle.named_code.specs.declared.placed.Home.{Home}
use Rattle.named_code.specs.declared.placed.Placed.{Placed}
use Rattle.named_code.specs.Items.{CodeBlock, named_blocks, placed_blocks}
use Rattle.named_code.specs.Running.{CodeState, CodePosition, AtOld, Marks, standing_at, code_next}

-- ---- the start
-- esp is 0, so that no byte is below it; the other registers are unspecified
abbrev pub first_register : ℕ → Word
first_register k = cond (k == 4) (word_of 0) no_word

-- name n holds what register n holds at a start of the processor: name 4 esp, and every other name 0
unfoldable pub first_places : ℕ → Registers
first_places esp0 k = cond (ltb k 8) (first_register k) (first_registers esp0 (k - 8))

-- each name stands in its cell
abbrev pub with_cells_from : ℕ → ℕ → List Home → Memory → Memory
with_cells_from esp0 n [] m = m
with_cells_from esp0 n (h ∷ more) m = with_cells_from esp0 (n + 1) more (put_all h.cell (word_list (first_registers esp0 n)) m)

unfoldable pub with_cells : ℕ → List Home → Memory → Memory
with_cells esp0 homes m = with_cells_from esp0 0 homes m

abbrev pub first_state : Memory → ℕ → Environment → CodeState
first_state m esp0 left = record { cpu = record { regs = first_places esp0; flags = no_flags }; memory = m; left = left }

abbrev pub first_position : Memory → ℕ → ℕ → Environment → CodePosition
first_position m entry esp0 left = standing_at (AtOld entry) (first_state m esp0 left)

-- ---- the runs, from a jump to an old address on, with the stack beside other memory
unfoldable pub blocks_run : Marks → List CodeBlock → Memory → ℕ → ℕ → List ℕ → Environment → Behaviour
blocks_run marks code m entry esp0 stack left = run (code_next marks code) (first_position (with_stack esp0 stack m) entry esp0 left)

-- of named code, and of placed code, whose names stand in their cells
abbrev pub named_run : Marks → List VBlock → Memory → ℕ → ℕ → List ℕ → Environment → Behaviour
named_run marks code m entry esp0 stack left = blocks_run marks (named_blocks code) m entry esp0 stack left

abbrev pub placed_run : Marks → Placed → Memory → ℕ → ℕ → List ℕ → Environment → Behaviour
placed_run marks p m entry esp0 stack left = blocks_run marks (placed_blocks p) (with_cells esp0 p.homes m) entry esp0 stack left
