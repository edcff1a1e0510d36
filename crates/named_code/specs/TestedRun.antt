-- The run of code whose accesses are tested: one that doesn't pass ends it. All of this is own.
use Rattle.std.specs.Prelude.{◌≡◌, ◌⊎◌, ℕ, suc, ◌==◌, ◌<◌, Bool, false, cond, List, [], ◌∷◌, ◌++◌, Option, Some, None}
use Rattle.std.specs.List.{list_all}
use Rattle.outside.specs.Environment.{Environment}
use Rattle.x86_values.specs.Words.{known}
use Rattle.x86_types.specs.declared.instr.Instr.{Instr}
use Rattle.x86_types.specs.declared.instr.Instr.TheVariants as instr
use Rattle.traces.specs.Trace.{Label, Turn, Unspecified, Move, Halt, Behaviour, seen, run}
use Rattle.traces.specs.Steps.{Reaches}
use Rattle.memory.specs.Memory.{Memory, with_stack}
use Rattle.x86_meaning.specs.Operands.{Access}
use Rattle.x86_meaning.specs.Effect.{accesses}
use Rattle.flag_ir.specs.Accesses.{buffer_accessed}
use Rattle.named_code.specs.Items.{Item, CodeBlock}
use Rattle.named_code.specs.Running.{CodeState, CodePoint, AtNumber, AtOld, Inside, CodePosition, Marks, block_of_number, block_at, code_next}
use Rattle.named_code.specs.CodeRun.{first_position}

-- ---- the accesses of an item: those of its operands, and the buffer of a call
abbrev pub call_buffer : Instr → CodeState → List Access
call_buffer instr.Int80 s = buffer_accessed (known (s.cpu.regs 0)) (known (s.cpu.regs 3)) (known (s.cpu.regs 1)) (known (s.cpu.regs 2))
call_buffer _ s = []

abbrev pub item_accesses : Item → CodeState → List Access
item_accesses x s = accesses x.naming x.instr s.cpu.regs ++ call_buffer x.instr s

-- ---- those of the move of a position: of the first item
abbrev pub first_accesses : List Item → CodeState → List Access
first_accesses [] s = []
first_accesses (x ∷ rest) s = item_accesses x s

abbrev pub items_found : Option CodeBlock → List Item
items_found None = []
items_found (Some b) = b.items

-- the items of the block at a jump, or those within it
abbrev pub items_at : List CodeBlock → CodePoint → List Item
items_at code (AtNumber n) = items_found (block_of_number n code)
items_at code (AtOld a) = items_found (block_at a code)
items_at code (Inside items) = items

abbrev pub position_accesses : List CodeBlock → CodePosition → List Access
position_accesses code p = first_accesses (items_at code p.point) p.state

-- the turn that it begins, if it begins one
abbrev pub turn_shown : ℕ → List Label
turn_shown a = cond (a == 0) [] (Turn a ∷ [])

abbrev pub turn_found : Marks → Option CodeBlock → List Label
turn_found marks None = []
turn_found marks (Some b) = turn_shown (marks b.number)

abbrev pub turn_at : Marks → List CodeBlock → CodePoint → List Label
turn_at marks code (AtNumber n) = turn_found marks (block_of_number n code)
turn_at marks code (AtOld a) = turn_found marks (block_at a code)
turn_at marks code (Inside items) = []

-- ---- the machine that ends, as if an unspecified value were used, where an access doesn't pass a test
abbrev pub AccessTest : Type 0
AccessTest = Memory → Access → Bool

unfoldable pub all_pass : AccessTest → List CodeBlock → CodePosition → Bool
all_pass test code p = list_all (test p.state.memory) (position_accesses code p)

unfoldable pub tested_next : AccessTest → Marks → List CodeBlock → CodePosition → Move CodePosition
tested_next test marks code p = cond (all_pass test code p) (code_next marks code p) (Halt (turn_at marks code p.point) Unspecified)

-- ---- its runs, from a jump to an old address on, with the stack beside other memory
unfoldable pub tested_run : AccessTest → Marks → List CodeBlock → Memory → ℕ → ℕ → List ℕ → Environment → Behaviour
tested_run test marks code m entry esp0 stack left = run (tested_next test marks code) (first_position (with_stack esp0 stack m) entry esp0 left)

-- ---- the code has reached a position an access of which doesn't pass, before the n-th step, and the machine ends with the next step
pub record EndsAtAccess (test : AccessTest) (marks : Marks) (code : List CodeBlock) (from : CodePosition) (n : ℕ) : Type 0 where
  pub steps : ℕ
  pub before : steps < n
  pub shown : List Label
  pub position : CodePosition
  pub reaches : Reaches (code_next marks code) from steps shown position
  pub reached : all_pass test code position ≡ false
  -- so far the same was seen of both
  pub running : run (tested_next test marks code) from steps ≡ seen shown None
  pub ended : run (tested_next test marks code) from (suc steps) ≡ seen (shown ++ turn_at marks code position.point) (Some Unspecified)

-- within n steps the same is seen of both, or such a position is reached
abbrev pub SameUpToAccess : AccessTest → Marks → List CodeBlock → CodePosition → ℕ → Type 0
SameUpToAccess test marks code from n = (run (tested_next test marks code) from n ≡ run (code_next marks code) from n) ⊎ EndsAtAccess test marks code from n
