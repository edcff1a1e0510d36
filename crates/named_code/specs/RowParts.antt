-- What worked rows of code over places share: places whose words show their numbers, a memory of one page, and what is seen of them.
use Rattle.std.specs.Prelude.{ℕ, zero, suc, ◌+◌, ◌&&◌, Bool, true, false, cond, leb, ltb, List, [], Option, Some, None}
use Rattle.x86_values.specs.declared.byte.Byte.TheVariants.{Known}
use Rattle.x86_values.specs.declared.word.Flags.{Flags}
use Rattle.x86_values.specs.Words.{word_of, known, padded}
use Rattle.traces.specs.Trace.{Label, End, Move, Stand, Go, Halt}
use Rattle.memory.specs.Memory.{Memory, bytes_at}
use Rattle.x86_types.specs.declared.instr.Instr.{Instr}
use Rattle.named_code.specs.declared.slot.Slot.{Slot}
use Rattle.named_code.specs.Items.{Item, CodeBlock, naming_of}
use Rattle.named_code.specs.Running.{CodeState, CodePoint, CodePosition, standing_at, code_next}

abbrev pub item : Instr → List Slot → Item
item i slots = record { naming = naming_of slots; instr = i }

abbrev pub block : ℕ → ℕ → List Item → CodeBlock
block number at items = record { number = number; at = at; items = items }

-- place k holds 0x100 + k; the page of 0x75220000 is 0 and can be written
abbrev pub row_memory : Memory
row_memory a = cond (leb 0x75220000 a && ltb a 0x75221000) (Some (record { byte = Known 0; can_write = true; on_stack = false })) None

abbrev pub all_false : Flags
all_false = record { cf = Some false; pf = Some false; zf = Some false; sf = Some false; of = Some false }

abbrev pub row_state : CodeState
row_state = record { cpu = record { regs = λ k. word_of (0x100 + k); flags = all_false }; memory = row_memory; left = record { input = []; answers = [] } }

-- ---- what is seen after some steps: the state, the end, and the labels of one step
abbrev pub after_move : (CodePosition → Option CodeState) → Move CodePosition → Option CodeState
after_move rest (Stand ls e) = None
after_move rest (Go ls p) = rest p
after_move rest (Halt ls e) = None

unfoldable pub state_after : ℕ → List CodeBlock → CodePosition → Option CodeState
state_after zero code p = Some p.state
state_after (suc n) code p = after_move (state_after n code) (code_next (λ k. 0) code p)

abbrev pub place_in : ℕ → Option CodeState → Option ℕ
place_in k None = None
place_in k (Some s) = known (s.cpu.regs k)

abbrev pub word_in : ℕ → Option CodeState → Option ℕ
word_in at None = None
word_in at (Some s) = known (padded (bytes_at s.memory at 4))

abbrev pub zf_in : Option CodeState → Option Bool
zf_in None = None
zf_in (Some s) = s.cpu.flags.zf

abbrev pub end_of_move : Move CodePosition → Option End
end_of_move (Stand ls e) = Some e
end_of_move (Go ls p) = None
end_of_move (Halt ls e) = Some e

abbrev pub labels_of_move : Move CodePosition → List Label
labels_of_move (Stand ls e) = ls
labels_of_move (Go ls p) = ls
labels_of_move (Halt ls e) = ls

-- a run from within some items, and from a jump
abbrev pub from : List Item → CodePosition
from items = standing_at (CodePoint.Inside items) row_state
