-- The machine of code over places. An instruction acts as a step of the processor does, but that its fields name places, that Jmp and Jcc
-- name blocks, and that JmpTo leads to the block of an old address. All of this is own.
use Rattle.std.specs.Prelude.{ℕ, ◌==◌, ◌&&◌, Bool, true, false, not, cond, ltb, List, [], ◌∷◌, find, Option, Some, None, Result, Ok, Err}
use Rattle.x86_values.specs.Results.{no_flags}
use Rattle.x86_values.specs.Sizes.{no_word}
use Rattle.outside.specs.Environment.{Environment}
use Rattle.traces.specs.Trace.{Outside, Move, Stand, Go, Halt}
use Rattle.traces.specs.Machines.{marked}
use Rattle.memory.specs.Memory.{Memory, Load, Store, store_all}
use Rattle.memory.specs.SystemCall.{Called, Ends, Gives, system_call}
use Rattle.x86_meaning.specs.declared.stop.Stop.{Stop}
use Rattle.x86_meaning.specs.declared.stop.Stop.TheVariants.{MemoryFault}
use Rattle.x86_meaning.specs.Registers.{Registers, Processor}
use Rattle.x86_meaning.specs.Outcomes.{Way, Falls, JumpsBy, JumpsTo, Repeats, Calls}
use Rattle.x86_meaning.specs.Effect.{Effect, accesses, effect}
use Rattle.x86_meaning.specs.Step.{all_allowed, end_of, request_of, with_result}
use Rattle.named_code.specs.Items.{Item, CodeBlock}

-- the words of all places, the flags, memory, and what the outside has left
pub record CodeState : Type 0 where
  pub cpu : Processor
  pub memory : Memory
  pub left : Environment

-- at a jump to a block by its number, at a jump to an old address, or within a block, before these items
pub data CodePoint : Type 0 where
  AtNumber : (number : ℕ) → CodePoint
  AtOld : (at : ℕ) → CodePoint
  Inside : (items : List Item) → CodePoint

pub record CodePosition : Type 0 where
  pub point : CodePoint
  pub state : CodeState

abbrev pub standing_at : CodePoint → CodeState → CodePosition
standing_at point s = record { point = point; state = s }

-- ---- what is lost at a jump to an old address: the registers other than esp, and the flags
abbrev pub names_alone : Registers → Registers
names_alone regs k = cond (ltb k 8 && not (k == 4)) no_word (regs k)

abbrev pub lost : CodeState → CodeState
lost s = record s { cpu = record { regs = names_alone s.cpu.regs; flags = no_flags } }

-- ---- what an item does, and where the run goes on
abbrev pub after_call : Called → List Item → CodeState → Move CodePosition
after_call (Ends e) rest s = Halt [] e
after_call (Gives labels result stores left) rest s = Go labels (standing_at (Inside rest) (record { cpu = with_result result s.cpu; memory = store_all stores s.memory; left = left }))

-- a string instruction that repeats stays at its item
abbrev pub onward : Way → Item → List Item → CodeState → Move CodePosition
onward Falls x rest s = Go [] (standing_at (Inside rest) s)
onward (JumpsBy number) x rest s = Go [] (standing_at (AtNumber number) s)
onward (JumpsTo at) x rest s = Go [] (standing_at (AtOld at) (lost s))
onward Repeats x rest s = Go [] (standing_at (Inside (x ∷ rest)) s)
onward Calls x rest s = after_call (system_call (request_of s.cpu) s.memory s.left) rest s

abbrev pub performed : Effect → CodeState → CodeState
performed e s = record s { cpu = e.cpu; memory = store_all e.stores s.memory }

-- the loads are judged before the effect and the stores after it
abbrev pub by_stores : Bool → Effect → Item → List Item → CodeState → Move CodePosition
by_stores false e x rest s = Halt [] (end_of MemoryFault)
by_stores true e x rest s = onward e.way x rest (performed e s)

abbrev pub by_effect : Result Effect Stop → Bool → Item → List Item → CodeState → Move CodePosition
by_effect (Err stop) stores x rest s = Halt [] (end_of stop)
by_effect (Ok e) stores x rest s = by_stores stores e x rest s

abbrev pub by_loads : Bool → Bool → Result Effect Stop → Item → List Item → CodeState → Move CodePosition
by_loads false stores e x rest s = Halt [] (end_of MemoryFault)
by_loads true stores e x rest s = by_effect e stores x rest s

unfoldable pub act : Item → List Item → CodeState → Move CodePosition
act x rest s =
    let made = accesses x.naming x.instr s.cpu.regs in
    by_loads (all_allowed Load made s.memory) (all_allowed Store made s.memory) (effect x.naming x.instr 0 s.cpu s.memory) x rest s

-- the run ends without a step behind the last item of a block
abbrev pub goes_on : List Item → CodeState → Move CodePosition
goes_on [] s = Stand [] Outside
goes_on (x ∷ rest) s = act x rest s

-- ---- the machine
-- the first block of a number, and the first of an old address; no block has the address 0
abbrev pub block_of_number : ℕ → List CodeBlock → Option CodeBlock
block_of_number n code = find (λ b. b.number == n) code

abbrev pub block_at : ℕ → List CodeBlock → Option CodeBlock
block_at a code = cond (a == 0) None (find (λ b. b.at == a) code)

-- Marks tell at which old address a block of a number begins a turn, with its first instruction; 0 where it begins none. No run looks at
-- them.
abbrev pub Marks : Type 0
Marks = ℕ → ℕ

abbrev pub marked_unless_zero : ℕ → Move CodePosition → Move CodePosition
marked_unless_zero at m = cond (at == 0) m (marked at m)

-- a jump that finds no block has ended the run
abbrev pub begun : Marks → Option CodeBlock → CodeState → Move CodePosition
begun marks None s = Stand [] Outside
begun marks (Some b) s = marked_unless_zero (marks b.number) (goes_on b.items s)

abbrev pub move_at : Marks → List CodeBlock → CodePoint → CodeState → Move CodePosition
move_at marks code (AtNumber n) s = begun marks (block_of_number n code) s
move_at marks code (AtOld a) s = begun marks (block_at a code) s
move_at marks code (Inside items) s = goes_on items s

unfoldable pub code_next : Marks → List CodeBlock → CodePosition → Move CodePosition
code_next marks code p = move_at marks code p.point p.state
