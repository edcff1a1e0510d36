-- Worked steps of single instructions: a small memory, registers and flags before the step, and what stands there after it.
use Rattle.std.specs.Prelude.{ℕ, ◌+◌, ◌-◌, ◌==◌, ◌&&◌, true, false, cond, leb, ltb, Bool, map, List, [], ◌∷◌, slice_index_or, Option, Some, None}
use Rattle.x86_values.specs.declared.byte.Byte.{Byte}
use Rattle.x86_values.specs.declared.byte.Byte.TheVariants.{Known, Unspecified}
use Rattle.x86_values.specs.declared.word.Word.{Word}
use Rattle.x86_values.specs.declared.word.Flags.{Flags}
use Rattle.x86_values.specs.Words.{word_of}
use Rattle.traces.specs.Trace.{End, Move, Stand, Go, Halt}
use Rattle.memory.specs.Memory.{Place, Memory, bytes_at}
use Rattle.x86_types.specs.declared.instr.Instr.{Instr}
use Rattle.x86_meaning.specs.Step.{State, step}

-- ---- the memory of the rows: 16 bytes of data from 0x1000 on, 0xA0 to 0xAF, the one at 0x1008 unspecified; 16 bytes from 0x2000 on,
-- 0xC0 to 0xCF, that can't be written; 16 bytes of the stack from 0x8000 on, 0x50 to 0x5F, and 16 unspecified ones below them
abbrev pub data_place : ℕ → Option Place
data_place k = Some (record { byte = cond (k == 8) Unspecified (Known (0xA0 + k)); can_write = true; on_stack = false })

abbrev pub constant_place : ℕ → Option Place
constant_place k = Some (record { byte = Known (0xC0 + k); can_write = false; on_stack = false })

abbrev pub row_stack_place : ℕ → Option Place
row_stack_place k = Some (record { byte = cond (ltb k 16) Unspecified (Known (0x40 + k)); can_write = true; on_stack = true })

abbrev pub row_memory : Memory
row_memory a =
    cond (leb 0x1000 a && ltb a 0x1010) (data_place (a - 0x1000))
    (cond (leb 0x2000 a && ltb a 0x2010) (constant_place (a - 0x2000))
    (cond (leb 0x7FF0 a && ltb a 0x8010) (row_stack_place (a - 0x7FF0)) None))

-- a word of which nothing is known, and one of which the lowest byte isn't
abbrev pub unknown : Word
unknown = record { b0 = Unspecified; b1 = Unspecified; b2 = Unspecified; b3 = Unspecified }

abbrev pub unknown_below : ℕ → Word
unknown_below n = record (word_of n) { b0 = Unspecified }

-- CF, PF, ZF, SF and OF
abbrev pub five_flags : Option Bool → Option Bool → Option Bool → Option Bool → Option Bool → Flags
five_flags c p z s o = record { cf = c; pf = p; zf = z; sf = s; of = o }

abbrev pub known_flags : Bool → Bool → Bool → Bool → Bool → Flags
known_flags c p z s o = five_flags (Some c) (Some p) (Some z) (Some s) (Some o)

abbrev pub all_set : Flags
all_set = known_flags true true true true true

abbrev pub all_cleared : Flags
all_cleared = known_flags false false false false false

-- ---- a row: EAX, ECX, EDX, EBX, ESP, EBP, ESI and EDI, and the flags, before the step; the instruction stands at 0x3000 and has two
-- bytes
abbrev pub row_state : List Word → Flags → State
row_state regs f = record { cpu = record { regs = λ n. slice_index_or regs n (word_of 0); flags = f }; eip = 0x3000; memory = row_memory; left = record { input = []; answers = [] } }

-- what is seen after it: the eight registers, the flags, the address of the next instruction, and bytes of memory that are asked for;
-- or the end
pub data Shown : Type 0 where
  Now : (regs : List Word) → (flags : Flags) → (eip : ℕ) → (bytes : List Byte) → Shown
  Ended : (end : End) → Shown

abbrev pub eight_registers : (ℕ → Word) → List Word
eight_registers regs = regs 0 ∷ regs 1 ∷ regs 2 ∷ regs 3 ∷ regs 4 ∷ regs 5 ∷ regs 6 ∷ regs 7 ∷ []

abbrev pub shown : ℕ → ℕ → Move State → Shown
shown at n (Stand ls e) = Ended e
shown at n (Go ls s) = Now (eight_registers s.cpu.regs) s.cpu.flags s.eip (bytes_at s.memory at n)
shown at n (Halt ls e) = Ended e

-- n bytes from an address on are asked for
abbrev pub see : Instr → List Word → Flags → ℕ → ℕ → Shown
see i regs f at n = shown at n (step i 2 (row_state regs f))

-- the words of numbers, with ESP 0x8000 in its place
abbrev pub registers : ℕ → ℕ → ℕ → ℕ → ℕ → ℕ → ℕ → List Word
registers eax ecx edx ebx ebp esi edi = word_of eax ∷ word_of ecx ∷ word_of edx ∷ word_of ebx ∷ word_of 0x8000 ∷ word_of ebp ∷ word_of esi ∷ word_of edi ∷ []

abbrev pub bytes_of : List ℕ → List Byte
bytes_of bs = map Known bs
