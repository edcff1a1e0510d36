-- What worked rows of operations and exits are made of: a small memory, registers, frames, and what is seen after a step. All of this is own.
use Rattle.std.specs.Prelude.{ℕ, ◌+◌, ◌-◌, ◌%◌, ◌==◌, ◌&&◌, negsuc, true, false, cond, leb, ltb, List, [], ◌∷◌, slice_index_or, slice_get, map, Option, Some, None, Result, Ok, Err}
use Rattle.outside.specs.Environment.{Environment}
use Rattle.outside.specs.declared.answer.Answer.{Answer}
use Rattle.x86_values.specs.declared.byte.Byte.{Byte}
use Rattle.x86_values.specs.declared.byte.Byte.TheVariants.{Known, Unspecified}
use Rattle.x86_values.specs.declared.word.Word.{Word}
use Rattle.x86_values.specs.Words.{word_of}
use Rattle.x86_values.specs.Sizes.{no_word}
use Rattle.traces.specs.Trace.{End}
use Rattle.memory.specs.Memory.{Place, Memory, bytes_at}
use Rattle.flag_ir.specs.declared.variable.Var.{Var}
use Rattle.flag_ir.specs.declared.variable.Var.TheVariants as var
use Rattle.flag_ir.specs.declared.variable.Term.{Term}
use Rattle.flag_ir.specs.declared.variable.Term.TheVariants as term
use Rattle.flag_ir.specs.declared.block.Block.{Block}
use Rattle.flag_ir.specs.declared.block.Exit.TheVariants as exit
use Rattle.flag_ir.specs.declared.procedure.FrameKind.{FrameKind}
use Rattle.flag_ir.specs.declared.procedure.LocalSlot.{LocalSlot}
use Rattle.flag_ir.specs.declared.procedure.Proc.{Proc}
use Rattle.flag_ir.specs.Storage.{Frame, Storage}
use Rattle.flag_ir.specs.Entering.{Onward}

-- ---- variables and terms
abbrev pub reg : ℕ → Var
reg n = var.Reg n

abbrev pub of_reg : ℕ → Term
of_reg n = term.Var (var.Reg n)

abbrev pub of_word : ℕ → Term
of_word n = term.Word n

-- a word of which one byte isn't known
abbrev pub unknown_0 : ℕ → Word
unknown_0 n = record (word_of n) { b0 = Unspecified }

abbrev pub unknown_1 : ℕ → Word
unknown_1 n = record (word_of n) { b1 = Unspecified }

abbrev pub unknown_2 : ℕ → Word
unknown_2 n = record (word_of n) { b2 = Unspecified }

abbrev pub unknown_3 : ℕ → Word
unknown_3 n = record (word_of n) { b3 = Unspecified }

-- ---- the memory: 16 bytes of data from 0x1000 on, 0xA0 to 0xAF, the one at 0x1008 unspecified; 16 bytes from 0x2000 on, 0xC0 to 0xCF,
-- that can't be written; the first byte of all, 0x22, and the last one, 0x11; and the stack from 0x80000000 on, each byte the lowest one
-- of its address
abbrev pub data_place : ℕ → Option Place
data_place k = Some (record { byte = cond (k == 8) Unspecified (Known (0xA0 + k)); can_write = true; on_stack = false })

abbrev pub constant_place : ℕ → Option Place
constant_place k = Some (record { byte = Known (0xC0 + k); can_write = false; on_stack = false })

abbrev pub edge_place : ℕ → Option Place
edge_place n = Some (record { byte = Known n; can_write = true; on_stack = false })

abbrev pub row_stack_place : ℕ → Option Place
row_stack_place a = Some (record { byte = Known (a % 256); can_write = true; on_stack = true })

abbrev pub row_memory : Memory
row_memory a =
    cond (leb 0x1000 a && ltb a 0x1010) (data_place (a - 0x1000))
    (cond (leb 0x2000 a && ltb a 0x2010) (constant_place (a - 0x2000))
    (cond (a == 0) (edge_place 0x22) (cond (a == 0xFFFFFFFF) (edge_place 0x11) (cond (leb 0x80000000 a && ltb a 0x80001100) (row_stack_place a) None))))

-- ---- the storage: registers from 0 on, those that aren't given are 0; esp0 is 0x80001000
abbrev pub no_outside : Environment
no_outside = record { input = []; answers = [] }

abbrev pub row_storage : List Word → List Frame → Storage
row_storage regs frames =
    record { regs = λ n. slice_index_or regs n (word_of 0); flags = λ n. no_word; temps = λ n. no_word; memory = row_memory; left = no_outside; frames = frames; esp0 = 0x80001000 }

abbrev pub with_numbers : List ℕ → Storage
with_numbers ns = row_storage (map word_of ns) []

abbrev pub with_outside : List ℕ → List Answer → Storage → Storage
with_outside input answers u = record u { left = record { input = input; answers = answers } }

-- ---- procedures of depth 8 with one argument word and locals of 1, 2 and 4 bytes: a frame has 16 bytes, from 8 below its height on
abbrev pub three_slots : List LocalSlot
three_slots = record { offset = negsuc 3; size = 1 } ∷ record { offset = negsuc 5; size = 2 } ∷ record { offset = negsuc 7; size = 4 } ∷ []

abbrev pub row_block : ℕ → ℕ → Block
row_block number at = record { number = number; at = at; ops = []; exit = exit.Return }

-- the entry's block is the second
abbrev pub row_procedure : FrameKind → ℕ → Proc
row_procedure kind entry = record { entry = entry; kind = kind; depth = 8; args = 1; locals = three_slots; blocks = row_block 0 0 ∷ row_block 1 entry ∷ row_block 2 0x3333 ∷ [] }

-- a frame, each byte of which is the lowest one of the sum of its address and a number
abbrev pub frame_of : Proc → ℕ → ℕ → Frame
frame_of p height n = record { proc = p; height = height; word = word_of 0; ebp = word_of 0; back = None; image = λ a. Known ((a + n) % 256); locals = λ k. no_word }

-- two frames: the inner one has the addresses from 0x80000EF8 up to 0x80000F08, and the outer one those from 0x80000F04 up to 0x80000F14
abbrev pub inner : FrameKind → Frame
inner kind = frame_of (row_procedure kind 0x3000) 0x80000F00 0x80

abbrev pub outer : FrameKind → Frame
outer kind = frame_of (row_procedure kind 0x3100) 0x80000F0C 0x40

abbrev pub two_frames : FrameKind → FrameKind → List Frame
two_frames kind k = inner kind ∷ outer k ∷ []

-- ---- what is seen after a step
abbrev pub seen_after : {A B : Type 0} → (A → B) → Result A End → Result B End
seen_after see (Ok x) = Ok (see x)
seen_after see (Err e) = Err e

abbrev pub eight : (ℕ → Word) → List Word
eight regs = regs 0 ∷ regs 1 ∷ regs 2 ∷ regs 3 ∷ regs 4 ∷ regs 5 ∷ regs 6 ∷ regs 7 ∷ []

abbrev pub regs_after : Result Storage End → Result (List Word) End
regs_after r = seen_after (λ u. eight u.regs) r

abbrev pub reg_after : ℕ → Result Storage End → Result Word End
reg_after n r = seen_after (λ u. u.regs n) r

-- so many bytes of memory from an address on
abbrev pub bytes_after : ℕ → ℕ → Result Storage End → Result (List Byte) End
bytes_after at n r = seen_after (λ u. bytes_at u.memory at n) r

-- those of a frame
abbrev pub image_bytes : ℕ → Option Frame → List Byte
image_bytes at None = []
image_bytes at (Some f) = f.image at ∷ f.image (at + 1) ∷ f.image (at + 2) ∷ f.image (at + 3) ∷ []

abbrev pub image_after : ℕ → ℕ → Result Storage End → Result (List Byte) End
image_after k at r = seen_after (λ u. image_bytes at (slice_get u.frames k)) r

-- and after an exit: the index of the block, and the storage
abbrev pub index_after : Onward → Result ℕ End
index_after r = seen_after (λ p. p.0) r

abbrev pub storage_after : Onward → Result Storage End
storage_after r = seen_after (λ p. p.1) r

abbrev pub bytes_of : List ℕ → List Byte
bytes_of bs = map Known bs
