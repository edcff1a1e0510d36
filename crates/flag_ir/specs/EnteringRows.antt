-- Worked exits to blocks, jumps and openings of frames.
use Rattle.std.specs.Prelude.{◌≡◌, ℕ, ◌+◌, ◌-◌, true, false, cond, leb, List, [], ◌∷◌, slice_get, Option, Some, None, Result, Ok, Err}
use Rattle.std.specs.Option.{option_map}
use Rattle.x86_values.specs.declared.byte.Byte.{Byte}
use Rattle.x86_values.specs.declared.byte.Byte.TheVariants.{Known, Unspecified}
use Rattle.x86_values.specs.declared.word.Word.{Word}
use Rattle.x86_values.specs.Words.{word_of}
use Rattle.x86_values.specs.Sizes.{no_word}
use Rattle.traces.specs.Trace.{End, Stopped}
use Rattle.traces.specs.Trace as trace
use Rattle.memory.specs.Memory.{Place, Memory}
use Rattle.flag_ir.specs.declared.block.Exit.{Exit}
use Rattle.flag_ir.specs.declared.block.Exit.TheVariants as exit
use Rattle.flag_ir.specs.declared.procedure.FrameKind.{FrameKind}
use Rattle.flag_ir.specs.declared.procedure.FrameKind.TheVariants.{Sealed, Guarded, Shared}
use Rattle.flag_ir.specs.Storage.{Frame, Storage}
use Rattle.flag_ir.specs.Entering.{CodeUnit, Onward, is_too_deep, leave}
use Rattle.flag_ir.specs.RowParts.{of_reg, of_word, unknown_0, unknown_3, row_storage, with_numbers, row_block, row_procedure, frame_of, inner, outer, seen_after, index_after, bytes_of}

-- ---- a unit whose blocks aren't numbered in order, with blocks that begin no turn, and procedures with the entries 0x3000 and 0x3100, and 0
abbrev pub row_unit : CodeUnit
row_unit = record { lowered = false; whole = row_block 5 0 ∷ row_block 7 0x1234 ∷ row_block 0 0 ∷ row_block 7 0x1234 ∷ row_block 1 0x3000 ∷ []; procs = row_procedure Guarded 0x3000 ∷ row_procedure Sealed 0x3100 ∷ row_procedure Shared 0x3000 ∷ row_procedure Guarded 0 ∷ [] }

abbrev pub left_by : Exit → Storage → Onward
left_by e u = leave row_unit 0x4321 e u

abbrev pub goes_to : Exit → Storage → Result ℕ End
goes_to e u = index_after (left_by e u)

-- with r0 so, and with one frame open
abbrev pub with_r0 : Word → Storage
with_r0 w = row_storage (w ∷ []) []

abbrev pub with_frame_open : Storage
with_frame_open = row_storage [] (outer Guarded ∷ [])

-- ---- a lowered unit, over memory that has four bytes at 0x75000004
abbrev pub private_place : List Byte → ℕ → Option Place
private_place bytes k = option_map (λ b. record { byte = b; can_write = true; on_stack = false }) (slice_get bytes k)

abbrev pub private_memory : List Byte → Memory
private_memory bytes a = cond (leb 0x75000004 a) (private_place bytes (a - 0x75000004)) None

abbrev pub stops_over : List Byte → Result ℕ End
stops_over bytes = index_after (leave (record row_unit { lowered = true; procs = [] }) 0x4321 exit.Stop (record (with_numbers []) { memory = private_memory bytes }))

pub record BlockRows : Type 0 where
  -- the first block of a number
  pub go : goes_to (exit.Go 7) (with_numbers []) ≡ Ok 1
  pub go_first : goes_to (exit.Go 5) (with_numbers []) ≡ Ok 0
  pub go_nowhere : goes_to (exit.Go 2) (with_numbers []) ≡ Err trace.Outside
  -- of the part that runs
  pub go_in_procedure : goes_to (exit.Go 2) with_frame_open ≡ Ok 2
  pub go_nowhere_in_procedure : goes_to (exit.Go 7) with_frame_open ≡ Err trace.Outside
  pub branch_yes : goes_to (exit.Branch (of_reg 0) 7 1) (with_r0 (word_of 0x100)) ≡ Ok 1
  pub branch_no : goes_to (exit.Branch (of_reg 0) 7 1) (with_r0 (word_of 0)) ≡ Ok 4
  pub branch_unknown : goes_to (exit.Branch (of_reg 0) 7 7) (with_r0 (unknown_3 1)) ≡ Err trace.Unspecified
  pub branch_nowhere : goes_to (exit.Branch (of_reg 0) 2 1) (with_r0 (word_of 1)) ≡ Err trace.Outside
  pub fault : goes_to exit.Fault (with_numbers []) ≡ Err trace.MemoryFault
  pub stop : goes_to exit.Stop (with_numbers []) ≡ Err (Stopped 0x4321)
  -- in a lowered unit by the word of memory
  pub lowered_stop : stops_over (bytes_of (1 ∷ 2 ∷ 3 ∷ 4 ∷ [])) ≡ Err (Stopped 0x04030201)
  pub lowered_stop_unknown : stops_over (Known 1 ∷ Known 2 ∷ Unspecified ∷ Known 4 ∷ []) ≡ Err trace.Unspecified
  pub lowered_stop_unmapped : stops_over (bytes_of (1 ∷ 2 ∷ 3 ∷ [])) ≡ Err trace.Unspecified

pub record JumpRows : Type 0 where
  -- the first block of an old address, in the whole part
  pub block : goes_to (exit.Jump (of_word 0x1234)) (with_numbers []) ≡ Ok 1
  pub by_register : goes_to (exit.Jump (of_reg 0)) (with_r0 (word_of 0x1234)) ≡ Ok 1
  pub nowhere : goes_to (exit.Jump (of_word 0x5555)) (with_numbers []) ≡ Err (Stopped 0x5555)
  -- two blocks and a procedure have the address 0, and aren't found by it
  pub zero : goes_to (exit.Jump (of_word 0)) (with_numbers (0 ∷ 0 ∷ 0 ∷ 0 ∷ 0x80000E00 ∷ [])) ≡ Err (Stopped 0)
  pub unknown : goes_to (exit.Jump (of_reg 0)) (with_r0 (unknown_0 0x1234)) ≡ Err trace.Unspecified
  -- while a frame is open, to a block of its own procedure too
  pub while_open : goes_to (exit.Jump (of_word 0x1234)) with_frame_open ≡ Err (Stopped 0x1234)
  pub to_its_own : goes_to (exit.Jump (of_word 0x3333)) with_frame_open ≡ Err (Stopped 0x3333)
  pub to_a_procedure : goes_to (exit.Jump (of_word 0x3000)) with_frame_open ≡ Err (Stopped 0x3000)
  -- a procedure comes before a block; its block of the entry is the second
  pub procedure : goes_to (exit.Jump (of_word 0x3000)) (with_numbers (0 ∷ 0 ∷ 0 ∷ 0 ∷ 0x80000E00 ∷ [])) ≡ Ok 1
  pub no_esp : goes_to (exit.Jump (of_word 0x3000)) (row_storage (word_of 0 ∷ word_of 0 ∷ word_of 0 ∷ word_of 0 ∷ unknown_0 0x80000E00 ∷ []) []) ≡ Err trace.Unspecified

-- ---- what is seen of the innermost frame: its kind and height, the kept words, the block behind the call, its 16 bytes, and its locals
pub record FrameSeen : Type 0 where
  pub kind : FrameKind
  pub height : ℕ
  pub word : Word
  pub ebp : Word
  pub back : Option ℕ
  pub below : List Byte
  pub above : List Byte
  pub locals : List Word

abbrev pub eight_bytes : ℕ → (ℕ → Byte) → List Byte
eight_bytes a image = image a ∷ image (a + 1) ∷ image (a + 2) ∷ image (a + 3) ∷ image (a + 4) ∷ image (a + 5) ∷ image (a + 6) ∷ image (a + 7) ∷ []

-- the first of its bytes is given
abbrev pub frame_seen : ℕ → Frame → FrameSeen
frame_seen first f = record { kind = f.proc.kind; height = f.height; word = f.word; ebp = f.ebp; back = f.back; below = eight_bytes first f.image; above = eight_bytes (first + 8) f.image; locals = f.locals 0 ∷ f.locals 1 ∷ f.locals 2 ∷ f.locals 3 ∷ [] }

abbrev pub innermost : ℕ → List Frame → Option FrameSeen
innermost first [] = None
innermost first (f ∷ more) = Some (frame_seen first f)

abbrev pub opens : ℕ → Onward → Result (Option FrameSeen) End
opens first r = seen_after (λ p. innermost first p.1.frames) r

abbrev pub unknown_bytes : List Byte
unknown_bytes = Unspecified ∷ Unspecified ∷ Unspecified ∷ Unspecified ∷ Unspecified ∷ Unspecified ∷ Unspecified ∷ Unspecified ∷ []

-- locals of 1, 2 and 4 bytes, and one that isn't there
abbrev pub first_locals : List Word
first_locals = record (word_of 0) { b0 = Unspecified } ∷ record (word_of 0) { b0 = Unspecified; b1 = Unspecified } ∷ no_word ∷ no_word ∷ []

-- r4 and r5 with open frames
abbrev pub at_esp : ℕ → List Frame → Storage
at_esp esp frames = row_storage (word_of 0 ∷ word_of 0 ∷ word_of 0 ∷ word_of 0 ∷ word_of esp ∷ word_of 0xBBBB ∷ []) frames

abbrev pub jumps_in : ℕ → Onward
jumps_in esp = left_by (exit.Jump (of_word 0x3000)) (at_esp esp [])

abbrev pub calls_in : ℕ → List Frame → Onward
calls_in esp frames = left_by (exit.CallProc 0x3000 9) (at_esp esp frames)

pub record OpeningRows : Type 0 where
  -- the return word and the argument word from memory; the first procedure of the entry is Guarded
  pub by_jump : opens 0x80000DF8 (jumps_in 0x80000E00) ≡ Ok (Some (record { kind = Guarded; height = 0x80000E00; word = word_of 0x03020100; ebp = word_of 0xBBBB; back = None; below = unknown_bytes; above = bytes_of (0 ∷ 1 ∷ 2 ∷ 3 ∷ 4 ∷ 5 ∷ 6 ∷ 7 ∷ []); locals = first_locals }))
  -- both from the caller's frame, which begins at 0x80000F04
  pub by_call : opens 0x80000EFC (calls_in 0x80000F04 (outer Sealed ∷ [])) ≡ Ok (Some (record { kind = Guarded; height = 0x80000F04; word = word_of 0x47464544; ebp = word_of 0xBBBB; back = Some 9; below = unknown_bytes; above = bytes_of (0x44 ∷ 0x45 ∷ 0x46 ∷ 0x47 ∷ 0x48 ∷ 0x49 ∷ 0x4A ∷ 0x4B ∷ []); locals = first_locals }))
  -- the return word from memory below it
  pub by_call_from_both : opens 0x80000EF8 (calls_in 0x80000F00 (outer Shared ∷ inner Guarded ∷ [])) ≡ Ok (Some (record { kind = Guarded; height = 0x80000F00; word = word_of 0x03020100; ebp = word_of 0xBBBB; back = Some 9; below = unknown_bytes; above = bytes_of (0 ∷ 1 ∷ 2 ∷ 3 ∷ 0x44 ∷ 0x45 ∷ 0x46 ∷ 0x47 ∷ []); locals = first_locals }))
  pub goes_on : index_after (calls_in 0x80000F04 (outer Guarded ∷ [])) ≡ Ok 1
  -- its words aren't in the caller's frame
  pub call_below : index_after (calls_in 0x80000EFF (outer Guarded ∷ [])) ≡ Err (Stopped 0x3000)
  pub call_above : index_after (calls_in 0x80000F05 (outer Guarded ∷ [])) ≡ Err (Stopped 0x3000)
  pub call_without_esp : goes_to (exit.CallProc 0x3000 9) (row_storage (word_of 0 ∷ word_of 0 ∷ word_of 0 ∷ word_of 0 ∷ no_word ∷ []) (outer Guarded ∷ [])) ≡ Err trace.Unspecified
  pub call_outside : index_after (calls_in 0x80000F04 []) ≡ Err trace.Outside
  pub call_of_none : goes_to (exit.CallProc 0x5555 9) (at_esp 0x80000F04 (outer Guarded ∷ [])) ≡ Err trace.Outside
  pub call_of_zero : goes_to (exit.CallProc 0 9) (at_esp 0x80000F04 (outer Guarded ∷ [])) ≡ Err trace.Outside

-- ---- how deep frames may be: 4 MiB below esp0 is 0x7FC01000, and the frame of the procedure goes 8 bytes below its height
-- a frame outside it, of so many bytes in all
abbrev pub wide : ℕ → Frame
wide depth = frame_of (record (row_procedure Guarded 0x3100) { depth = depth }) 0x80000F0C 0x40

pub record DepthRows : Type 0 where
  pub deepest : index_after (jumps_in 0x7FC01008) ≡ Ok 1
  pub too_deep : index_after (jumps_in 0x7FC01007) ≡ Err (Stopped 0x3000)
  pub highest : index_after (jumps_in 0x80001000) ≡ Ok 1
  pub too_high : index_after (jumps_in 0x80001001) ≡ Err (Stopped 0x3000)
  -- 16 bytes take up 288, and 25,165,552 take up 50,331,360
  pub all_taken : index_after (calls_in 0x80000F04 (wide 25165544 ∷ [])) ≡ Ok 1
  pub too_much_taken : index_after (calls_in 0x80000F04 (wide 25165545 ∷ [])) ≡ Err (Stopped 0x3000)
  pub taken_by_several : is_too_deep 0x80001000 (inner Guarded) (outer Sealed ∷ wide 25165400 ∷ []) ≡ false
  pub too_much_by_several : is_too_deep 0x80001000 (inner Guarded) (outer Sealed ∷ wide 25165401 ∷ []) ≡ true
  -- an argument word more takes up 8
  pub arguments_count : is_too_deep 0x80001000 (inner Guarded) (frame_of (record (row_procedure Sealed 0x3100) { depth = 25165541; args = 2 }) 0x80000F0C 0 ∷ []) ≡ true
