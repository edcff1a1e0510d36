-- Worked returns. The inner frame's height is 0x80000F00; its return word is 0x83828180, and ebp was 7 when it was opened.
use Rattle.std.specs.Prelude.{◌≡◌, ℕ, List, [], ◌∷◌, Some, None, Result, Ok, Err}
use Rattle.x86_values.specs.declared.byte.Byte.{Byte}
use Rattle.x86_values.specs.declared.byte.Byte.TheVariants.{Known, Unspecified}
use Rattle.x86_values.specs.declared.word.Word.{Word}
use Rattle.x86_values.specs.Words.{word_of}
use Rattle.x86_values.specs.Sizes.{no_word}
use Rattle.traces.specs.Trace.{End, Stopped}
use Rattle.traces.specs.Trace as trace
use Rattle.flag_ir.specs.declared.block.Exit.TheVariants as exit
use Rattle.flag_ir.specs.declared.procedure.FrameKind.{FrameKind}
use Rattle.flag_ir.specs.declared.procedure.FrameKind.TheVariants.{Sealed, Guarded, Shared}
use Rattle.flag_ir.specs.Storage.{Frame}
use Rattle.flag_ir.specs.Entering.{Onward, leave}
use Rattle.flag_ir.specs.RowParts.{unknown_0, unknown_2, unknown_3, row_storage, row_procedure, frame_of, inner, outer, regs_after, reg_after, bytes_after, image_after, index_after, storage_after, bytes_of}
use Rattle.flag_ir.specs.EnteringRows.{row_unit, opens, first_locals, unknown_bytes}

-- r4 and r5
abbrev pub returning : Word → Word → List Frame → Onward
returning esp ebp frames = leave row_unit 0x4321 exit.Return (row_storage (word_of 10 ∷ word_of 11 ∷ word_of 12 ∷ word_of 13 ∷ esp ∷ ebp ∷ word_of 16 ∷ word_of 17 ∷ []) frames)

abbrev pub returning_at : ℕ → List Frame → Onward
returning_at ebp frames = returning (word_of 0x80000F00) (word_of ebp) frames

-- the inner frame with these words kept, called before the block 2
abbrev pub keeping : FrameKind → Word → Word → Frame
keeping kind word ebp = record (inner kind) { word = word; ebp = ebp; back = Some 2 }

abbrev pub kept : FrameKind → Frame
kept kind = keeping kind (word_of 0x83828180) (word_of 7)

-- in a frame of the caller, with ebp as it is now
abbrev pub returns_with : ℕ → Frame → Result ℕ End
returns_with ebp f = index_after (returning_at ebp (f ∷ outer Guarded ∷ []))

pub record CheckRows : Type 0 where
  pub guarded : returns_with 7 (kept Guarded) ≡ Ok 2
  pub guarded_word : returns_with 7 (keeping Guarded (word_of 0x83828181) (word_of 7)) ≡ Err (Stopped 0x4321)
  pub guarded_ebp : returns_with 8 (kept Guarded) ≡ Err (Stopped 0x4321)
  pub shared : returns_with 7 (kept Shared) ≡ Ok 2
  pub shared_word : returns_with 7 (keeping Shared (word_of 0x03828180) (word_of 7)) ≡ Err (Stopped 0x4321)
  pub shared_ebp : returns_with 0 (kept Shared) ≡ Err (Stopped 0x4321)
  -- a byte of each of the four words that are compared
  pub kept_word_unknown : returns_with 7 (keeping Guarded (unknown_3 0x83828180) (word_of 7)) ≡ Err trace.Unspecified
  pub kept_ebp_unknown : returns_with 7 (keeping Guarded (word_of 0x83828180) (unknown_2 7)) ≡ Err trace.Unspecified
  pub word_unknown : returns_with 7 (record (kept Shared) { image = λ a. Unspecified }) ≡ Err trace.Unspecified
  pub ebp_unknown : index_after (returning (word_of 0x80000F00) (unknown_0 7) (kept Guarded ∷ outer Guarded ∷ [])) ≡ Err trace.Unspecified
  -- also where another differs
  pub differs_beside_unknown : returns_with 7 (keeping Guarded (word_of 0) (unknown_3 7)) ≡ Err trace.Unspecified
  -- in a Sealed one nothing is compared
  pub sealed : returns_with 8 (keeping Sealed (word_of 0) (unknown_3 7)) ≡ Ok 2
  pub no_frame : index_after (returning_at 7 []) ≡ Err trace.Outside
  -- its caller's part has no such block
  pub nowhere : returns_with 7 (record (kept Guarded) { back = Some 9 }) ≡ Err trace.Outside

-- a frame that a jump opened, with this return word
abbrev pub jumped : Word → Frame
jumped word = record (inner Sealed) { word = word }

pub record BackRows : Type 0 where
  pub to_block : index_after (returning_at 7 (jumped (word_of 0x1234) ∷ [])) ≡ Ok 1
  pub to_no_block : index_after (returning_at 7 (jumped (word_of 0x5555) ∷ [])) ≡ Err (Stopped 0x5555)
  pub to_zero : index_after (returning_at 7 (jumped (word_of 0) ∷ [])) ≡ Err (Stopped 0)
  pub to_unknown : index_after (returning_at 7 (jumped (unknown_0 0x1234) ∷ [])) ≡ Err trace.Unspecified
  pub while_open : index_after (returning_at 7 (jumped (word_of 0x1234) ∷ outer Guarded ∷ [])) ≡ Err (Stopped 0x1234)
  -- a procedure is entered with esp raised, so that its return word is the argument word of the closed frame, in memory
  pub to_procedure : opens 0x80000EFC (returning_at 7 (jumped (word_of 0x3000) ∷ [])) ≡ Ok (Some (record { kind = Guarded; height = 0x80000F04; word = word_of 0x87868584; ebp = word_of 7; back = None; below = unknown_bytes; above = bytes_of (0x84 ∷ 0x85 ∷ 0x86 ∷ 0x87 ∷ 8 ∷ 9 ∷ 10 ∷ 11 ∷ []); locals = first_locals }))

-- a frame that overlaps its caller's more, from 0x80000EFC up to 0x80000F0C; its return word too stands in the caller's frame
abbrev pub higher : FrameKind → Frame
higher kind = record (frame_of (row_procedure kind 0x3000) 0x80000F04 0x80) { word = word_of 0x87868584; back = Some 2 }

-- another frame below the outer one, at the same place
abbrev pub outermost : FrameKind → Frame
outermost kind = frame_of (row_procedure kind 0x3200) 0x80000F0C 0x20

abbrev pub image_returning : ℕ → ℕ → List Frame → Result (List Byte) End
image_returning k at frames = image_after k at (storage_after (returning_at 0 frames))

pub record ClosingRows : Type 0 where
  -- esp rises by 4, wherever it was; the other registers stay
  pub registers : regs_after (storage_after (returning_at 7 (kept Guarded ∷ outer Guarded ∷ []))) ≡ Ok (word_of 10 ∷ word_of 11 ∷ word_of 12 ∷ word_of 13 ∷ word_of 0x80000F04 ∷ word_of 7 ∷ word_of 16 ∷ word_of 17 ∷ [])
  pub esp_wraps : reg_after 4 (storage_after (returning (word_of 0xFFFFFFFE) (word_of 7) (kept Guarded ∷ outer Guarded ∷ []))) ≡ Ok (word_of 2)
  pub esp_unknown : reg_after 4 (storage_after (returning (unknown_3 0) (word_of 7) (kept Guarded ∷ outer Guarded ∷ []))) ≡ Ok no_word
  -- the argument word goes to the caller's frame, and only there
  pub to_caller : image_after 0 0x80000F04 (storage_after (returning_at 7 (kept Guarded ∷ outer Guarded ∷ []))) ≡ Ok (bytes_of (0x84 ∷ 0x85 ∷ 0x86 ∷ 0x87 ∷ []))
  pub beside_it : image_after 0 0x80000F08 (storage_after (returning_at 7 (kept Guarded ∷ outer Guarded ∷ []))) ≡ Ok (bytes_of (0x48 ∷ 0x49 ∷ 0x4A ∷ 0x4B ∷ []))
  pub not_to_memory : bytes_after 0x80000F04 4 (storage_after (returning_at 7 (kept Guarded ∷ outer Guarded ∷ []))) ≡ Ok (bytes_of (4 ∷ 5 ∷ 6 ∷ 7 ∷ []))
  -- or to memory, the return word not
  pub to_memory : bytes_after 0x80000F02 8 (storage_after (returning_at 7 (jumped (word_of 0x1234) ∷ []))) ≡ Ok (bytes_of (2 ∷ 3 ∷ 0x84 ∷ 0x85 ∷ 0x86 ∷ 0x87 ∷ 8 ∷ 9 ∷ []))
  -- or two bytes here and two there
  pub half_to_caller : image_after 0 0x80000F04 (storage_after (returning_at 7 (record (frame_of (row_procedure Sealed 0x3000) 0x80000EFE 0x80) { back = Some 2 } ∷ outer Sealed ∷ []))) ≡ Ok (bytes_of (0x84 ∷ 0x85 ∷ 0x46 ∷ 0x47 ∷ []))
  pub half_to_memory : bytes_after 0x80000F01 4 (storage_after (returning_at 7 (record (frame_of (row_procedure Sealed 0x3000) 0x80000EFE 0x80) { back = Some 2 } ∷ outer Sealed ∷ []))) ≡ Ok (bytes_of (1 ∷ 0x82 ∷ 0x83 ∷ 4 ∷ []))
  -- what a Shared frame covered in its chain is unspecified, its argument word aside, which the caller's frame gets alone
  pub shared_word : image_returning 0 0x80000F04 (higher Shared ∷ outer Shared ∷ outermost Shared ∷ []) ≡ Ok (Unspecified ∷ Unspecified ∷ Unspecified ∷ Unspecified ∷ [])
  pub shared_argument : image_returning 0 0x80000F08 (higher Shared ∷ outer Shared ∷ outermost Shared ∷ []) ≡ Ok (bytes_of (0x88 ∷ 0x89 ∷ 0x8A ∷ 0x8B ∷ []))
  pub shared_rest : image_returning 0 0x80000F0C (higher Shared ∷ outer Shared ∷ outermost Shared ∷ []) ≡ Ok (bytes_of (0x4C ∷ 0x4D ∷ 0x4E ∷ 0x4F ∷ []))
  pub chain_word : image_returning 1 0x80000F06 (higher Shared ∷ outer Shared ∷ outermost Shared ∷ []) ≡ Ok (Unspecified ∷ Unspecified ∷ Known 0x28 ∷ Known 0x29 ∷ [])
  pub chain_ends : image_returning 1 0x80000F04 (higher Shared ∷ outer Guarded ∷ outermost Shared ∷ []) ≡ Ok (bytes_of (0x24 ∷ 0x25 ∷ 0x26 ∷ 0x27 ∷ []))
  pub not_shared_caller : image_returning 0 0x80000F06 (higher Shared ∷ outer Guarded ∷ []) ≡ Ok (bytes_of (0x46 ∷ 0x47 ∷ 0x88 ∷ 0x89 ∷ []))
  pub guarded : image_returning 0 0x80000F06 (higher Guarded ∷ outer Shared ∷ []) ≡ Ok (bytes_of (0x46 ∷ 0x47 ∷ 0x88 ∷ 0x89 ∷ []))
  pub sealed : image_returning 0 0x80000F06 (higher Sealed ∷ outer Shared ∷ []) ≡ Ok (bytes_of (0x46 ∷ 0x47 ∷ 0x88 ∷ 0x89 ∷ []))
