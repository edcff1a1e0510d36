-- Worked accesses to frames. The inner frame has the addresses from 0x80000EF8 up to 0x80000F08, and the outer one those from 0x80000F04
-- up to 0x80000F14, which is the end of the outermost frame.
use Rattle.std.specs.Prelude.{◌≡◌, ℕ, ℤ, pos, negsuc, List, [], ◌∷◌, Result, Ok, Err}
use Rattle.x86_values.specs.declared.word.Word.{Word}
use Rattle.x86_values.specs.Words.{word_of}
use Rattle.traces.specs.Trace.{End, Stopped}
use Rattle.traces.specs.Trace as trace
use Rattle.flag_ir.specs.declared.operation.Op.TheVariants as op
use Rattle.flag_ir.specs.declared.procedure.FrameKind.TheVariants.{Sealed, Guarded, Shared}
use Rattle.flag_ir.specs.Storage.{Frame, Storage}
use Rattle.flag_ir.specs.Operations.{at_offset, perform}
use Rattle.flag_ir.specs.RowParts.{reg, of_reg, of_word, unknown_0, unknown_3, row_storage, inner, outer, two_frames, reg_after, bytes_after, image_after, bytes_of}

abbrev pub near_at : ℕ → ℕ → List Frame → Result Word End
near_at size at frames = reg_after 1 (perform 0x4321 (op.NearLoad (reg 1) size (of_word at)) (row_storage [] frames))

pub record NearLoadRows : Type 0 where
  pub first : near_at 4 0x80000EF8 (two_frames Guarded Guarded) ≡ Ok (word_of 0x7B7A7978)
  pub byte : near_at 1 0x80000F07 (two_frames Guarded Guarded) ≡ Ok (word_of 0x87)
  pub half : near_at 2 0x80000F06 (two_frames Guarded Guarded) ≡ Ok (word_of 0x8786)
  pub half_outside : near_at 2 0x80000F07 (two_frames Guarded Guarded) ≡ Err (Stopped 0x4321)
  pub below : near_at 1 0x80000EF7 (two_frames Guarded Guarded) ≡ Err (Stopped 0x4321)
  pub sealed : near_at 4 0x80000EF8 (two_frames Sealed Shared) ≡ Err (Stopped 0x4321)
  -- a chain goes on over Shared neighbours alone; the innermost frame that has a byte gives it
  pub chain : near_at 4 0x80000F06 (two_frames Shared Shared) ≡ Ok (word_of 0x49488786)
  pub chain_end : near_at 1 0x80000F08 (two_frames Shared Guarded) ≡ Err (Stopped 0x4321)
  pub no_chain : near_at 1 0x80000F08 (two_frames Guarded Shared) ≡ Err (Stopped 0x4321)
  pub chain_broken : near_at 1 0x80000F10 (record (inner Shared) { height = 0x80000E00 } ∷ inner Guarded ∷ outer Shared ∷ []) ≡ Err (Stopped 0x4321)
  -- the end of the outermost frame, and 8 MiB and a page below esp0
  pub last_judged : near_at 1 0x80000F13 (two_frames Guarded Guarded) ≡ Err (Stopped 0x4321)
  pub behind : near_at 4 0x80000F14 (two_frames Guarded Guarded) ≡ Ok (word_of 0x17161514)
  pub lowest_judged : near_at 1 0x7F800000 (two_frames Guarded Guarded) ≡ Err (Stopped 0x4321)
  pub lower : near_at 1 0x7F7FFFFF (two_frames Guarded Guarded) ≡ Err trace.MemoryFault
  pub of_data : near_at 2 0x1001 (two_frames Sealed Sealed) ≡ Ok (word_of 0xA2A1)
  pub unmapped : near_at 1 0x5000 (two_frames Guarded Guarded) ≡ Err trace.MemoryFault
  pub no_frame : near_at 4 0x1000 [] ≡ Err trace.Outside
  pub unknown : reg_after 1 (perform 0 (op.NearLoad (reg 1) 1 (of_reg 0)) (row_storage (unknown_0 0x80000EF8 ∷ []) (two_frames Guarded Guarded))) ≡ Err trace.Unspecified

abbrev pub near_put : ℕ → ℕ → List Frame → Result Storage End
near_put size at frames = perform 0x4321 (op.NearStore size (of_word at) (of_word 0x12345678)) (row_storage [] frames)

pub record NearStoreRows : Type 0 where
  pub in_frame : image_after 0 0x80000EF8 (near_put 2 0x80000EF9 (two_frames Guarded Guarded)) ≡ Ok (bytes_of (0x78 ∷ 0x78 ∷ 0x56 ∷ 0x7B ∷ []))
  pub no_memory : bytes_after 0x80000EF9 2 (near_put 2 0x80000EF9 (two_frames Guarded Guarded)) ≡ Ok (bytes_of (0xF9 ∷ 0xFA ∷ []))
  -- a byte of both frames goes to the inner one
  pub chain_inner : image_after 0 0x80000F05 (near_put 4 0x80000F06 (two_frames Shared Shared)) ≡ Ok (bytes_of (0x85 ∷ 0x78 ∷ 0x56 ∷ 0x88 ∷ []))
  pub chain_outer : image_after 1 0x80000F06 (near_put 4 0x80000F06 (two_frames Shared Shared)) ≡ Ok (bytes_of (0x46 ∷ 0x47 ∷ 0x34 ∷ 0x12 ∷ []))
  pub half_outside : image_after 0 0x80000F04 (near_put 4 0x80000F06 (two_frames Guarded Shared)) ≡ Err (Stopped 0x4321)
  pub sealed : image_after 0 0x80000EF8 (near_put 1 0x80000EF8 (two_frames Sealed Guarded)) ≡ Err (Stopped 0x4321)
  pub of_data : bytes_after 0x1000 4 (near_put 2 0x1001 (two_frames Sealed Sealed)) ≡ Ok (bytes_of (0xA0 ∷ 0x78 ∷ 0x56 ∷ 0xA3 ∷ []))
  pub data_beside : image_after 0 0x80000EF8 (near_put 2 0x1001 (two_frames Guarded Sealed)) ≡ Ok (bytes_of (0x78 ∷ 0x79 ∷ 0x7A ∷ 0x7B ∷ []))
  pub read_only : bytes_after 0x2000 1 (near_put 1 0x2000 (two_frames Guarded Guarded)) ≡ Err trace.MemoryFault
  pub no_frame : bytes_after 0x1000 1 (near_put 1 0x1000 []) ≡ Err trace.Outside
  pub unknown : image_after 0 0 (perform 0 (op.NearStore 1 (of_reg 0) (of_word 0)) (row_storage (unknown_3 0x80000EF8 ∷ []) (two_frames Guarded Guarded))) ≡ Err trace.Unspecified

abbrev pub got : ℕ → ℤ → List Frame → Result Word End
got size offset frames = reg_after 1 (perform 0 (op.Get (reg 1) size offset) (row_storage [] frames))

abbrev pub put_at : ℕ → ℤ → List Frame → Result Storage End
put_at size offset frames = perform 0 (op.Put size offset (of_word 0x12345678)) (row_storage [] frames)

-- offsets count from 0x80000F00 in the inner frame, from -8 up to 8; those of each kind of frame are reached
pub record FixedPlaceRows : Type 0 where
  pub get_first : got 4 (negsuc 7) (two_frames Guarded Guarded) ≡ Ok (word_of 0x7B7A7978)
  pub get_below : got 1 (negsuc 8) (two_frames Guarded Guarded) ≡ Err trace.Outside
  pub get_last_byte : got 1 (pos 7) (two_frames Sealed Guarded) ≡ Ok (word_of 0x87)
  pub get_argument : got 4 (pos 4) (two_frames Shared Shared) ≡ Ok (word_of 0x87868584)
  pub get_half : got 2 (negsuc 1) (two_frames Sealed Guarded) ≡ Ok (word_of 0x7F7E)
  pub get_half_outside : got 4 (pos 5) (two_frames Shared Shared) ≡ Err trace.Outside
  pub get_behind : got 1 (pos 8) (two_frames Guarded Guarded) ≡ Err trace.Outside
  pub get_no_frame : got 4 (negsuc 7) [] ≡ Err trace.Outside
  pub put_first : image_after 0 0x80000EF8 (put_at 2 (negsuc 7) (two_frames Sealed Guarded)) ≡ Ok (bytes_of (0x78 ∷ 0x56 ∷ 0x7A ∷ 0x7B ∷ []))
  pub put_byte : image_after 0 0x80000F04 (put_at 1 (pos 4) (two_frames Shared Shared)) ≡ Ok (bytes_of (0x78 ∷ 0x85 ∷ 0x86 ∷ 0x87 ∷ []))
  -- the outer frame has that address too, and keeps its byte
  pub put_inner_alone : image_after 1 0x80000F04 (put_at 4 (pos 4) (two_frames Shared Shared)) ≡ Ok (bytes_of (0x44 ∷ 0x45 ∷ 0x46 ∷ 0x47 ∷ []))
  pub put_word : image_after 0 0x80000F04 (put_at 4 (pos 4) (two_frames Shared Shared)) ≡ Ok (bytes_of (0x78 ∷ 0x56 ∷ 0x34 ∷ 0x12 ∷ []))
  pub put_half_outside : image_after 0 0x80000F04 (put_at 4 (pos 5) (two_frames Guarded Guarded)) ≡ Err trace.Outside
  pub put_below : image_after 0 0x80000F04 (put_at 1 (negsuc 8) (two_frames Guarded Guarded)) ≡ Err trace.Outside
  pub put_no_frame : image_after 0 0 (put_at 4 (pos 4) []) ≡ Err trace.Outside
  -- offsets wrap
  pub under : at_offset 4 (negsuc 7) ≡ 0xFFFFFFFC
  pub over : at_offset 0xFFFFFFFC (pos 8) ≡ 4
