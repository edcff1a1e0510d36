-- Worked system calls (Linux for the i386): r0 is the number, r3 the descriptor, r1 the address, r2 the count.
use Rattle.std.specs.Prelude.{◌≡◌, ℕ, List, [], ◌∷◌, Result, Ok, Err}
use Rattle.outside.specs.declared.answer.Answer.TheVariants.{Take, Fail}
use Rattle.x86_values.specs.declared.word.Word.{Word}
use Rattle.x86_values.specs.Words.{word_of}
use Rattle.traces.specs.Trace.{Label, Took, Made, Read, Write, End, Exited, OtherCall, Stopped}
use Rattle.traces.specs.Trace as trace
use Rattle.flag_ir.specs.declared.operation.Op.{Op}
use Rattle.flag_ir.specs.declared.operation.Op.TheVariants as op
use Rattle.flag_ir.specs.declared.procedure.FrameKind.TheVariants.{Sealed, Guarded, Shared}
use Rattle.flag_ir.specs.Storage.{Frame, Storage}
use Rattle.flag_ir.specs.Operations.{perform, shown_by_all}
use Rattle.flag_ir.specs.RowParts.{reg, of_word, unknown_0, unknown_1, row_storage, with_outside, two_frames, seen_after, regs_after, reg_after, bytes_after, image_after, bytes_of}

-- asked by words and numbers
abbrev pub asking : Word → Word → ℕ → ℕ → List Frame → Storage
asking number fd at count frames = row_storage (number ∷ word_of at ∷ word_of count ∷ fd ∷ []) frames

abbrev pub numbers_asking : ℕ → ℕ → ℕ → ℕ → Storage
numbers_asking number fd at count = asking (word_of number) (word_of fd) at count []

abbrev pub called_at : Op → Storage → Result Storage End
called_at o u = perform 0x4321 o u

-- r0 after it, and what it shows
abbrev pub answer_of : Op → Storage → Result Word End
answer_of o u = reg_after 0 (called_at o u)

abbrev pub shows : Op → Storage → List Label
shows o u = shown_by_all 0x4321 (o ∷ []) u

abbrev pub made : ℕ → List ℕ → ℕ → List Label
made fd bytes result = Took ∷ Made (Write fd bytes result) ∷ []

pub record SystemRows : Type 0 where
  pub write : answer_of op.System (numbers_asking 4 1 0x1000 3) ≡ Ok (word_of 3)
  pub write_shows : shows op.System (numbers_asking 4 1 0x1000 3) ≡ made 1 (0xA0 ∷ 0xA1 ∷ 0xA2 ∷ []) 3
  pub write_less : answer_of op.System (with_outside [] (Take 2 ∷ []) (numbers_asking 4 2 0x1000 3)) ≡ Ok (word_of 2)
  pub write_less_shows : shows op.System (with_outside [] (Take 2 ∷ []) (numbers_asking 4 2 0x1000 3)) ≡ made 2 (0xA0 ∷ 0xA1 ∷ []) 2
  pub write_fails : answer_of op.System (with_outside [] (Fail 11 ∷ []) (numbers_asking 4 1 0x1000 3)) ≡ Ok (word_of 0xFFFFFFF5)
  -- r0 alone changes
  pub write_registers : regs_after (called_at op.System (with_outside [] (Take 1 ∷ []) (numbers_asking 4 1 0x1000 3))) ≡ Ok (word_of 1 ∷ word_of 0x1000 ∷ word_of 3 ∷ word_of 1 ∷ word_of 0 ∷ word_of 0 ∷ word_of 0 ∷ word_of 0 ∷ [])
  pub write_unknown : answer_of op.System (numbers_asking 4 1 0x1007 2) ≡ Err trace.Unspecified
  pub write_unmapped : answer_of op.System (numbers_asking 4 1 0x100F 2) ≡ Ok (word_of 0xFFFFFFF2)
  pub no_descriptor : answer_of op.System (numbers_asking 4 5 0x1000 3) ≡ Ok (word_of 0xFFFFFFF7)
  pub no_descriptor_shows : shows op.System (numbers_asking 4 5 0x1000 3) ≡ Made (Write 5 [] 0xFFFFFFF7) ∷ []
  pub read : answer_of op.System (with_outside (7 ∷ 8 ∷ 9 ∷ []) [] (numbers_asking 3 0 0x1001 2)) ≡ Ok (word_of 2)
  pub read_stores : bytes_after 0x1000 4 (called_at op.System (with_outside (7 ∷ 8 ∷ 9 ∷ []) [] (numbers_asking 3 0 0x1001 2))) ≡ Ok (bytes_of (0xA0 ∷ 7 ∷ 8 ∷ 0xA3 ∷ []))
  pub read_leaves : seen_after (λ u. u.left) (called_at op.System (with_outside (7 ∷ 8 ∷ 9 ∷ []) (Take 2 ∷ Fail 4 ∷ []) (numbers_asking 3 0 0x1001 5))) ≡ Ok (record { input = 9 ∷ []; answers = Fail 4 ∷ [] })
  pub exit : answer_of op.System (numbers_asking 1 0x107 0 0) ≡ Err (Exited 7)
  pub exit_low_byte : answer_of op.System (asking (word_of 1) (unknown_1 7) 0 0 []) ≡ Err (Exited 7)
  pub exit_unknown : answer_of op.System (asking (word_of 1) (unknown_0 0) 0 0 []) ≡ Err trace.Unspecified
  pub exit_shows : shows op.System (numbers_asking 1 7 0 0) ≡ []
  pub other : answer_of op.System (numbers_asking 20 0 0 0) ≡ Err (OtherCall 20)
  pub number_unknown : answer_of op.System (asking (unknown_0 4) (word_of 1) 0x1000 3 []) ≡ Err trace.Unspecified
  -- what a list shows
  pub twice : shown_by_all 0 (op.System ∷ op.Set (reg 0) (of_word 4) ∷ op.System ∷ []) (with_outside [] (Take 1 ∷ Fail 4 ∷ []) (numbers_asking 4 1 0x1000 3)) ≡ Took ∷ Made (Write 1 (0xA0 ∷ []) 1) ∷ Took ∷ Made (Write 1 [] 0xFFFFFFFC) ∷ []

-- with two frames, or one
abbrev pub near : ℕ → ℕ → ℕ → ℕ → List Frame → Storage
near number fd at count frames = asking (word_of number) (word_of fd) at count frames

pub record NearSystemRows : Type 0 where
  pub in_frame : answer_of op.NearSystem (near 4 1 0x80000EF8 2 (two_frames Guarded Guarded)) ≡ Ok (word_of 2)
  pub in_frame_shows : shows op.NearSystem (near 4 1 0x80000EF8 2 (two_frames Guarded Guarded)) ≡ made 1 (0x78 ∷ 0x79 ∷ []) 2
  -- the frame ends at 0x80000F08
  pub half_outside : answer_of op.NearSystem (near 4 1 0x80000F07 2 (two_frames Guarded Guarded)) ≡ Err (Stopped 0x4321)
  pub in_chain : shows op.NearSystem (near 4 1 0x80000F07 2 (two_frames Shared Shared)) ≡ made 1 (0x87 ∷ 0x48 ∷ []) 2
  pub read_in_chain : image_after 0 0x80000F06 (called_at op.NearSystem (with_outside (1 ∷ 2 ∷ 3 ∷ []) [] (near 3 0 0x80000F06 3 (two_frames Shared Shared)))) ≡ Ok (bytes_of (1 ∷ 2 ∷ 0x88 ∷ 0x89 ∷ []))
  pub read_in_outer : image_after 1 0x80000F06 (called_at op.NearSystem (with_outside (1 ∷ 2 ∷ 3 ∷ []) [] (near 3 0 0x80000F06 3 (two_frames Shared Shared)))) ≡ Ok (bytes_of (0x46 ∷ 0x47 ∷ 3 ∷ 0x49 ∷ []))
  pub in_sealed : answer_of op.NearSystem (near 4 1 0x80000EF8 2 (two_frames Sealed Guarded)) ≡ Err (Stopped 0x4321)
  -- elsewhere it is a call over memory
  pub in_memory : shows op.NearSystem (near 4 1 0x1000 3 (two_frames Sealed Guarded)) ≡ made 1 (0xA0 ∷ 0xA1 ∷ 0xA2 ∷ []) 3
  pub read_in_memory : bytes_after 0x1000 4 (called_at op.NearSystem (with_outside (7 ∷ 8 ∷ []) [] (near 3 0 0x1001 2 (two_frames Sealed Guarded)))) ≡ Ok (bytes_of (0xA0 ∷ 7 ∷ 8 ∷ 0xA3 ∷ []))
  -- a buffer that isn't looked at isn't judged
  pub no_buffer : answer_of op.NearSystem (near 4 1 0x80000F07 0 (two_frames Guarded Guarded)) ≡ Ok (word_of 0)
  pub no_descriptor : answer_of op.NearSystem (near 4 0 0x80000F07 2 (two_frames Guarded Guarded)) ≡ Ok (word_of 0xFFFFFFF7)
  pub read_from_write : answer_of op.NearSystem (near 3 1 0x80000F07 2 (two_frames Guarded Guarded)) ≡ Ok (word_of 0xFFFFFFF7)
  pub second_descriptor : answer_of op.NearSystem (near 4 2 0x80000F07 2 (two_frames Guarded Guarded)) ≡ Err (Stopped 0x4321)
  pub exit : answer_of op.NearSystem (near 1 7 0x80000F07 2 (two_frames Guarded Guarded)) ≡ Err (Exited 7)
  pub no_frame : answer_of op.NearSystem (near 4 1 0x1000 3 []) ≡ Err trace.Outside
