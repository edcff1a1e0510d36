-- Worked operations that need no frame. r0 to r7 hold the numbers that are given.
use Rattle.std.specs.Prelude.{◌≡◌, ℕ, true, false, List, [], ◌∷◌, Bool, Result, Ok, Err}
use Rattle.x86_values.specs.declared.byte.Byte.TheVariants.{Known, Unspecified}
use Rattle.x86_values.specs.declared.word.Word.{Word}
use Rattle.x86_values.specs.Words.{word_of}
use Rattle.x86_values.specs.Sizes.{no_word}
use Rattle.traces.specs.Trace.{End}
use Rattle.traces.specs.Trace as trace
use Rattle.flag_ir.specs.declared.variable.Var.TheVariants as var
use Rattle.flag_ir.specs.declared.variable.Term.TheVariants as term
use Rattle.flag_ir.specs.declared.operation.Op.{Op}
use Rattle.flag_ir.specs.declared.operation.Op.TheVariants as op
use Rattle.flag_ir.specs.declared.operation.Calc.TheVariants as calc
use Rattle.flag_ir.specs.declared.procedure.FrameKind.TheVariants.{Sealed, Guarded}
use Rattle.flag_ir.specs.Storage.{Storage, term_in}
use Rattle.flag_ir.specs.Operations.{perform, performs}
use Rattle.flag_ir.specs.RowParts.{reg, of_reg, of_word, unknown_0, unknown_1, unknown_2, unknown_3, row_storage, with_numbers, two_frames, seen_after, regs_after, reg_after, bytes_after, bytes_of}

-- an operation in the turn at 0x4321
abbrev pub done : Op → Storage → Result Storage End
done o u = perform 0x4321 o u

-- the word of r1 with r0 so
abbrev pub from_r0 : Op → Word → Result Word End
from_r0 o w = reg_after 1 (done o (row_storage (w ∷ []) []))

-- ---- variables
abbrev pub flags_seen : Storage → List Word
flags_seen u = u.flags 0 ∷ u.flags 1 ∷ u.flags 4 ∷ []

abbrev pub temps_seen : Storage → List Word
temps_seen u = u.temps 0 ∷ u.temps 7 ∷ u.temps 8 ∷ []

-- the locals of two frames
abbrev pub local_seen : Op → ℕ → Result Word End
local_seen o n = seen_after (λ u. term_in (term.Var (var.Local n)) u) (done o (row_storage [] (two_frames Sealed Guarded)))

pub record VariableRows : Type 0 where
  pub register : regs_after (done (op.Set (reg 2) (of_reg 1)) (with_numbers (10 ∷ 11 ∷ 12 ∷ 13 ∷ 14 ∷ 15 ∷ 16 ∷ 17 ∷ []))) ≡ Ok (word_of 10 ∷ word_of 11 ∷ word_of 11 ∷ word_of 13 ∷ word_of 14 ∷ word_of 15 ∷ word_of 16 ∷ word_of 17 ∷ [])
  pub word : reg_after 7 (done (op.Set (reg 7) (of_word 0x12345678)) (with_numbers [])) ≡ Ok (word_of 0x12345678)
  pub unknown : from_r0 (op.Set (reg 1) (of_reg 0)) (unknown_2 5) ≡ Ok (unknown_2 5)
  pub flag : seen_after flags_seen (done (op.Set (var.Flag 1) (of_word 1)) (with_numbers [])) ≡ Ok (no_word ∷ word_of 1 ∷ no_word ∷ [])
  pub temp : seen_after temps_seen (done (op.Set (var.Temp 7) (of_word 3)) (with_numbers [])) ≡ Ok (no_word ∷ word_of 3 ∷ no_word ∷ [])
  pub from_temp : seen_after temps_seen (performs 0 (op.Set (var.Temp 7) (of_word 3) ∷ op.Set (var.Temp 8) (term.Var (var.Temp 7)) ∷ []) (with_numbers [])) ≡ Ok (no_word ∷ word_of 3 ∷ word_of 3 ∷ [])
  pub from_flag : reg_after 0 (performs 0 (op.Set (var.Flag 4) (of_word 1) ∷ op.Set (reg 0) (term.Var (var.Flag 4)) ∷ []) (with_numbers [])) ≡ Ok (word_of 1)
  -- locals of 1, 2 and 4 bytes
  pub local_byte : local_seen (op.Set (var.Local 0) (of_word 0x12345678)) 0 ≡ Ok (word_of 0x78)
  pub local_half : local_seen (op.Set (var.Local 1) (of_word 0x12345678)) 1 ≡ Ok (word_of 0x5678)
  pub local_word : local_seen (op.Set (var.Local 2) (of_word 0x12345678)) 2 ≡ Ok (word_of 0x12345678)
  pub other_local : local_seen (op.Set (var.Local 2) (of_word 0x12345678)) 1 ≡ Ok no_word
  -- a local that isn't there holds four bytes, and none is held where no frame is open
  pub local_past_the_last : local_seen (op.Set (var.Local 3) (of_word 0x12345678)) 3 ≡ Ok (word_of 0x12345678)
  pub no_frame : reg_after 0 (performs 0 (op.Set (var.Local 0) (of_word 3) ∷ op.Set (reg 0) (term.Var (var.Local 0)) ∷ []) (with_numbers [])) ≡ Ok no_word

pub record ChoiceRows : Type 0 where
  pub calc : reg_after 1 (done (op.Calc (reg 1) calc.Sub (of_reg 2) (of_reg 3)) (with_numbers (0 ∷ 0 ∷ 9 ∷ 4 ∷ []))) ≡ Ok (word_of 5)
  pub forget : reg_after 1 (done (op.Forget (reg 1)) (with_numbers (1 ∷ 2 ∷ []))) ≡ Ok no_word
  pub forgets_one : reg_after 0 (done (op.Forget (reg 1)) (with_numbers (1 ∷ 2 ∷ []))) ≡ Ok (word_of 1)
  pub forget_flag : seen_after flags_seen (performs 0 (op.Set (var.Flag 0) (of_word 1) ∷ op.Forget (var.Flag 0) ∷ []) (with_numbers [])) ≡ Ok (no_word ∷ no_word ∷ no_word ∷ [])
  pub pick_yes : from_r0 (op.Pick (reg 1) (of_reg 0) (of_word 3) (of_word 4)) (word_of 0x100) ≡ Ok (word_of 3)
  pub pick_no : from_r0 (op.Pick (reg 1) (of_reg 0) (of_word 3) (of_word 4)) (word_of 0) ≡ Ok (word_of 4)
  pub pick_unknown : from_r0 (op.Pick (reg 1) (of_reg 0) (of_word 3) (of_word 3)) (unknown_3 1) ≡ Ok no_word
  -- what isn't taken may be unspecified, and what is taken is copied
  pub pick_beside_unknown : from_r0 (op.Pick (reg 1) (of_word 0) (of_reg 0) (of_word 4)) (unknown_0 1) ≡ Ok (word_of 4)
  pub pick_beside_unknown_no : from_r0 (op.Pick (reg 1) (of_word 1) (of_word 3) (of_reg 0)) (unknown_0 1) ≡ Ok (word_of 3)
  pub pick_takes_unknown : from_r0 (op.Pick (reg 1) (of_word 1) (of_reg 0) (of_word 4)) (unknown_1 0x500) ≡ Ok (unknown_1 0x500)
  pub need : from_r0 (op.Need (of_reg 0)) (word_of 5) ≡ Ok (word_of 0)
  pub need_first_byte : from_r0 (op.Need (of_reg 0)) (unknown_0 5) ≡ Err trace.Unspecified
  pub need_last_byte : from_r0 (op.Need (of_reg 0)) (unknown_3 5) ≡ Err trace.Unspecified

-- quotient and remainder in r1 and r2; r5, r6 and r7 are the upper and lower half of the dividend and the divisor
abbrev pub halves_seen : Storage → List Word
halves_seen u = u.regs 1 ∷ u.regs 2 ∷ []

abbrev pub divides : Bool → ℕ → Word → Word → Word → Result (List Word) End
divides signed size high low by = seen_after halves_seen (done (op.Divide (reg 1) (reg 2) (of_reg 5) (of_reg 6) (of_reg 7) size signed) (row_storage (word_of 0 ∷ word_of 0 ∷ word_of 0 ∷ word_of 0 ∷ word_of 0 ∷ high ∷ low ∷ by ∷ []) []))

abbrev pub number_divides : Bool → ℕ → ℕ → ℕ → ℕ → Result (List Word) End
number_divides signed size high low by = divides signed size (word_of high) (word_of low) (word_of by)

abbrev pub gives : ℕ → ℕ → Result (List Word) End
gives quotient remainder = Ok (word_of quotient ∷ word_of remainder ∷ [])

pub record DivisionRows : Type 0 where
  -- 0x105 by 16, with bytes above the size that don't count
  pub byte : number_divides false 1 0xFFFFFF01 0xABCDEF05 0x11111110 ≡ gives 0x10 5
  pub byte_greatest : number_divides false 1 0x0F 0xFF 0x10 ≡ gives 0xFF 0xF
  pub byte_too_great : number_divides false 1 0x10 0 0x10 ≡ Err trace.DivideFault
  pub byte_signed : number_divides true 1 0xFF 0xF9 2 ≡ gives 0xFD 0xFF
  pub half : number_divides false 2 1 3 4 ≡ gives 0x4000 3
  pub half_too_great : number_divides false 2 4 0 4 ≡ Err trace.DivideFault
  pub half_signed : number_divides true 2 0 7 0xFFFE ≡ gives 0xFFFD 1
  pub whole : number_divides false 4 1 5 2 ≡ gives 0x80000002 1
  pub whole_too_great : number_divides false 4 2 0 2 ≡ Err trace.DivideFault
  -- -7 by 2, truncated towards 0
  pub whole_signed : number_divides true 4 0xFFFFFFFF 0xFFFFFFF9 2 ≡ gives 0xFFFFFFFD 0xFFFFFFFF
  pub least_quotient : number_divides true 4 0xFFFFFFFF 0x80000000 1 ≡ gives 0x80000000 0
  pub signed_too_great : number_divides true 4 0 0x80000000 1 ≡ Err trace.DivideFault
  pub by_none : number_divides false 4 0 5 0 ≡ Err trace.DivideFault
  pub by_none_in_the_size : number_divides false 1 0 5 0x100 ≡ Err trace.DivideFault
  -- looked at before the divisor is
  pub unknown : divides false 4 (unknown_0 0) (word_of 5) (word_of 0) ≡ Err trace.Unspecified
  pub unknown_above_the_size : divides false 1 (unknown_1 0) (word_of 5) (word_of 2) ≡ gives 2 1
  pub unknown_divisor : divides true 2 (word_of 0) (word_of 5) (unknown_1 2) ≡ Err trace.Unspecified
  -- the remainder is put last
  pub into_one : reg_after 1 (done (op.Divide (reg 1) (reg 1) (of_word 0) (of_word 7) (of_word 4) 4 false) (with_numbers [])) ≡ Ok (word_of 3)

pub record LoadAndStoreRows : Type 0 where
  pub load_byte : from_r0 (op.Load (reg 1) 1 (of_reg 0)) (word_of 0x1001) ≡ Ok (word_of 0xA1)
  pub load_half : from_r0 (op.Load (reg 1) 2 (of_reg 0)) (word_of 0x1001) ≡ Ok (word_of 0xA2A1)
  pub load_word : from_r0 (op.Load (reg 1) 4 (of_reg 0)) (word_of 0x1001) ≡ Ok (word_of 0xA4A3A2A1)
  pub load_unknown_byte : from_r0 (op.Load (reg 1) 2 (of_reg 0)) (word_of 0x1007) ≡ Ok (unknown_1 0xA7)
  -- addresses wrap
  pub load_over_the_edge : from_r0 (op.Load (reg 1) 2 (of_reg 0)) (word_of 0xFFFFFFFF) ≡ Ok (word_of 0x2211)
  pub load_read_only : from_r0 (op.Load (reg 1) 4 (of_reg 0)) (word_of 0x2000) ≡ Ok (word_of 0xC3C2C1C0)
  pub load_unmapped : from_r0 (op.Load (reg 1) 1 (of_reg 0)) (word_of 0x1010) ≡ Err trace.MemoryFault
  pub load_last_unmapped : from_r0 (op.Load (reg 1) 4 (of_reg 0)) (word_of 0x100D) ≡ Err trace.MemoryFault
  pub load_unknown_address : from_r0 (op.Load (reg 1) 1 (of_reg 0)) (unknown_3 0x1000) ≡ Err trace.Unspecified
  pub store_byte : bytes_after 0x1000 6 (done (op.Store 1 (of_word 0x1001) (of_word 0x12345678)) (with_numbers [])) ≡ Ok (bytes_of (0xA0 ∷ 0x78 ∷ 0xA2 ∷ 0xA3 ∷ 0xA4 ∷ 0xA5 ∷ []))
  pub store_half : bytes_after 0x1000 6 (done (op.Store 2 (of_word 0x1001) (of_word 0x12345678)) (with_numbers [])) ≡ Ok (bytes_of (0xA0 ∷ 0x78 ∷ 0x56 ∷ 0xA3 ∷ 0xA4 ∷ 0xA5 ∷ []))
  pub store_word : bytes_after 0x1000 6 (done (op.Store 4 (of_word 0x1001) (of_word 0x12345678)) (with_numbers [])) ≡ Ok (bytes_of (0xA0 ∷ 0x78 ∷ 0x56 ∷ 0x34 ∷ 0x12 ∷ 0xA5 ∷ []))
  pub store_unknown : bytes_after 0x1000 2 (done (op.Store 2 (of_word 0x1000) (of_reg 0)) (row_storage (unknown_0 0x5600 ∷ []) [])) ≡ Ok (Unspecified ∷ Known 0x56 ∷ [])
  pub store_over_the_edge : bytes_after 0xFFFFFFFF 2 (done (op.Store 2 (of_word 0xFFFFFFFF) (of_word 0x4433)) (with_numbers [])) ≡ Ok (bytes_of (0x33 ∷ 0x44 ∷ []))
  pub store_read_only : bytes_after 0x2000 1 (done (op.Store 1 (of_word 0x2000) (of_word 0)) (with_numbers [])) ≡ Err trace.MemoryFault
  pub store_last_unmapped : bytes_after 0x1000 1 (done (op.Store 4 (of_word 0x100D) (of_word 0)) (with_numbers [])) ≡ Err trace.MemoryFault
  pub store_unknown_address : bytes_after 0x1000 1 (done (op.Store 1 (of_reg 0) (of_word 0)) (row_storage (unknown_0 0x1000 ∷ []) [])) ≡ Err trace.Unspecified
  -- in a list the second looks at what the first did
  pub in_order : reg_after 1 (performs 0 (op.Store 4 (of_word 0x1000) (of_word 0x12345678) ∷ op.Load (reg 1) 2 (of_word 0x1001) ∷ []) (with_numbers [])) ≡ Ok (word_of 0x3456)
  pub first_end : reg_after 1 (performs 0 (op.Load (reg 1) 4 (of_word 0x5000) ∷ op.Need (of_reg 0) ∷ []) (row_storage (no_word ∷ []) [])) ≡ Err trace.MemoryFault
