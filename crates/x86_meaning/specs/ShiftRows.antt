-- Worked steps of SHL, SHR and SAR (Intel SDM volume 2, "SAL/SAR/SHL/SHR").
use Rattle.std.specs.Prelude.{◌≡◌, true, false, [], ◌∷◌, Some, None}
use Rattle.x86_values.specs.declared.byte.Byte.TheVariants as byte
use Rattle.x86_values.specs.Words.{word_of}
use Rattle.x86_values.specs.Results.{no_flags}
use Rattle.traces.specs.Trace.{MemoryFault, Unspecified}
use Rattle.x86_types.specs.declared.instr.Instr.TheVariants.{Shift}
use Rattle.x86_types.specs.declared.operation.ShiftOp.TheVariants.{Shl, Shr, Sar}
use Rattle.x86_types.specs.declared.operation.Count.TheVariants as count
use Rattle.x86_types.specs.declared.operand.Rm.TheVariants as rm
use Rattle.x86_types.specs.declared.operand.Reg.TheVariants.{Eax, Ebx, Esp}
use Rattle.x86_types.specs.declared.width.Width.TheVariants.{One, Two, Four}
use Rattle.x86_meaning.specs.StepRows.{five_flags, known_flags, all_set, all_cleared, bytes_of, unknown, unknown_below, registers, Now, Ended, see}
use Rattle.x86_meaning.specs.RowWords.{memory_at, memory_from, words, unknown_second, unknown_half, unknown_highest}

pub record ShlRows : Type 0 where
  -- AL: 10000001 is 00000010, and its sign changes; what stands above is kept
  pub by_one : see (Shift Shl One (rm.Reg Eax) (count.Imm 1)) (registers 0x11223381 0 0 0 0 0 0) all_set 0 0 ≡ Now (registers 0x11223302 0 0 0 0 0 0) (known_flags true false false false true) 0x3002 []
  -- 11000000 is 10000000
  pub by_one_keeps_sign : see (Shift Shl One (rm.Reg Eax) (count.Imm 1)) (registers 0x112233C0 0 0 0 0 0 0) all_set 0 0 ≡ Now (registers 0x11223380 0 0 0 0 0 0) (known_flags true false false true false) 0x3002 []
  -- AX: 0x4001 is 0x8002, without a carry
  pub by_one_to_sign : see (Shift Shl Two (rm.Reg Eax) (count.Imm 1)) (registers 0x11224001 0 0 0 0 0 0) all_cleared 0 0 ≡ Now (registers 0x11228002 0 0 0 0 0 0) (known_flags false false false true true) 0x3002 []
  -- 0x80000000 is 0
  pub to_zero : see (Shift Shl Four (rm.Reg Eax) (count.Imm 1)) (registers 0x80000000 0 0 0 0 0 0) all_cleared 0 0 ≡ Now (registers 0 0 0 0 0 0 0) (known_flags true true true false true) 0x3002 []
  -- EAX by CL: 40 is 8, bit 24 leaves last, and OF is unspecified
  pub by_register : see (Shift Shl Four (rm.Reg Eax) count.Cl) (registers 0x13345678 0xFFFFFF28 0 0 0 0 0) all_cleared 0 0 ≡ Now (registers 0x34567800 0xFFFFFF28 0 0 0 0 0) (five_flags (Some true) (Some true) (Some false) (Some false) None) 0x3002 []
  -- bit 1 leaves last
  pub by_thirty_one : see (Shift Shl Four (rm.Reg Eax) (count.Imm 31)) (registers 0xFFFFFFFD 0 0 0 0 0 0) all_set 0 0 ≡ Now (registers 0x80000000 0 0 0 0 0 0) (five_flags (Some false) (Some true) (Some false) (Some true) None) 0x3002 []
  -- AL by 7: bit 1 leaves last; by 8 CF is unspecified; by 9 nothing comes back
  pub below_width : see (Shift Shl One (rm.Reg Eax) (count.Imm 7)) (registers 0x11223303 0 0 0 0 0 0) all_cleared 0 0 ≡ Now (registers 0x11223380 0 0 0 0 0 0) (five_flags (Some true) (Some false) (Some false) (Some true) None) 0x3002 []
  pub by_width : see (Shift Shl One (rm.Reg Eax) (count.Imm 8)) (registers 0x11223301 0 0 0 0 0 0) all_cleared 0 0 ≡ Now (registers 0x11223300 0 0 0 0 0 0) (five_flags None (Some true) (Some true) (Some false) None) 0x3002 []
  pub above_width : see (Shift Shl One (rm.Reg Eax) (count.Imm 9)) (registers 0x112233FF 0 0 0 0 0 0) all_set 0 0 ≡ Now (registers 0x11223300 0 0 0 0 0 0) (five_flags None (Some true) (Some true) (Some false) None) 0x3002 []
  -- 0 and 32 keep what is unspecified, and all flags
  pub by_zero : see (Shift Shl Two (rm.Reg Eax) (count.Imm 0)) (words (unknown_below 0x11223344) (word_of 0) (word_of 0) (word_of 0)) all_set 0 0 ≡ Now (words (unknown_below 0x11223344) (word_of 0) (word_of 0) (word_of 0)) all_set 0x3002 []
  pub by_thirty_two : see (Shift Shl Four (rm.Reg Eax) count.Cl) (registers 5 0x20 0 0 0 0 0) all_set 0 0 ≡ Now (registers 5 0x20 0 0 0 0 0) all_set 0x3002 []
  -- one byte of AX isn't known
  pub unspecified : see (Shift Shl Two (rm.Reg Eax) (count.Imm 1)) (words (unknown_below 0x11223344) (word_of 0) (word_of 0) (word_of 0)) all_set 0 0 ≡ Now (words (unknown_half 0x11223344) (word_of 0) (word_of 0) (word_of 0)) no_flags 0x3002 []
  -- AH beside AL
  pub above_unspecified : see (Shift Shl One (rm.Reg Eax) (count.Imm 1)) (words (unknown_second 0x11220003) (word_of 0) (word_of 0) (word_of 0)) all_set 0 0 ≡ Now (words (unknown_second 0x11220006) (word_of 0) (word_of 0) (word_of 0)) (known_flags false true false false false) 0x3002 []
  pub count_unspecified : see (Shift Shl One (rm.Reg Eax) count.Cl) (words (word_of 0x11223344) (unknown_below 1) (word_of 0) (word_of 0)) all_set 0 0 ≡ Now (words (unknown_below 0x11223344) (unknown_below 1) (word_of 0) (word_of 0)) no_flags 0x3002 []
  -- 0xA3A2A1A0 is 0x3A2A1A00, and bit 28 leaves last; the byte behind it is kept
  pub in_memory : see (Shift Shl Four (memory_at 0x1000) (count.Imm 4)) (registers 0 0 0 0 0 0 0) all_set 0x1000 5 ≡ Now (registers 0 0 0 0 0 0 0) (five_flags (Some false) (Some true) (Some false) (Some false) None) 0x3002 (bytes_of (0x00 ∷ 0x1A ∷ 0x2A ∷ 0x3A ∷ 0xA4 ∷ []))
  -- [ESP]: 0x50 is 0xA0; the byte below is unspecified after the step too
  pub on_stack : see (Shift Shl One (memory_from Esp 0) (count.Imm 1)) (registers 0 0 0 0 0 0 0) all_set 0x7FFF 3 ≡ Now (registers 0 0 0 0 0 0 0) (known_flags false true false true true) 0x3002 (byte.Unspecified ∷ byte.Known 0xA0 ∷ byte.Known 0x51 ∷ [])
  pub store_faults : see (Shift Shl Two (memory_at 0x2000) (count.Imm 1)) (registers 0 0 0 0 0 0 0) all_set 0 0 ≡ Ended MemoryFault
  -- a target that can't be written faults, whatever the count is
  pub store_faults_by_zero : see (Shift Shl One (memory_at 0x2000) (count.Imm 0)) (registers 0 0 0 0 0 0 0) all_set 0 0 ≡ Ended MemoryFault
  pub load_faults : see (Shift Shl Two (memory_at 0x100F) (count.Imm 1)) (registers 0 0 0 0 0 0 0) all_set 0 0 ≡ Ended MemoryFault
  pub nowhere : see (Shift Shl Two (memory_from Ebx 0) (count.Imm 1)) (words (word_of 0) (word_of 0) (word_of 0) unknown) all_set 0 0 ≡ Ended Unspecified

pub record ShrRows : Type 0 where
  -- AL: 10000001 is 01000000, and it was negative; what stands above AL isn't shifted into it
  pub by_one : see (Shift Shr One (rm.Reg Eax) (count.Imm 1)) (registers 0x11223381 0 0 0 0 0 0) all_cleared 0 0 ≡ Now (registers 0x11223340 0 0 0 0 0 0) (known_flags true false false false true) 0x3002 []
  -- AX: 0x0102 is 0x0081
  pub by_one_positive : see (Shift Shr Two (rm.Reg Eax) (count.Imm 1)) (registers 0x11220102 0 0 0 0 0 0) all_set 0 0 ≡ Now (registers 0x11220081 0 0 0 0 0 0) (known_flags false true false false false) 0x3002 []
  -- 1 is 0
  pub to_zero : see (Shift Shr Four (rm.Reg Eax) (count.Imm 1)) (registers 1 0 0 0 0 0 0) all_cleared 0 0 ≡ Now (registers 0 0 0 0 0 0 0) (known_flags true true true false false) 0x3002 []
  -- EAX by CL: 100 is 4, and bit 3 leaves last
  pub by_register : see (Shift Shr Four (rm.Reg Eax) count.Cl) (registers 0x87654328 0xFFFFFF64 0 0 0 0 0) all_set 0 0 ≡ Now (registers 0x08765432 0xFFFFFF64 0 0 0 0 0) (five_flags (Some true) (Some false) (Some false) (Some false) None) 0x3002 []
  -- bit 30 leaves last
  pub by_thirty_one : see (Shift Shr Four (rm.Reg Eax) (count.Imm 31)) (registers 0xBFFFFFFF 0 0 0 0 0 0) all_set 0 0 ≡ Now (registers 1 0 0 0 0 0 0) (five_flags (Some false) (Some false) (Some false) (Some false) None) 0x3002 []
  -- AX by 15 and by 16, and AL by 20
  pub below_width : see (Shift Shr Two (rm.Reg Eax) (count.Imm 15)) (registers 0x1122C000 0 0 0 0 0 0) all_cleared 0 0 ≡ Now (registers 0x11220001 0 0 0 0 0 0) (five_flags (Some true) (Some false) (Some false) (Some false) None) 0x3002 []
  pub by_width : see (Shift Shr Two (rm.Reg Eax) (count.Imm 16)) (registers 0x11228000 0 0 0 0 0 0) all_set 0 0 ≡ Now (registers 0x11220000 0 0 0 0 0 0) (five_flags None (Some true) (Some true) (Some false) None) 0x3002 []
  pub above_width : see (Shift Shr One (rm.Reg Eax) (count.Imm 20)) (registers 0x112233FF 0 0 0 0 0 0) all_set 0 0 ≡ Now (registers 0x11223300 0 0 0 0 0 0) (five_flags None (Some true) (Some true) (Some false) None) 0x3002 []
  pub by_zero : see (Shift Shr Four (rm.Reg Eax) count.Cl) (words unknown (word_of 0xE0) (word_of 0) (word_of 0)) all_set 0 0 ≡ Now (words unknown (word_of 0xE0) (word_of 0) (word_of 0)) all_set 0x3002 []
  pub unspecified : see (Shift Shr Four (rm.Reg Eax) (count.Imm 31)) (words (unknown_below 0x11223344) (word_of 0) (word_of 0) (word_of 0)) all_set 0 0 ≡ Now (words unknown (word_of 0) (word_of 0) (word_of 0)) no_flags 0x3002 []
  pub above_unspecified : see (Shift Shr Two (rm.Reg Eax) (count.Imm 1)) (words (unknown_highest 0x220002) (word_of 0) (word_of 0) (word_of 0)) all_set 0 0 ≡ Now (words (unknown_highest 0x220001) (word_of 0) (word_of 0) (word_of 0)) (known_flags false false false false false) 0x3002 []
  pub count_unspecified : see (Shift Shr Two (rm.Reg Eax) count.Cl) (words (word_of 0x11220000) (unknown_below 1) (word_of 0) (word_of 0)) all_set 0 0 ≡ Now (words (unknown_half 0x11220000) (unknown_below 1) (word_of 0) (word_of 0)) no_flags 0x3002 []
  -- 0xA1A0 is 0x50D0
  pub in_memory : see (Shift Shr Two (memory_at 0x1000) (count.Imm 1)) (registers 0 0 0 0 0 0 0) all_set 0x1000 3 ≡ Now (registers 0 0 0 0 0 0 0) (known_flags false false false false true) 0x3002 (bytes_of (0xD0 ∷ 0x50 ∷ 0xA2 ∷ []))
  -- the last byte that is mapped: 0xAF is 0x57
  pub last_byte : see (Shift Shr One (memory_at 0x100F) (count.Imm 1)) (registers 0 0 0 0 0 0 0) all_cleared 0x100E 2 ≡ Now (registers 0 0 0 0 0 0 0) (known_flags true false false false true) 0x3002 (bytes_of (0xAE ∷ 0x57 ∷ []))
  pub store_faults : see (Shift Shr Four (memory_at 0x2000) (count.Imm 1)) (registers 0 0 0 0 0 0 0) all_set 0 0 ≡ Ended MemoryFault
  -- whatever the count is
  pub load_faults : see (Shift Shr Four (memory_at 0x5000) count.Cl) (words (word_of 0) unknown (word_of 0) (word_of 0)) all_set 0 0 ≡ Ended MemoryFault
  pub nowhere : see (Shift Shr Four (memory_from Ebx 0) (count.Imm 1)) (words (word_of 0) (word_of 0) (word_of 0) (unknown_second 0x5000)) all_set 0 0 ≡ Ended Unspecified

pub record SarRows : Type 0 where
  -- AL: 10000001 is 11000000
  pub by_one : see (Shift Sar One (rm.Reg Eax) (count.Imm 1)) (registers 0x11223381 0 0 0 0 0 0) all_cleared 0 0 ≡ Now (registers 0x112233C0 0 0 0 0 0 0) (known_flags true true false true false) 0x3002 []
  -- AX: 0x7FFE is 0x3FFF
  pub by_one_positive : see (Shift Sar Two (rm.Reg Eax) (count.Imm 1)) (registers 0x11227FFE 0 0 0 0 0 0) all_set 0 0 ≡ Now (registers 0x11223FFF 0 0 0 0 0 0) (known_flags false true false false false) 0x3002 []
  -- EAX by CL: 36 is 4, and bit 3 leaves last
  pub by_register : see (Shift Sar Four (rm.Reg Eax) count.Cl) (registers 0x80000018 0xFFFFFF24 0 0 0 0 0) all_set 0 0 ≡ Now (registers 0xF8000001 0xFFFFFF24 0 0 0 0 0) (five_flags (Some true) (Some false) (Some false) (Some true) None) 0x3002 []
  -- bit 30 leaves last
  pub by_thirty_one : see (Shift Sar Four (rm.Reg Eax) (count.Imm 31)) (registers 0x80000000 0 0 0 0 0 0) all_set 0 0 ≡ Now (registers 0xFFFFFFFF 0 0 0 0 0 0) (five_flags (Some false) (Some true) (Some false) (Some true) None) 0x3002 []
  -- AL by 7: bit 6 leaves last; by 8 and 20 a copy of the sign does
  pub below_width : see (Shift Sar One (rm.Reg Eax) (count.Imm 7)) (registers 0x11223380 0 0 0 0 0 0) all_set 0 0 ≡ Now (registers 0x112233FF 0 0 0 0 0 0) (five_flags (Some false) (Some true) (Some false) (Some true) None) 0x3002 []
  pub by_width : see (Shift Sar One (rm.Reg Eax) (count.Imm 8)) (registers 0x11223380 0 0 0 0 0 0) all_cleared 0 0 ≡ Now (registers 0x112233FF 0 0 0 0 0 0) (five_flags (Some true) (Some true) (Some false) (Some true) None) 0x3002 []
  pub above_width_negative : see (Shift Sar One (rm.Reg Eax) (count.Imm 20)) (registers 0x11223380 0 0 0 0 0 0) all_cleared 0 0 ≡ Now (registers 0x112233FF 0 0 0 0 0 0) (five_flags (Some true) (Some true) (Some false) (Some true) None) 0x3002 []
  pub above_width : see (Shift Sar Two (rm.Reg Eax) (count.Imm 20)) (registers 0x11227FFF 0 0 0 0 0 0) all_set 0 0 ≡ Now (registers 0x11220000 0 0 0 0 0 0) (five_flags (Some false) (Some true) (Some true) (Some false) None) 0x3002 []
  pub by_zero : see (Shift Sar One (rm.Reg Esp) (count.Imm 32)) (words (unknown_second 0x11220044) (word_of 0) (word_of 0) (word_of 0)) all_set 0 0 ≡ Now (words (unknown_second 0x11220044) (word_of 0) (word_of 0) (word_of 0)) all_set 0x3002 []
  -- AH is unspecified, and AL is kept
  pub unspecified : see (Shift Sar One (rm.Reg Esp) (count.Imm 1)) (words (unknown_second 0x11220044) (word_of 0) (word_of 0) (word_of 0)) all_set 0 0 ≡ Now (words (unknown_second 0x11220044) (word_of 0) (word_of 0) (word_of 0)) no_flags 0x3002 []
  pub above_unspecified : see (Shift Sar One (rm.Reg Eax) (count.Imm 1)) (words (unknown_second 0x11220002) (word_of 0) (word_of 0) (word_of 0)) all_set 0 0 ≡ Now (words (unknown_second 0x11220001) (word_of 0) (word_of 0) (word_of 0)) (known_flags false false false false false) 0x3002 []
  pub count_unspecified : see (Shift Sar Four (rm.Reg Eax) count.Cl) (words (word_of 0) (unknown_below 1) (word_of 0) (word_of 0)) all_set 0 0 ≡ Now (words unknown (unknown_below 1) (word_of 0) (word_of 0)) no_flags 0x3002 []
  -- 0xA3A2A1A0 is 0xFFA3A2A1
  pub in_memory : see (Shift Sar Four (memory_at 0x1000) (count.Imm 8)) (registers 0 0 0 0 0 0 0) all_cleared 0x1000 5 ≡ Now (registers 0 0 0 0 0 0 0) (five_flags (Some true) (Some false) (Some false) (Some true) None) 0x3002 (bytes_of (0xA1 ∷ 0xA2 ∷ 0xA3 ∷ 0xFF ∷ 0xA4 ∷ []))
  pub store_faults : see (Shift Sar One (memory_at 0x2000) (count.Imm 1)) (registers 0 0 0 0 0 0 0) all_set 0 0 ≡ Ended MemoryFault
  pub load_faults : see (Shift Sar One (memory_at 0x1010) (count.Imm 1)) (registers 0 0 0 0 0 0 0) all_set 0 0 ≡ Ended MemoryFault
  pub nowhere : see (Shift Sar One (memory_from Ebx 0) (count.Imm 1)) (words (word_of 0) (word_of 0) (word_of 0) unknown) all_set 0 0 ≡ Ended Unspecified
