-- Worked steps of ROL and ROR (Intel SDM volume 2, "RCL/RCR/ROL/ROR"): PF, ZF and SF are kept.
use Rattle.std.specs.Prelude.{◌≡◌, Bool, true, false, [], ◌∷◌, Option, Some, None}
use Rattle.x86_values.specs.declared.byte.Byte.TheVariants as byte
use Rattle.x86_values.specs.declared.word.Flags.{Flags}
use Rattle.x86_values.specs.Words.{word_of}
use Rattle.traces.specs.Trace.{MemoryFault, Unspecified}
use Rattle.x86_types.specs.declared.instr.Instr.TheVariants.{Shift}
use Rattle.x86_types.specs.declared.operation.ShiftOp.TheVariants.{Rol, Ror}
use Rattle.x86_types.specs.declared.operation.Count.TheVariants as count
use Rattle.x86_types.specs.declared.operand.Rm.TheVariants as rm
use Rattle.x86_types.specs.declared.operand.Reg.TheVariants.{Eax, Ecx, Ebx, Esp}
use Rattle.x86_types.specs.declared.width.Width.TheVariants.{One, Two, Four}
use Rattle.x86_meaning.specs.StepRows.{all_set, all_cleared, bytes_of, unknown, unknown_below, registers, Now, Ended, see}
use Rattle.x86_meaning.specs.RowWords.{memory_at, memory_from, words, unknown_second, unknown_half, unknown_highest}

-- CF and OF, beside flags that were all set, and all cleared
abbrev pub others_set : Option Bool → Option Bool → Flags
others_set c o = record all_set { cf = c; of = o }

abbrev pub others_cleared : Option Bool → Option Bool → Flags
others_cleared c o = record all_cleared { cf = c; of = o }

pub record RolRows : Type 0 where
  -- AL: 10000001 is 00000011, and its sign changes; what stands above is kept
  pub by_one : see (Shift Rol One (rm.Reg Eax) (count.Imm 1)) (registers 0x11223381 0 0 0 0 0 0) all_cleared 0 0 ≡ Now (registers 0x11223303 0 0 0 0 0 0) (others_cleared (Some true) (Some true)) 0x3002 []
  -- AX: 0x4000 is 0x8000, which is negative and no carry
  pub by_one_to_sign : see (Shift Rol Two (rm.Reg Eax) (count.Imm 1)) (registers 0x11224000 0 0 0 0 0 0) all_set 0 0 ≡ Now (registers 0x11228000 0 0 0 0 0 0) (others_set (Some false) (Some true)) 0x3002 []
  -- 0xC000 is 0x8001: both
  pub by_one_keeps_sign : see (Shift Rol Two (rm.Reg Eax) (count.Imm 1)) (registers 0x1122C000 0 0 0 0 0 0) all_set 0 0 ≡ Now (registers 0x11228001 0 0 0 0 0 0) (others_set (Some true) (Some false)) 0x3002 []
  -- EAX by CL: 36 is 4, and OF is unspecified; above CL nothing is read
  pub by_register : see (Shift Rol Four (rm.Reg Eax) count.Cl) (words (word_of 0x80000001) (unknown_second 0x24) (word_of 0) (word_of 0)) all_set 0 0 ≡ Now (words (word_of 0x18) (unknown_second 0x24) (word_of 0) (word_of 0)) (others_set (Some false) None) 0x3002 []
  -- CL by itself: 3 is 3 * 2^3
  pub of_the_count : see (Shift Rol One (rm.Reg Ecx) count.Cl) (registers 0 0x11223303 0 0 0 0 0) all_cleared 0 0 ≡ Now (registers 0 0x11223318 0 0 0 0 0) (others_cleared (Some false) None) 0x3002 []
  -- 0 and 32 keep what is unspecified, and all flags
  pub by_zero : see (Shift Rol One (rm.Reg Eax) (count.Imm 0)) (words (unknown_below 0x11223344) (word_of 0) (word_of 0) (word_of 0)) all_set 0 0 ≡ Now (words (unknown_below 0x11223344) (word_of 0) (word_of 0) (word_of 0)) all_set 0x3002 []
  pub by_thirty_two : see (Shift Rol Four (rm.Reg Eax) (count.Imm 32)) (registers 0x12345678 0 0 0 0 0 0) all_set 0 0 ≡ Now (registers 0x12345678 0 0 0 0 0 0) all_set 0x3002 []
  -- AX by 16 is as it was, and AL by 9 as by 1, but CF and OF are unspecified
  pub by_width : see (Shift Rol Two (rm.Reg Eax) (count.Imm 16)) (registers 0x11228001 0 0 0 0 0 0) all_cleared 0 0 ≡ Now (registers 0x11228001 0 0 0 0 0 0) (others_cleared None None) 0x3002 []
  pub above_width : see (Shift Rol One (rm.Reg Eax) (count.Imm 9)) (registers 0x11223381 0 0 0 0 0 0) all_set 0 0 ≡ Now (registers 0x11223303 0 0 0 0 0 0) (others_set None None) 0x3002 []
  -- AL by 7, and EAX by 31: as by 1 to the right
  pub below_width : see (Shift Rol One (rm.Reg Eax) (count.Imm 7)) (registers 0x11223302 0 0 0 0 0 0) all_set 0 0 ≡ Now (registers 0x11223301 0 0 0 0 0 0) (others_set (Some true) None) 0x3002 []
  pub by_thirty_one : see (Shift Rol Four (rm.Reg Eax) (count.Imm 31)) (registers 0x80000001 0 0 0 0 0 0) all_set 0 0 ≡ Now (registers 0xC0000000 0 0 0 0 0 0) (others_set (Some false) None) 0x3002 []
  -- one byte of AX isn't known
  pub unspecified : see (Shift Rol Two (rm.Reg Eax) (count.Imm 1)) (words (unknown_second 0x11223344) (word_of 0) (word_of 0) (word_of 0)) all_set 0 0 ≡ Now (words (unknown_half 0x11223344) (word_of 0) (word_of 0) (word_of 0)) (others_set None None) 0x3002 []
  -- AH beside AL
  pub above_unspecified : see (Shift Rol One (rm.Reg Eax) (count.Imm 1)) (words (unknown_second 0x11220001) (word_of 0) (word_of 0) (word_of 0)) all_cleared 0 0 ≡ Now (words (unknown_second 0x11220002) (word_of 0) (word_of 0) (word_of 0)) (others_cleared (Some false) (Some false)) 0x3002 []
  pub count_unspecified : see (Shift Rol Four (rm.Reg Eax) count.Cl) (words (word_of 5) (unknown_below 4) (word_of 0) (word_of 0)) all_cleared 0 0 ≡ Now (words unknown (unknown_below 4) (word_of 0) (word_of 0)) (others_cleared None None) 0x3002 []
  -- 0xA3A2A1A0 is 0xA2A1A0A3; the byte behind it is kept
  pub in_memory : see (Shift Rol Four (memory_at 0x1000) (count.Imm 8)) (registers 0 0 0 0 0 0 0) all_set 0x1000 5 ≡ Now (registers 0 0 0 0 0 0 0) (others_set (Some true) None) 0x3002 (bytes_of (0xA3 ∷ 0xA0 ∷ 0xA1 ∷ 0xA2 ∷ 0xA4 ∷ []))
  pub store_faults : see (Shift Rol One (memory_at 0x2000) (count.Imm 1)) (registers 0 0 0 0 0 0 0) all_set 0 0 ≡ Ended MemoryFault
  pub load_faults : see (Shift Rol One (memory_at 0x5000) (count.Imm 1)) (registers 0 0 0 0 0 0 0) all_set 0 0 ≡ Ended MemoryFault
  pub nowhere : see (Shift Rol One (memory_from Ebx 0) (count.Imm 1)) (words (word_of 0) (word_of 0) (word_of 0) (unknown_below 0x5000)) all_set 0 0 ≡ Ended Unspecified

pub record RorRows : Type 0 where
  -- AL: 00000001 is 10000000, and its sign isn't the bit below it
  pub by_one : see (Shift Ror One (rm.Reg Eax) (count.Imm 1)) (registers 0x11223301 0 0 0 0 0 0) all_cleared 0 0 ≡ Now (registers 0x11223380 0 0 0 0 0 0) (others_cleared (Some true) (Some true)) 0x3002 []
  -- 10000001 is 11000000
  pub by_one_keeps_sign : see (Shift Ror One (rm.Reg Eax) (count.Imm 1)) (registers 0x11223381 0 0 0 0 0 0) all_set 0 0 ≡ Now (registers 0x112233C0 0 0 0 0 0 0) (others_set (Some true) (Some false)) 0x3002 []
  -- 0x80000000 is 0x40000000
  pub by_one_from_sign : see (Shift Ror Four (rm.Reg Eax) (count.Imm 1)) (registers 0x80000000 0 0 0 0 0 0) all_set 0 0 ≡ Now (registers 0x40000000 0 0 0 0 0 0) (others_set (Some false) (Some true)) 0x3002 []
  -- AH: 2 is 1
  pub of_second_byte : see (Shift Ror One (rm.Reg Esp) (count.Imm 1)) (registers 0x11220233 0 0 0 0 0 0) all_set 0 0 ≡ Now (registers 0x11220133 0 0 0 0 0 0) (others_set (Some false) (Some false)) 0x3002 []
  -- EAX by CL: 68 is 4
  pub by_register : see (Shift Ror Four (rm.Reg Eax) count.Cl) (registers 0x12345678 0xFFFFFF44 0 0 0 0 0) all_cleared 0 0 ≡ Now (registers 0x81234567 0xFFFFFF44 0 0 0 0 0) (others_cleared (Some true) None) 0x3002 []
  pub by_zero : see (Shift Ror Four (rm.Reg Eax) count.Cl) (words unknown (word_of 0x40) (word_of 0) (word_of 0)) all_set 0 0 ≡ Now (words unknown (word_of 0x40) (word_of 0) (word_of 0)) all_set 0x3002 []
  pub by_width : see (Shift Ror One (rm.Reg Eax) (count.Imm 8)) (registers 0x11223381 0 0 0 0 0 0) all_set 0 0 ≡ Now (registers 0x11223381 0 0 0 0 0 0) (others_set None None) 0x3002 []
  -- AX by 17 as by 1
  pub above_width : see (Shift Ror Two (rm.Reg Eax) (count.Imm 17)) (registers 0x11220001 0 0 0 0 0 0) all_cleared 0 0 ≡ Now (registers 0x11228000 0 0 0 0 0 0) (others_cleared None None) 0x3002 []
  -- AX by 15 as by 1 to the left
  pub below_width : see (Shift Ror Two (rm.Reg Eax) (count.Imm 15)) (registers 0x11224001 0 0 0 0 0 0) all_cleared 0 0 ≡ Now (registers 0x11228002 0 0 0 0 0 0) (others_cleared (Some true) None) 0x3002 []
  -- the byte at 0x1008 stays unspecified, and the next one is kept
  pub unspecified : see (Shift Ror One (memory_at 0x1008) (count.Imm 1)) (registers 0 0 0 0 0 0 0) all_cleared 0x1008 2 ≡ Now (registers 0 0 0 0 0 0 0) (others_cleared None None) 0x3002 (byte.Unspecified ∷ byte.Known 0xA9 ∷ [])
  -- by the count 1 what is known is rotated, whatever stands above AX
  pub above_unspecified : see (Shift Ror Two (rm.Reg Eax) (count.Imm 1)) (words (unknown_highest 0x220002) (word_of 0) (word_of 0) (word_of 0)) all_set 0 0 ≡ Now (words (unknown_highest 0x220001) (word_of 0) (word_of 0) (word_of 0)) (others_set (Some false) (Some false)) 0x3002 []
  pub count_unspecified : see (Shift Ror Two (rm.Reg Eax) count.Cl) (words (word_of 0x11223344) unknown (word_of 0) (word_of 0)) all_set 0 0 ≡ Now (words (unknown_half 0x11223344) unknown (word_of 0) (word_of 0)) (others_set None None) 0x3002 []
  -- 0xA1A0 is 0x0A1A
  pub in_memory : see (Shift Ror Two (memory_at 0x1000) (count.Imm 4)) (registers 0 0 0 0 0 0 0) all_set 0x1000 3 ≡ Now (registers 0 0 0 0 0 0 0) (others_set (Some false) None) 0x3002 (bytes_of (0x1A ∷ 0x0A ∷ 0xA2 ∷ []))
  pub store_faults : see (Shift Ror Four (memory_at 0x2000) (count.Imm 1)) (registers 0 0 0 0 0 0 0) all_set 0 0 ≡ Ended MemoryFault
  pub load_faults : see (Shift Ror Four (memory_at 0x100D) (count.Imm 1)) (registers 0 0 0 0 0 0 0) all_set 0 0 ≡ Ended MemoryFault
  pub nowhere : see (Shift Ror Four (memory_from Ebx 0) (count.Imm 0)) (words (word_of 0) (word_of 0) (word_of 0) unknown) all_set 0 0 ≡ Ended Unspecified
