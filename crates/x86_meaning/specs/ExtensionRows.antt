-- Worked steps of BSWAP, MOVZX, MOVSX, CBW, CWDE, CWD and CDQ (Intel SDM volume 2): no flag changes.
use Rattle.std.specs.Prelude.{◌≡◌, [], ◌∷◌}
use Rattle.x86_values.specs.declared.byte.Byte.TheVariants as byte
use Rattle.x86_values.specs.Words.{word_of}
use Rattle.x86_values.specs.Results.{no_flags}
use Rattle.traces.specs.Trace.{MemoryFault, Unspecified}
use Rattle.x86_types.specs.declared.instr.Instr.TheVariants.{Bswap, Movzx, Movsx, Extend, Spread}
use Rattle.x86_types.specs.declared.operand.Rm.TheVariants as rm
use Rattle.x86_types.specs.declared.operand.Reg.TheVariants.{Eax, Ecx, Ebx, Esp, Ebp, Edi}
use Rattle.x86_types.specs.declared.width.Width.TheVariants.{One, Two, Four}
use Rattle.x86_meaning.specs.StepRows.{all_set, all_cleared, unknown, unknown_below, registers, Now, Ended, see}
use Rattle.x86_meaning.specs.RowWords.{memory_at, memory_from, memory_by, words, unknown_second, unknown_half, unknown_highest, unknown_above}

pub record BswapRows : Type 0 where
  pub plain : see (Bswap Eax) (registers 0x12345678 0 0 0 0 0 0) all_set 0 0 ≡ Now (registers 0x78563412 0 0 0 0 0 0) all_set 0x3002 []
  pub of_last_register : see (Bswap Edi) (registers 1 2 3 4 5 6 0x80FF0001) all_cleared 0 0 ≡ Now (registers 1 2 3 4 5 6 0x0100FF80) all_cleared 0x3002 []
  -- flags that are unspecified stay so
  pub keeps_flags : see (Bswap Ecx) (registers 0 1 0 0 0 0 0) no_flags 0 0 ≡ Now (registers 0 0x01000000 0 0 0 0 0) no_flags 0x3002 []
  -- a byte that is unspecified moves
  pub lowest_unspecified : see (Bswap Eax) (words (unknown_below 0x11223344) (word_of 0) (word_of 0) (word_of 0)) all_set 0 0 ≡ Now (words (unknown_highest 0x332211) (word_of 0) (word_of 0) (word_of 0)) all_set 0x3002 []
  pub upper_unspecified : see (Bswap Eax) (words (unknown_above 0x44) (word_of 0) (word_of 0) (word_of 0)) all_set 0 0 ≡ Now (words (record (word_of 0x44000000) { b0 = byte.Unspecified; b1 = byte.Unspecified; b2 = byte.Unspecified }) (word_of 0) (word_of 0) (word_of 0)) all_set 0x3002 []
  -- ESP rises from 0x8000 to 0x800000, and the stack below is forgotten
  pub of_esp : see (Bswap Esp) (registers 0 0 0 0 0 0 0) all_set 0x8000 2 ≡ Now (word_of 0 ∷ word_of 0 ∷ word_of 0 ∷ word_of 0 ∷ word_of 0x800000 ∷ word_of 0 ∷ word_of 0 ∷ word_of 0 ∷ []) all_set 0x3002 (byte.Unspecified ∷ byte.Unspecified ∷ [])

pub record MovzxRows : Type 0 where
  -- EAX, CL
  pub byte_to_four : see (Movzx Four One Eax (rm.Reg Ecx)) (registers 0xFFFFFFFF 0xFFFFFF80 0 0 0 0 0) all_set 0 0 ≡ Now (registers 0x80 0xFFFFFF80 0 0 0 0 0) all_set 0x3002 []
  -- AX, CL
  pub byte_to_two : see (Movzx Two One Eax (rm.Reg Ecx)) (registers 0x11223344 0xFFFFFF80 0 0 0 0 0) all_cleared 0 0 ≡ Now (registers 0x11220080 0xFFFFFF80 0 0 0 0 0) all_cleared 0x3002 []
  -- EAX, CX
  pub two_to_four : see (Movzx Four Two Eax (rm.Reg Ecx)) (registers 0xFFFFFFFF 0xFFFF8001 0 0 0 0 0) no_flags 0 0 ≡ Now (registers 0x8001 0xFFFF8001 0 0 0 0 0) no_flags 0x3002 []
  -- EAX, AH
  pub of_second_byte : see (Movzx Four One Eax (rm.Reg Esp)) (registers 0x1122F344 0 0 0 0 0 0) all_set 0 0 ≡ Now (registers 0xF3 0 0 0 0 0 0) all_set 0x3002 []
  -- EBP, CH: one number names both
  pub to_ebp : see (Movzx Four One Ebp (rm.Reg Ebp)) (registers 0 0x8100 0 0 0x11223344 0 0) all_set 0 0 ≡ Now (registers 0 0x8100 0 0 0x81 0 0) all_set 0x3002 []
  -- [EBX + 1] is read before EBX is written
  pub to_own_address : see (Movzx Four One Ebx (memory_from Ebx 1)) (registers 0 0 0 0x1000 0 0 0) all_set 0 0 ≡ Now (registers 0 0 0 0xA1 0 0 0) all_set 0x3002 []
  pub two_from_memory : see (Movzx Four Two Eax (memory_at 0x1006)) (registers 0 0 0 0 0 0 0) all_set 0 0 ≡ Now (registers 0xA7A6 0 0 0 0 0 0) all_set 0x3002 []
  -- the last byte that is mapped, and two from there
  pub last_byte : see (Movzx Four One Eax (memory_at 0x100F)) (registers 0 0 0 0 0 0 0) all_set 0 0 ≡ Now (registers 0xAF 0 0 0 0 0 0) all_set 0x3002 []
  pub load_faults_in_part : see (Movzx Four Two Eax (memory_at 0x100F)) (registers 0 0 0 0 0 0 0) all_set 0 0 ≡ Ended MemoryFault
  -- zeros are known above what isn't
  pub unspecified : see (Movzx Four One Eax (memory_at 0x1008)) (registers 0xFFFFFFFF 0 0 0 0 0 0) all_set 0 0 ≡ Now (words (unknown_below 0) (word_of 0) (word_of 0) (word_of 0)) all_set 0x3002 []
  pub two_unspecified : see (Movzx Four Two Eax (memory_at 0x1007)) (registers 0xFFFFFFFF 0 0 0 0 0 0) all_set 0 0 ≡ Now (words (unknown_second 0xA7) (word_of 0) (word_of 0) (word_of 0)) all_set 0x3002 []
  -- CH isn't read
  pub above_unspecified : see (Movzx Four One Ecx (rm.Reg Ecx)) (words (word_of 0) (unknown_second 0x11220044) (word_of 0) (word_of 0)) all_set 0 0 ≡ Now (registers 0 0x44 0 0 0 0 0) all_set 0x3002 []
  pub load_faults : see (Movzx Two One Eax (memory_at 0x5000)) (registers 0 0 0 0 0 0 0) all_set 0 0 ≡ Ended MemoryFault
  pub nowhere : see (Movzx Two One Eax (memory_from Ebx 0)) (words (word_of 0) (word_of 0) (word_of 0) (unknown_below 0x5000)) all_set 0 0 ≡ Ended Unspecified

pub record MovsxRows : Type 0 where
  -- EAX, CL
  pub byte_negative : see (Movsx Four One Eax (rm.Reg Ecx)) (registers 0 0x80 0 0 0 0 0) all_set 0 0 ≡ Now (registers 0xFFFFFF80 0x80 0 0 0 0 0) all_set 0x3002 []
  pub byte_positive : see (Movsx Four One Eax (rm.Reg Ecx)) (registers 0xFFFFFFFF 0xFFFFFF7F 0 0 0 0 0) all_cleared 0 0 ≡ Now (registers 0x7F 0xFFFFFF7F 0 0 0 0 0) all_cleared 0x3002 []
  -- AX, CL: what stands above AX is kept
  pub byte_to_two_negative : see (Movsx Two One Eax (rm.Reg Ecx)) (registers 0x11223344 0x80 0 0 0 0 0) no_flags 0 0 ≡ Now (registers 0x1122FF80 0x80 0 0 0 0 0) no_flags 0x3002 []
  pub byte_to_two_positive : see (Movsx Two One Eax (rm.Reg Ecx)) (registers 0x1122F344 0x7F 0 0 0 0 0) all_set 0 0 ≡ Now (registers 0x1122007F 0x7F 0 0 0 0 0) all_set 0x3002 []
  -- EAX, CX: the sign is bit 15, not bit 7, nor bit 31
  pub two_negative : see (Movsx Four Two Eax (rm.Reg Ecx)) (registers 0 0x11228000 0 0 0 0 0) all_set 0 0 ≡ Now (registers 0xFFFF8000 0x11228000 0 0 0 0 0) all_set 0x3002 []
  pub two_positive : see (Movsx Four Two Eax (rm.Reg Ecx)) (registers 0xFFFFFFFF 0xFFFF7FFF 0 0 0 0 0) all_set 0 0 ≡ Now (registers 0x7FFF 0xFFFF7FFF 0 0 0 0 0) all_set 0x3002 []
  -- EBP, CH
  pub of_second_byte : see (Movsx Four One Ebp (rm.Reg Ebp)) (registers 0 0x8100 0 0 0 0 0) all_set 0 0 ≡ Now (registers 0 0x8100 0 0 0xFFFFFF81 0 0) all_set 0x3002 []
  -- [EBX + ECX * 8 + 0xFFFFFFF7] is 0x10000100F, which wraps to the last byte that is mapped
  pub from_last_byte : see (Movsx Four One Eax (memory_by Ebx Ecx 8 0xFFFFFFF7)) (registers 0 3 0 0x1000 0 0 0) all_set 0 0 ≡ Now (registers 0xFFFFFFAF 3 0 0x1000 0 0 0) all_set 0x3002 []
  -- copies of a sign that isn't known
  pub unspecified : see (Movsx Four One Eax (memory_at 0x1008)) (registers 0 0 0 0 0 0 0) all_set 0 0 ≡ Now (words unknown (word_of 0) (word_of 0) (word_of 0)) all_set 0x3002 []
  pub to_two_unspecified : see (Movsx Two One Eax (memory_at 0x1008)) (registers 0x11223344 0 0 0 0 0 0) all_set 0 0 ≡ Now (words (unknown_half 0x11223344) (word_of 0) (word_of 0) (word_of 0)) all_set 0x3002 []
  pub second_unspecified : see (Movsx Four Two Eax (memory_at 0x1007)) (registers 0 0 0 0 0 0 0) all_set 0 0 ≡ Now (words (unknown_above 0xA7) (word_of 0) (word_of 0) (word_of 0)) all_set 0x3002 []
  -- and of one that is
  pub lowest_unspecified : see (Movsx Four Two Eax (memory_at 0x1008)) (registers 0 0 0 0 0 0 0) all_set 0 0 ≡ Now (words (unknown_below 0xFFFFA900) (word_of 0) (word_of 0) (word_of 0)) all_set 0x3002 []
  pub load_faults : see (Movsx Four Two Eax (memory_at 0x100F)) (registers 0 0 0 0 0 0 0) all_set 0 0 ≡ Ended MemoryFault
  -- the index isn't known
  pub nowhere : see (Movsx Four Two Eax (memory_by Ebx Ecx 1 0)) (words (word_of 0) (unknown_highest 0) (word_of 0) (word_of 0x1000)) all_set 0 0 ≡ Ended Unspecified

-- CBW, of AL to AX, and CWDE, of AX to EAX
pub record ExtendRows : Type 0 where
  pub byte_negative : see (Extend Two) (registers 0x11220080 0 0x55667788 0 0 0 0) all_set 0 0 ≡ Now (registers 0x1122FF80 0 0x55667788 0 0 0 0) all_set 0x3002 []
  -- AH isn't read
  pub byte_positive : see (Extend Two) (words (unknown_second 0x1122007F) (word_of 0) (word_of 0) (word_of 0)) all_cleared 0 0 ≡ Now (registers 0x1122007F 0 0 0 0 0 0) all_cleared 0x3002 []
  pub two_negative : see (Extend Four) (registers 0x11228000 0 0x55667788 0 0 0 0) no_flags 0 0 ≡ Now (registers 0xFFFF8000 0 0x55667788 0 0 0 0) no_flags 0x3002 []
  -- what stands above AX isn't read, and bit 7 is no sign
  pub two_positive : see (Extend Four) (words (unknown_highest 0xFF7FFF) (word_of 0) (word_of 0) (word_of 0)) all_set 0 0 ≡ Now (registers 0x7FFF 0 0 0 0 0 0) all_set 0x3002 []
  pub byte_unspecified : see (Extend Two) (words (unknown_below 0x11223344) (word_of 0) (word_of 0) (word_of 0)) all_set 0 0 ≡ Now (words (unknown_half 0x11223344) (word_of 0) (word_of 0) (word_of 0)) all_set 0x3002 []
  pub second_unspecified : see (Extend Four) (words (unknown_second 0x11220044) (word_of 0) (word_of 0) (word_of 0)) all_set 0 0 ≡ Now (words (unknown_above 0x44) (word_of 0) (word_of 0) (word_of 0)) all_set 0x3002 []
  pub lowest_unspecified : see (Extend Four) (words (unknown_below 0x11228000) (word_of 0) (word_of 0) (word_of 0)) all_set 0 0 ≡ Now (words (unknown_below 0xFFFF8000) (word_of 0) (word_of 0) (word_of 0)) all_set 0x3002 []

-- CWD, of AX to DX and AX, and CDQ, of EAX to EDX and EAX
pub record SpreadRows : Type 0 where
  pub two_negative : see (Spread Two) (registers 0x11228000 0 0x55667788 0 0 0 0) all_set 0 0 ≡ Now (registers 0x11228000 0 0x5566FFFF 0 0 0 0) all_set 0x3002 []
  -- what stands above AX isn't read, and bit 7 is no sign
  pub two_positive : see (Spread Two) (registers 0xFFFF7FFF 0 0x55667788 0 0 0 0) all_cleared 0 0 ≡ Now (registers 0xFFFF7FFF 0 0x55660000 0 0 0 0) all_cleared 0x3002 []
  -- EDX isn't read
  pub four_negative : see (Spread Four) (words (word_of 0x80000000) (word_of 0) unknown (word_of 0)) no_flags 0 0 ≡ Now (registers 0x80000000 0 0xFFFFFFFF 0 0 0 0) no_flags 0x3002 []
  pub four_positive : see (Spread Four) (registers 0x7FFFFFFF 0 0x55667788 0 0 0 0) all_set 0 0 ≡ Now (registers 0x7FFFFFFF 0 0 0 0 0 0) all_set 0x3002 []
  -- the byte of the sign is unspecified
  pub second_unspecified : see (Spread Two) (words (unknown_second 0x11220044) (word_of 0) (word_of 0x55667788) (word_of 0)) all_set 0 0 ≡ Now (words (unknown_second 0x11220044) (word_of 0) (unknown_half 0x55667788) (word_of 0)) all_set 0x3002 []
  pub highest_unspecified : see (Spread Four) (words (unknown_highest 0) (word_of 0) (word_of 0) (word_of 0)) all_set 0 0 ≡ Now (words (unknown_highest 0) (word_of 0) unknown (word_of 0)) all_set 0x3002 []
  -- another one is
  pub two_lowest_unspecified : see (Spread Two) (words (unknown_below 0x11228000) (word_of 0) (word_of 0x55667788) (word_of 0)) all_set 0 0 ≡ Now (words (unknown_below 0x11228000) (word_of 0) (word_of 0x5566FFFF) (word_of 0)) all_set 0x3002 []
  pub four_lowest_unspecified : see (Spread Four) (words (unknown_half 0x80000000) (word_of 0) (word_of 0) (word_of 0)) all_set 0 0 ≡ Now (words (unknown_half 0x80000000) (word_of 0) (word_of 0xFFFFFFFF) (word_of 0)) all_set 0x3002 []
