-- Worked steps of DIV and IDIV (Intel SDM volume 2). All flags are unspecified after them.
use Rattle.std.specs.Prelude.{◌≡◌, ℕ, []}
use Rattle.x86_values.specs.Words.{word_of}
use Rattle.x86_values.specs.Results.{no_flags}
use Rattle.traces.specs.Trace.{MemoryFault, DivideFault, Unspecified}
use Rattle.x86_types.specs.declared.instr.Instr.{Instr}
use Rattle.x86_types.specs.declared.instr.Instr.TheVariants.{Div, Idiv}
use Rattle.x86_types.specs.declared.operand.Rm.TheVariants as rm
use Rattle.x86_types.specs.declared.operand.Reg.TheVariants.{Eax, Ecx, Edx, Ebx, Esp}
use Rattle.x86_types.specs.declared.width.Width.TheVariants.{One, Two, Four}
use Rattle.x86_meaning.specs.StepRows.{all_set, unknown, unknown_below, registers, Shown, Now, Ended, see}
use Rattle.x86_meaning.specs.RowWords.{memory_at, memory_from, words, unknown_second, unknown_highest}

-- EAX, ECX, EDX and EBX before a division, and after one that has a quotient
abbrev pub divides : Instr → ℕ → ℕ → ℕ → ℕ → Shown
divides i eax ecx edx ebx = see i (registers eax ecx edx ebx 0 0 0) all_set 0 0

abbrev pub divided : ℕ → ℕ → ℕ → ℕ → Shown
divided eax ecx edx ebx = Now (registers eax ecx edx ebx 0 0 0) no_flags 0x3002 []

pub record DivRows : Type 0 where
  -- AX by BL: 0x105 is 16 * 16 + 5, the quotient in AL and the remainder in AH; EDX is kept, and above BL nothing is read
  pub one_byte : divides (Div One (rm.Reg Ebx)) 0x11220105 0 0x55667788 0xFFFFFF10 ≡ divided 0x11220510 0 0x55667788 0xFFFFFF10
  -- 0x11EE is 0xFF * 0x12, and 0x1200 is 0x100 * 0x12
  pub byte_greatest : divides (Div One (rm.Reg Ebx)) 0x112211EE 0 0 0x12 ≡ divided 0x112200FF 0 0 0x12
  pub byte_too_great : divides (Div One (rm.Reg Ebx)) 0x11221200 0 0 0x12 ≡ Ended DivideFault
  -- AX by AL: 0x103 is 86 * 3 + 1
  pub by_lower : divides (Div One (rm.Reg Eax)) 0x11220103 0 0 0 ≡ divided 0x11220156 0 0 0
  -- AX by AH: 0x103 by 1
  pub by_upper : divides (Div One (rm.Reg Esp)) 0x11220103 0 0 0 ≡ Ended DivideFault
  -- DX and AX by CX: 0x20005 is 0x8001 * 4 + 1
  pub two_bytes : divides (Div Two (rm.Reg Ecx)) 0x11220005 0x33440004 0x55660002 0 ≡ divided 0x11228001 0x33440004 0x55660001 0
  pub two_bytes_too_great : divides (Div Two (rm.Reg Ecx)) 0 4 4 0 ≡ Ended DivideFault
  -- EDX and EAX by ECX: 2^32 is 0x24924924 * 7 + 4
  pub four_bytes : divides (Div Four (rm.Reg Ecx)) 0 7 1 0 ≡ divided 0x24924924 7 4 0
  -- 0x6FFFFFFFB is 0xFFFFFFFF * 7 + 2, and 7 * 2^32 is one multiple too far
  pub greatest : divides (Div Four (rm.Reg Ecx)) 0xFFFFFFFB 7 6 0 ≡ divided 0xFFFFFFFF 7 2 0
  pub too_great : divides (Div Four (rm.Reg Ecx)) 0 7 7 0 ≡ Ended DivideFault
  pub by_zero : divides (Div Four (rm.Reg Ecx)) 5 0 0 0 ≡ Ended DivideFault
  -- 0 in BL alone
  pub byte_by_zero : divides (Div One (rm.Reg Ebx)) 5 0 0 0xFFFFFF00 ≡ Ended DivideFault
  -- 0xFFFFFFFF by 0xA3A2A1A0 at 0x1000
  pub by_memory : divides (Div Four (memory_at 0x1000)) 0xFFFFFFFF 0 0 0 ≡ divided 1 0 0x5C5D5E5F 0
  -- 352 is 2 * 175 + 2; 175 is the last byte that is mapped, and four bytes from there aren't
  pub by_last_byte : divides (Div One (memory_at 0x100F)) 0x11220160 0 0 0 ≡ divided 0x11220202 0 0 0
  pub load_faults_in_part : divides (Div Four (memory_at 0x100F)) 5 0 0 0 ≡ Ended MemoryFault
  -- the load faults before what the upper half says
  pub load_faults : see (Div Four (memory_at 0x5000)) (words (word_of 5) (word_of 0) unknown (word_of 0)) all_set 0 0 ≡ Ended MemoryFault
  -- no address, so nothing is loaded
  pub nowhere : see (Div Four (memory_from Ebx 0)) (words (word_of 5) (word_of 0) (word_of 0) (unknown_below 0x5000)) all_set 0 0 ≡ Ended Unspecified
  pub upper_unspecified : see (Div Four (rm.Reg Ecx)) (words (word_of 5) (word_of 1) (unknown_highest 0) (word_of 0)) all_set 0 0 ≡ Ended Unspecified
  pub lower_unspecified : see (Div Four (rm.Reg Ecx)) (words (unknown_below 5) (word_of 1) (word_of 0) (word_of 0)) all_set 0 0 ≡ Ended Unspecified
  pub divisor_unspecified : see (Div Four (rm.Reg Ecx)) (words (word_of 5) (unknown_highest 1) (word_of 0) (word_of 0)) all_set 0 0 ≡ Ended Unspecified
  -- a divisor of 0 doesn't come before a dividend that isn't known
  pub unspecified_by_zero : see (Div Four (rm.Reg Ecx)) (words unknown (word_of 0) (word_of 0) (word_of 0)) all_set 0 0 ≡ Ended Unspecified
  -- bytes above the width: that of the dividend is kept, and that of the divisor and EDX aren't read
  pub above_unspecified : see (Div One (rm.Reg Ebx)) (words (unknown_highest 0x220105) (word_of 0) unknown (unknown_second 0x10)) all_set 0 0 ≡ Now (words (unknown_highest 0x220510) (word_of 0) unknown (unknown_second 0x10)) no_flags 0x3002 []

pub record IdivRows : Type 0 where
  -- AX by BL: 100 by 7, -100 by 7, 100 by -7 and -100 by -7: the remainder has the sign of the dividend
  pub both_positive : divides (Idiv One (rm.Reg Ebx)) 0x11220064 0 0x55667788 0xFFFFFF07 ≡ divided 0x1122020E 0 0x55667788 0xFFFFFF07
  pub dividend_negative : divides (Idiv One (rm.Reg Ebx)) 0x1122FF9C 0 0 7 ≡ divided 0x1122FEF2 0 0 7
  pub divisor_negative : divides (Idiv One (rm.Reg Ebx)) 0x11220064 0 0 0xF9 ≡ divided 0x112202F2 0 0 0xF9
  pub both_negative : divides (Idiv One (rm.Reg Ebx)) 0x1122FF9C 0 0 0xF9 ≡ divided 0x1122FE0E 0 0 0xF9
  -- 255 is 127 * 2 + 1, and 256 by 2 is 128
  pub byte_greatest : divides (Idiv One (rm.Reg Ebx)) 0x112200FF 0 0 2 ≡ divided 0x1122017F 0 0 2
  pub byte_too_great : divides (Idiv One (rm.Reg Ebx)) 0x11220100 0 0 2 ≡ Ended DivideFault
  -- -257 is -128 * 2 - 1, and -258 by 2 is -129
  pub byte_least : divides (Idiv One (rm.Reg Ebx)) 0x1122FEFF 0 0 2 ≡ divided 0x1122FF80 0 0 2
  pub byte_too_small : divides (Idiv One (rm.Reg Ebx)) 0x1122FEFE 0 0 2 ≡ Ended DivideFault
  -- AX by AH: -16 by -1
  pub by_upper_byte : divides (Idiv One (rm.Reg Esp)) 0x1122FFF0 0 0 0 ≡ divided 0x11220010 0 0 0
  -- DX and AX by CX: -6 is -1 * 4 - 2
  pub two_bytes : divides (Idiv Two (rm.Reg Ecx)) 0x1122FFFA 0x33440004 0x5566FFFF 0 ≡ divided 0x1122FFFF 0x33440004 0x5566FFFE 0
  -- -2^15 by 1 and by -1
  pub two_bytes_least : divides (Idiv Two (rm.Reg Ecx)) 0x8000 1 0xFFFF 0 ≡ divided 0x8000 1 0 0
  pub two_bytes_too_great : divides (Idiv Two (rm.Reg Ecx)) 0x8000 0xFFFF 0xFFFF 0 ≡ Ended DivideFault
  -- EDX and EAX by ECX: -2^31 by -1
  pub too_great : divides (Idiv Four (rm.Reg Ecx)) 0x80000000 0xFFFFFFFF 0xFFFFFFFF 0 ≡ Ended DivideFault
  -- 2^62 by -2^31 is -2^31, and -2^62 by -2^31 is 2^31
  pub least : divides (Idiv Four (rm.Reg Ecx)) 0 0x80000000 0x40000000 0 ≡ divided 0x80000000 0x80000000 0 0
  pub just_too_great : divides (Idiv Four (rm.Reg Ecx)) 0 0x80000000 0xC0000000 0 ≡ Ended DivideFault
  -- EDX: -5 by -1
  pub by_upper : divides (Idiv Four (rm.Reg Edx)) 0xFFFFFFFB 0 0xFFFFFFFF 0 ≡ divided 5 0 0 0
  pub by_zero : divides (Idiv Four (rm.Reg Ecx)) 0xFFFFFFFF 0 0xFFFFFFFF 0 ≡ Ended DivideFault
  -- 200 by -96, which stands at 0x1000, is -2 and 8 remain
  pub by_memory : divides (Idiv One (memory_at 0x1000)) 0x112200C8 0 0 0 ≡ divided 0x112208FE 0 0 0
  pub by_unspecified_memory : divides (Idiv One (memory_at 0x1008)) 0 0 0 0 ≡ Ended Unspecified
  pub load_faults : see (Idiv Two (memory_at 0x5000)) (words unknown (word_of 0) (word_of 0) (word_of 0)) all_set 0 0 ≡ Ended MemoryFault
  pub nowhere : see (Idiv Two (memory_from Ebx 0)) (words (word_of 5) (word_of 0) (word_of 0) (unknown_highest 0)) all_set 0 0 ≡ Ended Unspecified
  -- AH is the upper half
  pub upper_unspecified : see (Idiv One (rm.Reg Ebx)) (words (unknown_second 0x11220064) (word_of 0) (word_of 0) (word_of 7)) all_set 0 0 ≡ Ended Unspecified
