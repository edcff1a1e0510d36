-- Worked steps of MUL and IMUL (Intel SDM volume 2). CF and OF say whether the upper half has bits of its own; PF, ZF and SF are
-- unspecified.
use Rattle.std.specs.Prelude.{◌≡◌, Bool, true, false, [], Some, None}
use Rattle.x86_values.specs.declared.word.Flags.{Flags}
use Rattle.x86_values.specs.Words.{word_of}
use Rattle.x86_values.specs.Results.{no_flags}
use Rattle.traces.specs.Trace.{MemoryFault, Unspecified}
use Rattle.x86_types.specs.declared.instr.Instr.TheVariants.{Mul, ImulWide, Imul, ImulBy}
use Rattle.x86_types.specs.declared.operand.Rm.TheVariants as rm
use Rattle.x86_types.specs.declared.operand.Reg.TheVariants.{Eax, Ecx, Edx, Ebx, Esp, Esi}
use Rattle.x86_types.specs.declared.width.Width.TheVariants.{One, Two, Four}
use Rattle.x86_meaning.specs.StepRows.{five_flags, all_set, all_cleared, unknown, unknown_below, registers, Now, Ended, see}
use Rattle.x86_meaning.specs.RowWords.{memory_at, memory_from, memory_by, words, unknown_second, unknown_highest, unknown_half}

abbrev pub exceeds : Bool → Flags
exceeds b = five_flags (Some b) None None None (Some b)

pub record MulRows : Type 0 where
  -- BL: 0x10 * 0x20 is 0x200 in AX; what stands above BL isn't read, and EDX is kept
  pub byte_exceeds : see (Mul One (rm.Reg Ebx)) (registers 0x11223310 0 0x55667788 0xFFFFFF20 0 0 0) all_cleared 0 0 ≡ Now (registers 0x11220200 0 0x55667788 0xFFFFFF20 0 0 0) (exceeds true) 0x3002 []
  -- AH: 0x0F * 0x11 is 0xFF, the greatest product that AL has
  pub byte_fits : see (Mul One (rm.Reg Esp)) (registers 0x1122110F 0 0 0 0 0 0) all_set 0 0 ≡ Now (registers 0x112200FF 0 0 0 0 0 0) (exceeds false) 0x3002 []
  -- CX: 0x8000 * 2 is 1 in DX and 0 in AX
  pub two_bytes : see (Mul Two (rm.Reg Ecx)) (registers 0x11228000 0x33440002 0x55667788 0 0 0 0) all_cleared 0 0 ≡ Now (registers 0x11220000 0x33440002 0x55660001 0 0 0 0) (exceeds true) 0x3002 []
  -- ECX: (2^32 - 1)^2 is 2^64 - 2^33 + 1
  pub greatest : see (Mul Four (rm.Reg Ecx)) (registers 0xFFFFFFFF 0xFFFFFFFF 0 0 0 0 0) all_cleared 0 0 ≡ Now (registers 1 0xFFFFFFFF 0xFFFFFFFE 0 0 0 0) (exceeds true) 0x3002 []
  -- EDX is read before the upper half is written to it
  pub by_upper : see (Mul Four (rm.Reg Edx)) (registers 3 0 5 0 0 0 0) all_set 0 0 ≡ Now (registers 15 0 0 0 0 0 0) (exceeds false) 0x3002 []
  -- EAX: 2^16 * 2^16
  pub by_itself : see (Mul Four (rm.Reg Eax)) (registers 0x10000 0 7 0 0 0 0) all_cleared 0 0 ≡ Now (registers 0 0 1 0 0 0 0) (exceeds true) 0x3002 []
  -- [EBX + ESI * 4 + 0x1404] is 0x100001004, which wraps to 0x1004; there stands 0xA7A6A5A4
  pub from_wrapped : see (Mul Four (memory_by Ebx Esi 4 0x1404)) (registers 2 0 0 0xFFFFF000 0 0x300 0) all_cleared 0 0 ≡ Now (registers 0x4F4D4B48 0 1 0xFFFFF000 0 0x300 0) (exceeds true) 0x3002 []
  -- 0xAF, the last byte that is mapped; two from there aren't
  pub from_last_byte : see (Mul One (memory_at 0x100F)) (registers 0x11223302 0 0 0 0 0 0) all_cleared 0 0 ≡ Now (registers 0x1122015E 0 0 0 0 0 0) (exceeds true) 0x3002 []
  pub load_faults_in_part : see (Mul Two (memory_at 0x100F)) (registers 2 0 0 0 0 0 0) all_set 0 0 ≡ Ended MemoryFault
  -- 0xC0 where nothing can be written, and without a sign
  pub from_constant : see (Mul One (memory_at 0x2000)) (registers 1 0 0 0 0 0 0) all_cleared 0 0 ≡ Now (registers 0xC0 0 0 0 0 0 0) (exceeds false) 0x3002 []
  -- one of the two bytes there is unspecified: so are AX, DX and all flags, and what stands above is kept
  pub from_unspecified : see (Mul Two (memory_at 0x1007)) (registers 0x11220002 0 0x55667788 0 0 0 0) all_set 0 0 ≡ Now (words (unknown_half 0x11220002) (word_of 0) (unknown_half 0x55667788) (word_of 0)) no_flags 0x3002 []
  -- AH isn't read
  pub above_unspecified : see (Mul One (rm.Reg Ebx)) (words (unknown_second 0x11223302) (word_of 0) (word_of 0) (word_of 3)) all_set 0 0 ≡ Now (registers 0x11220006 0 0 3 0 0 0) (exceeds false) 0x3002 []
  -- AL is, and 0 times what is unspecified is unspecified
  pub lowest_unspecified : see (Mul One (rm.Reg Ebx)) (words (unknown_below 0x11223344) (word_of 0) (word_of 0) (word_of 0)) all_set 0 0 ≡ Now (words (unknown_half 0x11223344) (word_of 0) (word_of 0) (word_of 0)) no_flags 0x3002 []
  -- one byte of four
  pub highest_unspecified : see (Mul Four (rm.Reg Ecx)) (words (word_of 2) (unknown_highest 3) (word_of 0) (word_of 0)) all_set 0 0 ≡ Now (words unknown (unknown_highest 3) unknown (word_of 0)) no_flags 0x3002 []
  pub load_faults : see (Mul Four (memory_at 0x5000)) (words unknown (word_of 0) (word_of 0) (word_of 0)) all_set 0 0 ≡ Ended MemoryFault
  -- no address, so nothing is loaded
  pub nowhere : see (Mul Four (memory_from Ebx 0)) (words (word_of 0) (word_of 0) (word_of 0) (unknown_below 0x5000)) all_set 0 0 ≡ Ended Unspecified

pub record ImulWideRows : Type 0 where
  -- BL: -1 * 2 is -2, which AL has
  pub byte_negative : see (ImulWide One (rm.Reg Ebx)) (registers 0x112233FF 0 0x55667788 0xFFFFFF02 0 0 0) all_set 0 0 ≡ Now (registers 0x1122FFFE 0 0x55667788 0xFFFFFF02 0 0 0) (exceeds false) 0x3002 []
  -- -128 * -1 is 128, one more than AL has
  pub byte_exceeds : see (ImulWide One (rm.Reg Ebx)) (registers 0x11223380 0 0 0xFF 0 0 0) all_cleared 0 0 ≡ Now (registers 0x11220080 0 0 0xFF 0 0 0) (exceeds true) 0x3002 []
  -- AL * AH: -2 * -3 is 6
  pub both_negative : see (ImulWide One (rm.Reg Esp)) (registers 0x1122FDFE 0 0 0 0 0 0) all_set 0 0 ≡ Now (registers 0x11220006 0 0 0 0 0 0) (exceeds false) 0x3002 []
  -- CX: (-2^15)^2 is 2^30
  pub two_bytes : see (ImulWide Two (rm.Reg Ecx)) (registers 0x11228000 0x33448000 0x55667788 0 0 0 0) all_cleared 0 0 ≡ Now (registers 0x11220000 0x33448000 0x55664000 0 0 0 0) (exceeds true) 0x3002 []
  -- 2^14 * -2 is -2^15, the least that AX has
  pub least : see (ImulWide Two (rm.Reg Ecx)) (registers 0x11224000 0xFFFE 0x55667788 0 0 0 0) all_set 0 0 ≡ Now (registers 0x11228000 0xFFFE 0x5566FFFF 0 0 0 0) (exceeds false) 0x3002 []
  -- EDX: -1 * 5
  pub by_upper : see (ImulWide Four (rm.Reg Edx)) (registers 0xFFFFFFFF 0 5 0 0 0 0) all_set 0 0 ≡ Now (registers 0xFFFFFFFB 0 0xFFFFFFFF 0 0 0 0) (exceeds false) 0x3002 []
  -- ECX: 2^30 * 2 is 2^31, which is positive
  pub positive_exceeds : see (ImulWide Four (rm.Reg Ecx)) (registers 0x40000000 2 9 0 0 0 0) all_cleared 0 0 ≡ Now (registers 0x80000000 2 0 0 0 0 0) (exceeds true) 0x3002 []
  -- -2^31 * 2 is -2^32, whose lower half is 0
  pub negative_exceeds : see (ImulWide Four (rm.Reg Ecx)) (registers 0x80000000 2 9 0 0 0 0) all_cleared 0 0 ≡ Now (registers 0 2 0xFFFFFFFF 0 0 0 0) (exceeds true) 0x3002 []
  -- 0xA3A2A1A0 at 0x1000 is negative
  pub from_memory : see (ImulWide Four (memory_at 0x1000)) (registers 1 0 0 0 0 0 0) all_set 0 0 ≡ Now (registers 0xA3A2A1A0 0 0xFFFFFFFF 0 0 0 0) (exceeds false) 0x3002 []
  pub from_unspecified : see (ImulWide Two (memory_at 0x1007)) (registers 0x11220000 0 0x55667788 0 0 0 0) all_set 0 0 ≡ Now (words (unknown_half 0x11220000) (word_of 0) (unknown_half 0x55667788) (word_of 0)) no_flags 0x3002 []
  pub load_faults : see (ImulWide One (memory_at 0x5000)) (registers 0 0 0 0 0 0 0) all_set 0 0 ≡ Ended MemoryFault
  pub nowhere : see (ImulWide One (memory_from Ebx 0)) (words (word_of 0) (word_of 0) (word_of 0) unknown) all_set 0 0 ≡ Ended Unspecified

-- of two operands
pub record ImulRows : Type 0 where
  -- ECX, EDX: 7 * -3 is -21; EAX and EDX are kept
  pub plain : see (Imul Four Ecx (rm.Reg Edx)) (registers 9 7 0xFFFFFFFD 0 0 0 0) all_set 0 0 ≡ Now (registers 9 0xFFFFFFEB 0xFFFFFFFD 0 0 0 0) (exceeds false) 0x3002 []
  -- 2^16 * 2^15 is 2^31
  pub exceeds_by_sign : see (Imul Four Ecx (rm.Reg Edx)) (registers 0 0x10000 0x8000 0 0 0 0) all_cleared 0 0 ≡ Now (registers 0 0x80000000 0x8000 0 0 0 0) (exceeds true) 0x3002 []
  -- 2^16 * -2^15 is -2^31
  pub least : see (Imul Four Ecx (rm.Reg Edx)) (registers 0 0x10000 0xFFFF8000 0 0 0 0) all_set 0 0 ≡ Now (registers 0 0x80000000 0xFFFF8000 0 0 0 0) (exceeds false) 0x3002 []
  -- 0x12345678 * 0x100 without its highest byte
  pub cut_off : see (Imul Four Ecx (rm.Reg Edx)) (registers 0 0x12345678 0x100 0 0 0 0) all_cleared 0 0 ≡ Now (registers 0 0x34567800 0x100 0 0 0 0) (exceeds true) 0x3002 []
  -- CX, DX: 0x100 * 0x80 is 2^15
  pub two_bytes_exceed : see (Imul Two Ecx (rm.Reg Edx)) (registers 0 0x11220100 0x55660080 0 0 0 0) all_cleared 0 0 ≡ Now (registers 0 0x11228000 0x55660080 0 0 0 0) (exceeds true) 0x3002 []
  -- -1 * -1
  pub two_bytes_fit : see (Imul Two Ecx (rm.Reg Edx)) (registers 0 0x1122FFFF 0x5566FFFF 0 0 0 0) all_set 0 0 ≡ Now (registers 0 0x11220001 0x5566FFFF 0 0 0 0) (exceeds false) 0x3002 []
  -- ECX, ECX: (-2)^2
  pub by_itself : see (Imul Four Ecx (rm.Reg Ecx)) (registers 0 0xFFFFFFFE 0 0 0 0 0) all_set 0 0 ≡ Now (registers 0 4 0 0 0 0 0) (exceeds false) 0x3002 []
  -- [ESP + 4] is 0x57565554
  pub from_stack : see (Imul Four Eax (memory_from Esp 4)) (registers 1 0 0 0 0 0 0) all_set 0 0 ≡ Now (registers 0x57565554 0 0 0 0 0 0) (exceeds false) 0x3002 []
  -- the last two bytes that are mapped, 0xAFAE, are negative; four from there aren't mapped
  pub from_last_bytes : see (Imul Two Eax (memory_at 0x100E)) (registers 1 0 0 0 0 0 0) all_set 0 0 ≡ Now (registers 0xAFAE 0 0 0 0 0 0) (exceeds false) 0x3002 []
  pub load_faults_in_part : see (Imul Four Eax (memory_at 0x100E)) (words unknown (word_of 0) (word_of 0) (word_of 0)) all_set 0 0 ≡ Ended MemoryFault
  pub target_unspecified : see (Imul Four Ecx (rm.Reg Edx)) (words (word_of 0) (unknown_below 0) (word_of 0) (word_of 0)) all_set 0 0 ≡ Now (words (word_of 0) unknown (word_of 0) (word_of 0)) no_flags 0x3002 []
  -- the byte above the width stays so
  pub above_unspecified : see (Imul Two Ecx (rm.Reg Edx)) (words (word_of 0) (unknown_highest 0x220003) (word_of 5) (word_of 0)) all_set 0 0 ≡ Now (words (word_of 0) (unknown_highest 0x22000F) (word_of 5) (word_of 0)) (exceeds false) 0x3002 []
  pub nowhere : see (Imul Four Eax (memory_by Ebx Esi 2 0)) (words (word_of 0) (word_of 0) (word_of 0) (unknown_highest 0)) all_set 0 0 ≡ Ended Unspecified

-- of three operands
pub record ImulByRows : Type 0 where
  -- ECX, EDX, 10: -5 * 10 is -50, whatever stood in ECX
  pub plain : see (ImulBy Four Ecx (rm.Reg Edx) 10) (words (word_of 0) unknown (word_of 0xFFFFFFFB) (word_of 0)) all_set 0 0 ≡ Now (registers 0 0xFFFFFFCE 0xFFFFFFFB 0 0 0 0) (exceeds false) 0x3002 []
  -- 2^30 * -2 is -2^31
  pub negative_constant : see (ImulBy Four Ecx (rm.Reg Edx) 0xFFFFFFFE) (registers 0 9 0x40000000 0 0 0 0) all_set 0 0 ≡ Now (registers 0 0x80000000 0x40000000 0 0 0 0) (exceeds false) 0x3002 []
  -- 2^30 * 2 is 2^31
  pub exceeds_by_sign : see (ImulBy Four Ecx (rm.Reg Edx) 2) (registers 0 9 0x40000000 0 0 0 0) all_cleared 0 0 ≡ Now (registers 0 0x80000000 0x40000000 0 0 0 0) (exceeds true) 0x3002 []
  -- CX, DX, -1: -2^15 * -1 is 2^15; what stands above CX is kept, and above DX it isn't read
  pub two_bytes : see (ImulBy Two Ecx (rm.Reg Edx) 0xFFFF) (registers 0 0x11220000 0x55668000 0 0 0 0) all_cleared 0 0 ≡ Now (registers 0 0x11228000 0x55668000 0 0 0 0) (exceeds true) 0x3002 []
  -- 0xA3A2A1A0 at 0x1000, times 0x100, without its highest byte
  pub from_memory : see (ImulBy Four Eax (memory_at 0x1000) 0x100) (registers 0 0 0 0 0 0 0) all_cleared 0 0 ≡ Now (registers 0xA2A1A000 0 0 0 0 0 0) (exceeds true) 0x3002 []
  -- the last two bytes that are mapped: 0xAFAE * 3 is 0x20F0A
  pub from_last_bytes : see (ImulBy Two Ecx (memory_at 0x100E) 3) (registers 0 0x11220000 0 0 0 0 0) all_cleared 0 0 ≡ Now (registers 0 0x11220F0A 0 0 0 0 0) (exceeds true) 0x3002 []
  -- ECX, ECX, 3
  pub by_itself : see (ImulBy Four Ecx (rm.Reg Ecx) 3) (registers 0 7 0 0 0 0 0) all_set 0 0 ≡ Now (registers 0 21 0 0 0 0 0) (exceeds false) 0x3002 []
  -- 0 times what is unspecified
  pub source_unspecified : see (ImulBy Four Ecx (rm.Reg Edx) 0) (words (word_of 0) (word_of 9) (unknown_below 0) (word_of 0)) all_set 0 0 ≡ Now (words (word_of 0) unknown (unknown_below 0) (word_of 0)) no_flags 0x3002 []
  pub load_faults : see (ImulBy Two Ecx (memory_at 0x5000) 3) (registers 0 0 0 0 0 0 0) all_set 0 0 ≡ Ended MemoryFault
  pub nowhere : see (ImulBy Two Ecx (memory_from Ecx 0) 3) (words (word_of 0) unknown (word_of 0) (word_of 0)) all_set 0 0 ≡ Ended Unspecified
