-- Worked steps of BSF and BSR (Intel SDM volume 2): ZF alone is known after them.
use Rattle.std.specs.Prelude.{◌≡◌, Bool, true, false, [], Some, None}
use Rattle.x86_values.specs.declared.word.Flags.{Flags}
use Rattle.x86_values.specs.Words.{word_of}
use Rattle.x86_values.specs.Results.{no_flags}
use Rattle.traces.specs.Trace.{MemoryFault, Unspecified}
use Rattle.x86_types.specs.declared.instr.Instr.TheVariants.{Bsf, Bsr}
use Rattle.x86_types.specs.declared.operand.Rm.TheVariants as rm
use Rattle.x86_types.specs.declared.operand.Reg.TheVariants.{Eax, Ecx, Ebx, Esp}
use Rattle.x86_types.specs.declared.width.Width.TheVariants.{Two, Four}
use Rattle.x86_meaning.specs.StepRows.{five_flags, all_set, all_cleared, unknown, unknown_below, registers, Now, Ended, see}
use Rattle.x86_meaning.specs.RowWords.{memory_at, memory_from, words, unknown_half, unknown_highest}

abbrev pub zero_flag : Bool → Flags
zero_flag z = five_flags None None (Some z) None None

pub record BsfRows : Type 0 where
  -- EAX, ECX: bit 13 is the lowest; EAX isn't read
  pub between : see (Bsf Four Eax (rm.Reg Ecx)) (words unknown (word_of 0x8001A000) (word_of 0) (word_of 0)) all_set 0 0 ≡ Now (registers 13 0x8001A000 0 0 0 0 0) (zero_flag false) 0x3002 []
  pub lowest : see (Bsf Four Eax (rm.Reg Ecx)) (registers 0xFFFFFFFF 0xFFFFFFFF 0 0 0 0 0) all_set 0 0 ≡ Now (registers 0 0xFFFFFFFF 0 0 0 0 0) (zero_flag false) 0x3002 []
  pub highest : see (Bsf Four Eax (rm.Reg Ecx)) (registers 0 0x80000000 0 0 0 0 0) all_cleared 0 0 ≡ Now (registers 31 0x80000000 0 0 0 0 0) (zero_flag false) 0x3002 []
  -- none: the target is unspecified
  pub none : see (Bsf Four Eax (rm.Reg Ecx)) (registers 7 0 0 0 0 0 0) all_cleared 0 0 ≡ Now (words unknown (word_of 0) (word_of 0) (word_of 0)) (zero_flag true) 0x3002 []
  -- AX, CX: what stands above is kept
  pub two_bytes : see (Bsf Two Eax (rm.Reg Ecx)) (registers 0x11223344 0xFFFF8000 0 0 0 0 0) all_set 0 0 ≡ Now (registers 0x1122000F 0xFFFF8000 0 0 0 0 0) (zero_flag false) 0x3002 []
  -- no bit of CX, but of ECX
  pub two_bytes_none : see (Bsf Two Eax (rm.Reg Ecx)) (registers 0x11223344 0x10000 0 0 0 0 0) all_cleared 0 0 ≡ Now (words (unknown_half 0x11223344) (word_of 0x10000) (word_of 0) (word_of 0)) (zero_flag true) 0x3002 []
  -- EAX, EAX
  pub of_target : see (Bsf Four Eax (rm.Reg Eax)) (registers 0x30 0 0 0 0 0 0) all_set 0 0 ≡ Now (registers 4 0 0 0 0 0 0) (zero_flag false) 0x3002 []
  -- 0xA3A2A1A0 at 0x1000, and 0xAFAE in the last two bytes that are mapped
  pub of_memory : see (Bsf Four Eax (memory_at 0x1000)) (registers 0 0 0 0 0 0 0) all_set 0 0 ≡ Now (registers 5 0 0 0 0 0 0) (zero_flag false) 0x3002 []
  pub of_last_bytes : see (Bsf Two Eax (memory_at 0x100E)) (registers 0x11220000 0 0 0 0 0 0) all_set 0 0 ≡ Now (registers 0x11220001 0 0 0 0 0 0) (zero_flag false) 0x3002 []
  -- the lowest bit is known, but not each byte
  pub unspecified : see (Bsf Four Eax (rm.Reg Ecx)) (words (word_of 0) (unknown_highest 1) (word_of 0) (word_of 0)) all_set 0 0 ≡ Now (words unknown (unknown_highest 1) (word_of 0) (word_of 0)) no_flags 0x3002 []
  -- a byte above CX
  pub above_unspecified : see (Bsf Two Eax (rm.Reg Ecx)) (words (word_of 0) (unknown_highest 8) (word_of 0) (word_of 0)) all_set 0 0 ≡ Now (words (word_of 3) (unknown_highest 8) (word_of 0) (word_of 0)) (zero_flag false) 0x3002 []
  pub load_faults : see (Bsf Four Eax (memory_at 0x100E)) (registers 0 0 0 0 0 0 0) all_set 0 0 ≡ Ended MemoryFault
  pub nowhere : see (Bsf Four Eax (memory_from Ebx 0)) (words (word_of 0) (word_of 0) (word_of 0) (unknown_below 0x5000)) all_set 0 0 ≡ Ended Unspecified

pub record BsrRows : Type 0 where
  -- EAX, ECX: bit 16 is the highest; EAX isn't read
  pub between : see (Bsr Four Eax (rm.Reg Ecx)) (words unknown (word_of 0x12345) (word_of 0) (word_of 0)) all_set 0 0 ≡ Now (registers 16 0x12345 0 0 0 0 0) (zero_flag false) 0x3002 []
  pub lowest : see (Bsr Four Eax (rm.Reg Ecx)) (registers 7 1 0 0 0 0 0) all_set 0 0 ≡ Now (registers 0 1 0 0 0 0 0) (zero_flag false) 0x3002 []
  pub highest : see (Bsr Four Eax (rm.Reg Ecx)) (registers 0 0x80000001 0 0 0 0 0) all_cleared 0 0 ≡ Now (registers 31 0x80000001 0 0 0 0 0) (zero_flag false) 0x3002 []
  pub none : see (Bsr Four Eax (rm.Reg Ecx)) (registers 7 0 0 0 0 0 0) all_cleared 0 0 ≡ Now (words unknown (word_of 0) (word_of 0) (word_of 0)) (zero_flag true) 0x3002 []
  -- AX, CX: what stands above is kept, and isn't read
  pub two_bytes : see (Bsr Two Eax (rm.Reg Ecx)) (registers 0x11223344 0xFFFF4001 0 0 0 0 0) all_set 0 0 ≡ Now (registers 0x1122000E 0xFFFF4001 0 0 0 0 0) (zero_flag false) 0x3002 []
  pub two_bytes_none : see (Bsr Two Eax (rm.Reg Ecx)) (registers 0x11223344 0x80000000 0 0 0 0 0) all_cleared 0 0 ≡ Now (words (unknown_half 0x11223344) (word_of 0x80000000) (word_of 0) (word_of 0)) (zero_flag true) 0x3002 []
  -- [ESP] is 0x53525150, and the last two bytes that are mapped are 0xAFAE
  pub of_stack : see (Bsr Four Eax (memory_from Esp 0)) (registers 0 0 0 0 0 0 0) all_set 0 0 ≡ Now (registers 30 0 0 0 0 0 0) (zero_flag false) 0x3002 []
  pub of_last_bytes : see (Bsr Two Eax (memory_at 0x100E)) (registers 0 0 0 0 0 0 0) all_set 0 0 ≡ Now (registers 15 0 0 0 0 0 0) (zero_flag false) 0x3002 []
  -- the highest bit is known, but not each byte
  pub unspecified : see (Bsr Four Eax (rm.Reg Ecx)) (words (word_of 0) (unknown_below 0x80000000) (word_of 0) (word_of 0)) all_set 0 0 ≡ Now (words unknown (unknown_below 0x80000000) (word_of 0) (word_of 0)) no_flags 0x3002 []
  -- of AX two bytes become so, and what stands above is kept
  pub two_bytes_unspecified : see (Bsr Two Eax (memory_at 0x1007)) (registers 0x11223344 0 0 0 0 0 0) all_set 0 0 ≡ Now (words (unknown_half 0x11223344) (word_of 0) (word_of 0) (word_of 0)) no_flags 0x3002 []
  pub load_faults : see (Bsr Two Eax (memory_at 0x5000)) (registers 0 0 0 0 0 0 0) all_set 0 0 ≡ Ended MemoryFault
  pub nowhere : see (Bsr Two Eax (memory_from Ebx 0)) (words (word_of 0) (word_of 0) (word_of 0) unknown) all_set 0 0 ≡ Ended Unspecified
