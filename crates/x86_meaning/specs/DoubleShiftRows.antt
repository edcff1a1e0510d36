-- Worked steps of SHLD and SHRD (Intel SDM volume 2).
use Rattle.std.specs.Prelude.{◌≡◌, true, false, [], ◌∷◌, Some, None}
use Rattle.x86_values.specs.declared.byte.Byte.TheVariants as byte
use Rattle.x86_values.specs.Words.{word_of}
use Rattle.x86_values.specs.Results.{no_flags}
use Rattle.traces.specs.Trace.{MemoryFault, Unspecified}
use Rattle.x86_types.specs.declared.instr.Instr.TheVariants.{Shld, Shrd}
use Rattle.x86_types.specs.declared.operation.Count.TheVariants as count
use Rattle.x86_types.specs.declared.operand.Rm.TheVariants as rm
use Rattle.x86_types.specs.declared.operand.Reg.TheVariants.{Eax, Ecx, Edx, Ebx}
use Rattle.x86_meaning.specs.StepRows.{five_flags, known_flags, all_set, all_cleared, bytes_of, unknown, unknown_below, registers, Now, Ended, see}
use Rattle.x86_meaning.specs.RowWords.{memory_at, memory_from, words, unknown_second, unknown_highest}

pub record ShldRows : Type 0 where
  -- EAX, EDX, 4: bit 28 of EAX leaves last, the highest four bits of EDX enter, and EDX is kept
  pub by_four : see (Shld (rm.Reg Eax) Edx (count.Imm 4)) (registers 0x12345678 0 0x9ABCDEF0 0 0 0 0) all_cleared 0 0 ≡ Now (registers 0x23456789 0 0x9ABCDEF0 0 0 0 0) (five_flags (Some true) (Some false) (Some false) (Some false) None) 0x3002 []
  -- 1: the sign changes to 1, and to 0, or stays
  pub by_one_to_sign : see (Shld (rm.Reg Eax) Edx (count.Imm 1)) (registers 0x40000001 0 0x80000000 0 0 0 0) all_set 0 0 ≡ Now (registers 0x80000003 0 0x80000000 0 0 0 0) (known_flags false true false true true) 0x3002 []
  pub by_one_to_zero : see (Shld (rm.Reg Eax) Edx (count.Imm 1)) (registers 0x80000000 0 0x7FFFFFFF 0 0 0 0) all_cleared 0 0 ≡ Now (registers 0 0 0x7FFFFFFF 0 0 0 0) (known_flags true true true false true) 0x3002 []
  pub by_one_keeps_sign : see (Shld (rm.Reg Eax) Edx (count.Imm 1)) (registers 0xC0000000 0 0x80000000 0 0 0 0) all_set 0 0 ≡ Now (registers 0x80000001 0 0x80000000 0 0 0 0) (known_flags true false false true false) 0x3002 []
  -- 31: bit 1 of EAX leaves last, and the lowest bit of EDX alone doesn't enter
  pub by_thirty_one : see (Shld (rm.Reg Eax) Edx (count.Imm 31)) (registers 2 0 0xFFFFFFFF 0 0 0 0) all_cleared 0 0 ≡ Now (registers 0x7FFFFFFF 0 0xFFFFFFFF 0 0 0 0) (five_flags (Some true) (Some true) (Some false) (Some false) None) 0x3002 []
  -- CL: 40 is 8, and bit 24 of EAX leaves last; above CL nothing is read
  pub by_register : see (Shld (rm.Reg Eax) Edx count.Cl) (words (word_of 0x15345678) (unknown_second 0x28) (word_of 0x9ABCDEF0) (word_of 0)) all_set 0 0 ≡ Now (words (word_of 0x3456789A) (unknown_second 0x28) (word_of 0x9ABCDEF0) (word_of 0)) (five_flags (Some true) (Some true) (Some false) (Some false) None) 0x3002 []
  -- ECX fills, by its own lowest byte
  pub filler_counts : see (Shld (rm.Reg Eax) Ecx count.Cl) (registers 0 0x80000001 0 0 0 0 0) all_set 0 0 ≡ Now (registers 1 0x80000001 0 0 0 0 0) (known_flags false false false false false) 0x3002 []
  -- EAX, EAX rotates
  pub by_itself : see (Shld (rm.Reg Eax) Eax (count.Imm 8)) (registers 0x12345678 0 0 0 0 0 0) all_set 0 0 ≡ Now (registers 0x34567812 0 0 0 0 0 0) (five_flags (Some false) (Some true) (Some false) (Some false) None) 0x3002 []
  -- 0 and 32 keep what is unspecified, and all flags
  pub by_zero : see (Shld (rm.Reg Eax) Edx (count.Imm 0)) (words (unknown_below 0x11223344) (word_of 0) unknown (word_of 0)) all_set 0 0 ≡ Now (words (unknown_below 0x11223344) (word_of 0) unknown (word_of 0)) all_set 0x3002 []
  pub by_thirty_two : see (Shld (rm.Reg Eax) Edx count.Cl) (registers 5 0x20 7 0 0 0 0) all_set 0 0 ≡ Now (registers 5 0x20 7 0 0 0 0) all_set 0x3002 []
  pub operand_unspecified : see (Shld (rm.Reg Eax) Edx (count.Imm 8)) (words (unknown_highest 0) (word_of 0) (word_of 0) (word_of 0)) all_set 0 0 ≡ Now (words unknown (word_of 0) (word_of 0) (word_of 0)) no_flags 0x3002 []
  pub filler_unspecified : see (Shld (rm.Reg Eax) Edx (count.Imm 8)) (words (word_of 0) (word_of 0) (unknown_below 0) (word_of 0)) all_set 0 0 ≡ Now (words unknown (word_of 0) (unknown_below 0) (word_of 0)) no_flags 0x3002 []
  pub count_unspecified : see (Shld (rm.Reg Eax) Edx count.Cl) (words (word_of 0) (unknown_below 8) (word_of 0) (word_of 0)) all_set 0 0 ≡ Now (words unknown (unknown_below 8) (word_of 0) (word_of 0)) no_flags 0x3002 []
  -- 0xA3A2A1A0 is 0xA2A1A011; the byte behind it is kept
  pub in_memory : see (Shld (memory_at 0x1000) Edx (count.Imm 8)) (registers 0 0 0x11223344 0 0 0 0) all_cleared 0x1000 5 ≡ Now (registers 0 0 0x11223344 0 0 0 0) (five_flags (Some true) (Some true) (Some false) (Some true) None) 0x3002 (bytes_of (0x11 ∷ 0xA0 ∷ 0xA1 ∷ 0xA2 ∷ 0xA4 ∷ []))
  -- whatever the count is
  pub store_faults : see (Shld (memory_at 0x2000) Edx (count.Imm 32)) (registers 0 0 0 0 0 0 0) all_set 0 0 ≡ Ended MemoryFault
  pub load_faults : see (Shld (memory_at 0x100D) Edx (count.Imm 1)) (registers 0 0 0 0 0 0 0) all_set 0 0 ≡ Ended MemoryFault
  pub nowhere : see (Shld (memory_from Ebx 0) Edx (count.Imm 1)) (words (word_of 0) (word_of 0) (word_of 0) (unknown_below 0x5000)) all_set 0 0 ≡ Ended Unspecified

pub record ShrdRows : Type 0 where
  -- EAX, EDX, 4: bit 3 of EAX leaves last, the lowest four bits of EDX enter, and EDX is kept
  pub by_four : see (Shrd (rm.Reg Eax) Edx (count.Imm 4)) (registers 0x12345678 0 0x9ABCDEF5 0 0 0 0) all_cleared 0 0 ≡ Now (registers 0x51234567 0 0x9ABCDEF5 0 0 0 0) (five_flags (Some true) (Some false) (Some false) (Some false) None) 0x3002 []
  -- 1: the sign changes to 1, and to 0, or stays
  pub by_one_to_sign : see (Shrd (rm.Reg Eax) Edx (count.Imm 1)) (registers 1 0 1 0 0 0 0) all_cleared 0 0 ≡ Now (registers 0x80000000 0 1 0 0 0 0) (known_flags true true false true true) 0x3002 []
  pub by_one_from_sign : see (Shrd (rm.Reg Eax) Edx (count.Imm 1)) (registers 0x80000002 0 0xFFFFFFFE 0 0 0 0) all_set 0 0 ≡ Now (registers 0x40000001 0 0xFFFFFFFE 0 0 0 0) (known_flags false false false false true) 0x3002 []
  pub by_one_keeps_sign : see (Shrd (rm.Reg Eax) Edx (count.Imm 1)) (registers 0x80000000 0 1 0 0 0 0) all_set 0 0 ≡ Now (registers 0xC0000000 0 1 0 0 0 0) (known_flags false true false true false) 0x3002 []
  pub by_one_to_zero : see (Shrd (rm.Reg Eax) Edx (count.Imm 1)) (registers 1 0 0 0 0 0 0) all_cleared 0 0 ≡ Now (registers 0 0 0 0 0 0 0) (known_flags true true true false false) 0x3002 []
  -- 31: bit 30 of EAX leaves last, and the highest bit of EDX alone doesn't enter
  pub by_thirty_one : see (Shrd (rm.Reg Eax) Edx (count.Imm 31)) (registers 0x40000000 0 0xFFFFFFFF 0 0 0 0) all_cleared 0 0 ≡ Now (registers 0xFFFFFFFE 0 0xFFFFFFFF 0 0 0 0) (five_flags (Some true) (Some false) (Some false) (Some true) None) 0x3002 []
  -- CL: 40 is 8
  pub by_register : see (Shrd (rm.Reg Eax) Edx count.Cl) (registers 0x12345678 0xFFFFFF28 0x9ABCDEF0 0 0 0 0) all_set 0 0 ≡ Now (registers 0xF0123456 0xFFFFFF28 0x9ABCDEF0 0 0 0 0) (five_flags (Some false) (Some true) (Some false) (Some true) None) 0x3002 []
  -- 0 keeps what is unspecified, and all flags
  pub by_zero : see (Shrd (rm.Reg Eax) Edx count.Cl) (words (unknown_below 0x11223344) (word_of 0xC0) unknown (word_of 0)) all_set 0 0 ≡ Now (words (unknown_below 0x11223344) (word_of 0xC0) unknown (word_of 0)) all_set 0x3002 []
  pub operand_unspecified : see (Shrd (rm.Reg Eax) Edx (count.Imm 8)) (words (unknown_below 0) (word_of 0) (word_of 0) (word_of 0)) all_set 0 0 ≡ Now (words unknown (word_of 0) (word_of 0) (word_of 0)) no_flags 0x3002 []
  pub filler_unspecified : see (Shrd (rm.Reg Eax) Edx (count.Imm 8)) (words (word_of 0) (word_of 0) (unknown_highest 0) (word_of 0)) all_set 0 0 ≡ Now (words unknown (word_of 0) (unknown_highest 0) (word_of 0)) no_flags 0x3002 []
  pub count_unspecified : see (Shrd (rm.Reg Eax) Edx count.Cl) (words (word_of 0) (unknown_below 8) (word_of 0) (word_of 0)) all_set 0 0 ≡ Now (words unknown (unknown_below 8) (word_of 0) (word_of 0)) no_flags 0x3002 []
  -- 0xA3A2A1A0 is 0x44A3A2A1; the byte behind it is kept
  pub in_memory : see (Shrd (memory_at 0x1000) Edx (count.Imm 8)) (registers 0 0 0x11223344 0 0 0 0) all_cleared 0x1000 5 ≡ Now (registers 0 0 0x11223344 0 0 0 0) (five_flags (Some true) (Some false) (Some false) (Some false) None) 0x3002 (bytes_of (0xA1 ∷ 0xA2 ∷ 0xA3 ∷ 0x44 ∷ 0xA4 ∷ []))
  -- 0xA8 to 0xAB stand at 0x1008, the first of them unspecified
  pub memory_unspecified : see (Shrd (memory_at 0x1008) Edx (count.Imm 8)) (registers 0 0 0 0 0 0 0) all_set 0x1007 6 ≡ Now (registers 0 0 0 0 0 0 0) no_flags 0x3002 (byte.Known 0xA7 ∷ byte.Unspecified ∷ byte.Unspecified ∷ byte.Unspecified ∷ byte.Unspecified ∷ byte.Known 0xAC ∷ [])
  pub store_faults : see (Shrd (memory_at 0x2000) Edx (count.Imm 1)) (registers 0 0 0 0 0 0 0) all_set 0 0 ≡ Ended MemoryFault
  pub load_faults : see (Shrd (memory_at 0x5000) Edx count.Cl) (words (word_of 0) unknown (word_of 0) (word_of 0)) all_set 0 0 ≡ Ended MemoryFault
  pub nowhere : see (Shrd (memory_from Ebx 0) Edx (count.Imm 1)) (words (word_of 0) (word_of 0) (word_of 0) (unknown_highest 0)) all_set 0 0 ≡ Ended Unspecified
