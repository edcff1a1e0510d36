-- Worked steps of PUSH, POP and LEAVE (Intel SDM volume 2, "PUSH", "POP", "LEAVE"). None of them affects a flag. The stack of the
-- rows holds 0x53525150 at 0x8000, where ESP is, and 0x57565554 above it.
use Rattle.std.specs.Prelude.{◌≡◌, true, false, [], ◌∷◌, ◌++◌, Some, None}
use Rattle.traces.specs.Trace.{MemoryFault, Unspecified}
use Rattle.x86_values.specs.Words.{padded}
use Rattle.x86_types.specs.declared.instr.Instr.TheVariants.{Push, Pop, Leave}
use Rattle.x86_types.specs.declared.operand.Rm.TheVariants as rm
use Rattle.x86_types.specs.declared.operand.Src.TheVariants as src
use Rattle.x86_types.specs.declared.operand.Reg.TheVariants.{Eax, Ecx, Esp}
use Rattle.x86_meaning.specs.StepRows.{five_flags, known_flags, all_cleared, unknown, unknown_below, bytes_of, Now, Ended, see}
use Rattle.x86_meaning.specs.RowParts.{absolute, based, distinct, with_word, with_value, lost}

pub record PushRows : Type 0 where
  pub register : see (Push (src.Reg Eax)) distinct (known_flags true false true false true) 0x7FFB 6 ≡ Now (with_value 4 0x7FFC distinct) (known_flags true false true false true) 0x3002 (lost 1 ++ bytes_of (0x14 ∷ 0x13 ∷ 0x12 ∷ 0x11 ∷ 0x50 ∷ []))
  -- esp as it was before
  pub esp : see (Push (src.Reg Esp)) distinct all_cleared 0x7FFC 4 ≡ Now (with_value 4 0x7FFC distinct) all_cleared 0x3002 (bytes_of (0 ∷ 0x80 ∷ 0 ∷ 0 ∷ []))
  pub constant : see (Push (src.Imm 0xFFFFFFF0)) distinct all_cleared 0x7FFC 4 ≡ Now (with_value 4 0x7FFC distinct) all_cleared 0x3002 (bytes_of (0xF0 ∷ 0xFF ∷ 0xFF ∷ 0xFF ∷ []))
  pub memory : see (Push (src.Mem (absolute 0x1004))) distinct all_cleared 0x7FFC 4 ≡ Now (with_value 4 0x7FFC distinct) all_cleared 0x3002 (bytes_of (0xA4 ∷ 0xA5 ∷ 0xA6 ∷ 0xA7 ∷ []))
  -- [esp + 4]: the address is that by esp before
  pub by_esp : see (Push (src.Mem (based Esp 4))) distinct all_cleared 0x7FFC 4 ≡ Now (with_value 4 0x7FFC distinct) all_cleared 0x3002 (bytes_of (0x54 ∷ 0x55 ∷ 0x56 ∷ 0x57 ∷ []))
  pub unknown_byte : see (Push (src.Mem (absolute 0x1006))) distinct all_cleared 0x7FFC 4 ≡ Now (with_value 4 0x7FFC distinct) all_cleared 0x3002 (bytes_of (0xA6 ∷ 0xA7 ∷ []) ++ (lost 1 ++ bytes_of (0xA9 ∷ [])))
  pub unknown_register : see (Push (src.Reg Ecx)) (with_word 1 unknown distinct) (five_flags None (Some true) None (Some false) None) 0x7FFC 5 ≡ Now (with_word 1 unknown (with_value 4 0x7FFC distinct)) (five_flags None (Some true) None (Some false) None) 0x3002 (lost 4 ++ bytes_of (0x50 ∷ []))
  -- [0x1002], which overlaps the word below esp: it is read first. Memory beside the stack isn't forgotten below esp
  pub beside_stack : see (Push (src.Mem (absolute 0x1002))) (with_value 4 0x1008 distinct) all_cleared 0x1002 6 ≡ Now (with_value 4 0x1004 distinct) all_cleared 0x3002 (bytes_of (0xA2 ∷ 0xA3 ∷ 0xA2 ∷ 0xA3 ∷ 0xA4 ∷ 0xA5 ∷ []))
  pub load_fault : see (Push (src.Mem (absolute 0x5000))) distinct all_cleared 0 0 ≡ Ended MemoryFault
  -- where the stack can't be written; where nothing is mapped below it, and where only a part is
  pub store_fault : see (Push (src.Reg Eax)) (with_value 4 0x2008 distinct) all_cleared 0 0 ≡ Ended MemoryFault
  pub end_of_stack : see (Push (src.Imm 1)) (with_value 4 0x7FF0 distinct) all_cleared 0 0 ≡ Ended MemoryFault
  pub part_of_stack : see (Push (src.Imm 1)) (with_value 4 0x7FF3 distinct) all_cleared 0 0 ≡ Ended MemoryFault
  pub last_of_stack : see (Push (src.Imm 1)) (with_value 4 0x7FF4 distinct) all_cleared 0x7FF0 4 ≡ Now (with_value 4 0x7FF0 distinct) all_cleared 0x3002 (bytes_of (1 ∷ 0 ∷ 0 ∷ 0 ∷ []))
  -- unspecified addresses come before faults
  pub unknown_esp : see (Push (src.Mem (absolute 0x5000))) (with_word 4 (unknown_below 0x8000) distinct) all_cleared 0 0 ≡ Ended Unspecified
  pub unknown_base : see (Push (src.Mem (based Ecx 0x5000))) (with_word 1 (unknown_below 0) (with_value 4 0x2008 distinct)) all_cleared 0 0 ≡ Ended Unspecified

pub record PopRows : Type 0 where
  pub register : see (Pop (rm.Reg Eax)) distinct (known_flags false true false true false) 0x8002 4 ≡ Now (with_value 0 0x53525150 (with_value 4 0x8004 distinct)) (known_flags false true false true false) 0x3002 (lost 2 ++ bytes_of (0x54 ∷ 0x55 ∷ []))
  -- esp is what was popped, and not 4 above it
  pub esp : see (Pop (rm.Reg Esp)) distinct all_cleared 0x800E 2 ≡ Now (with_value 4 0x53525150 distinct) all_cleared 0x3002 (lost 2)
  pub memory : see (Pop (rm.Mem (absolute 0x1002))) distinct all_cleared 0x1001 6 ≡ Now (with_value 4 0x8004 distinct) all_cleared 0x3002 (bytes_of (0xA1 ∷ 0x50 ∷ 0x51 ∷ 0x52 ∷ 0x53 ∷ 0xA6 ∷ []))
  -- [esp + 4]: the address is that by the raised esp
  pub by_esp : see (Pop (rm.Mem (based Esp 4))) distinct all_cleared 0x8003 10 ≡ Now (with_value 4 0x8004 distinct) all_cleared 0x3002 (lost 1 ++ bytes_of (0x54 ∷ 0x55 ∷ 0x56 ∷ 0x57 ∷ 0x50 ∷ 0x51 ∷ 0x52 ∷ 0x53 ∷ 0x5C ∷ []))
  pub by_another : see (Pop (rm.Mem (based Ecx 4))) (with_value 1 0x8004 distinct) all_cleared 0x8007 3 ≡ Now (with_value 1 0x8004 (with_value 4 0x8004 distinct)) all_cleared 0x3002 (bytes_of (0x57 ∷ 0x50 ∷ 0x51 ∷ []))
  -- an unspecified value ends nothing, but in esp
  pub unknown_bytes : see (Pop (rm.Reg Ecx)) (with_value 4 0x7FFE distinct) (five_flags (Some true) None (Some true) None (Some true)) 0x8001 2 ≡ Now (with_word 1 (padded (lost 2 ++ bytes_of (0x50 ∷ 0x51 ∷ []))) (with_value 4 0x8002 distinct)) (five_flags (Some true) None (Some true) None (Some true)) 0x3002 (lost 1 ++ bytes_of (0x52 ∷ []))
  pub unknown_to_memory : see (Pop (rm.Mem (absolute 0x1000))) (with_value 4 0x7FFF distinct) all_cleared 0x1000 5 ≡ Now (with_value 4 0x8003 distinct) all_cleared 0x3002 (lost 1 ++ bytes_of (0x50 ∷ 0x51 ∷ 0x52 ∷ 0xA4 ∷ []))
  pub unknown_to_esp : see (Pop (rm.Reg Esp)) (with_value 4 0x7FFF distinct) all_cleared 0 0 ≡ Ended Unspecified
  -- what can't be written can be popped
  pub constant : see (Pop (rm.Reg Eax)) (with_value 4 0x2004 distinct) all_cleared 0 0 ≡ Now (with_value 0 0xC7C6C5C4 (with_value 4 0x2008 distinct)) all_cleared 0x3002 []
  pub load_fault : see (Pop (rm.Reg Eax)) (with_value 4 0x5000 distinct) all_cleared 0 0 ≡ Ended MemoryFault
  pub end_of_stack : see (Pop (rm.Reg Eax)) (with_value 4 0x800D distinct) all_cleared 0 0 ≡ Ended MemoryFault
  pub last_of_stack : see (Pop (rm.Reg Eax)) (with_value 4 0x800C distinct) all_cleared 0 0 ≡ Now (with_value 0 0x5F5E5D5C (with_value 4 0x8010 distinct)) all_cleared 0x3002 []
  pub store_fault : see (Pop (rm.Mem (absolute 0x2000))) distinct all_cleared 0 0 ≡ Ended MemoryFault
  pub store_nothing : see (Pop (rm.Mem (absolute 0x5000))) distinct all_cleared 0 0 ≡ Ended MemoryFault
  -- unspecified addresses come before faults
  pub unknown_esp : see (Pop (rm.Mem (absolute 0x5000))) (with_word 4 (unknown_below 0x8000) distinct) all_cleared 0 0 ≡ Ended Unspecified
  pub unknown_base : see (Pop (rm.Mem (based Ecx 0x1000))) (with_word 1 (unknown_below 0) (with_value 4 0x5000 distinct)) all_cleared 0 0 ≡ Ended Unspecified

pub record LeaveRows : Type 0 where
  -- ebp is what stands where it pointed, and esp is above that
  pub stack : see Leave (with_value 5 0x8004 distinct) (known_flags true true false false true) 0x8007 2 ≡ Now (with_value 4 0x8008 (with_value 5 0x57565554 distinct)) (known_flags true true false false true) 0x3002 (lost 1 ++ bytes_of (0x58 ∷ []))
  -- esp before the step isn't looked at: nothing is mapped there, or all of it is unspecified
  pub other_esp : see Leave (with_value 4 0x5000 (with_value 5 0x1004 distinct)) all_cleared 0x1004 5 ≡ Now (with_value 4 0x1008 (with_value 5 0xA7A6A5A4 distinct)) all_cleared 0x3002 (bytes_of (0xA4 ∷ 0xA5 ∷ 0xA6 ∷ 0xA7 ∷ []) ++ lost 1)
  pub unknown_esp : see Leave (with_word 4 unknown (with_value 5 0x8000 distinct)) all_cleared 0 0 ≡ Now (with_value 4 0x8004 (with_value 5 0x53525150 distinct)) all_cleared 0x3002 []
  -- what is popped may be unspecified
  pub unknown_bytes : see Leave (with_value 5 0x7FFD distinct) (five_flags None None None None None) 0x8000 2 ≡ Now (with_value 4 0x8001 (with_word 5 (padded (lost 3 ++ bytes_of (0x50 ∷ []))) distinct)) (five_flags None None None None None) 0x3002 (lost 1 ++ bytes_of (0x51 ∷ []))
  pub constant : see Leave (with_value 5 0x2000 distinct) all_cleared 0 0 ≡ Now (with_value 4 0x2004 (with_value 5 0xC3C2C1C0 distinct)) all_cleared 0x3002 []
  pub load_fault : see Leave (with_value 5 0x5000 distinct) all_cleared 0 0 ≡ Ended MemoryFault
  pub load_past : see Leave (with_value 5 0x100D distinct) all_cleared 0 0 ≡ Ended MemoryFault
  -- one unspecified byte of ebp, where each address would fault
  pub unknown_ebp : see Leave (with_word 5 (unknown_below 0x5000) distinct) all_cleared 0 0 ≡ Ended Unspecified
