-- Worked steps of JMP, CLD and NOP (Intel SDM volume 2, "JMP", near; "CLD"; "NOP"). None of them affects a flag that is kept here. The
-- next instruction stands at 0x3002.
use Rattle.std.specs.Prelude.{◌≡◌, true, false, [], ◌∷◌, ◌++◌, Some, None}
use Rattle.traces.specs.Trace.{MemoryFault, Unspecified}
use Rattle.x86_types.specs.declared.instr.Instr.TheVariants.{Jmp, JmpTo, Cld, Nop}
use Rattle.x86_types.specs.declared.operand.Rm.TheVariants as rm
use Rattle.x86_types.specs.declared.operand.Reg.TheVariants.{Eax, Ecx, Esp}
use Rattle.x86_meaning.specs.StepRows.{five_flags, known_flags, all_set, all_cleared, unknown, unknown_below, bytes_of, Now, Ended, see}
use Rattle.x86_meaning.specs.RowParts.{absolute, based, indexed, distinct, with_word, with_value, lost}

pub record JmpRows : Type 0 where
  pub forth : see (Jmp 0x10) distinct all_set 0x8000 2 ≡ Now distinct all_set 0x3012 (bytes_of (0x50 ∷ 0x51 ∷ []))
  pub back : see (Jmp 0xFFFFFFFE) distinct all_cleared 0 0 ≡ Now distinct all_cleared 0x3000 []
  pub to_next : see (Jmp 0) distinct (known_flags false true false true false) 0 0 ≡ Now distinct (known_flags false true false true false) 0x3002 []
  -- to the last address, and one further
  pub last : see (Jmp 0xFFFFCFFD) distinct all_cleared 0 0 ≡ Now distinct all_cleared 0xFFFFFFFF []
  pub wraps : see (Jmp 0xFFFFCFFE) distinct all_cleared 0 0 ≡ Now distinct all_cleared 0 []
  -- nothing but esp is looked at
  pub unknown_registers : see (Jmp 0x5000) (with_word 0 unknown (with_word 5 unknown distinct)) (five_flags None None None None None) 0x1007 3 ≡ Now (with_word 0 unknown (with_word 5 unknown distinct)) (five_flags None None None None None) 0x8002 (bytes_of (0xA7 ∷ []) ++ (lost 1 ++ bytes_of (0xA9 ∷ [])))
  pub below_esp : see (Jmp 2) (with_value 4 0x8004 distinct) all_cleared 0x8003 2 ≡ Now (with_value 4 0x8004 distinct) all_cleared 0x3004 (lost 1 ++ bytes_of (0x54 ∷ []))
  pub unknown_esp : see (Jmp 2) (with_word 4 (unknown_below 0x8000) distinct) all_cleared 0 0 ≡ Ended Unspecified

pub record JmpToRows : Type 0 where
  pub register : see (JmpTo (rm.Reg Eax)) distinct (known_flags true false true false true) 0x8000 2 ≡ Now distinct (known_flags true false true false true) 0x11121314 (bytes_of (0x50 ∷ 0x51 ∷ []))
  pub last : see (JmpTo (rm.Reg Eax)) (with_value 0 0xFFFFFFFF distinct) all_cleared 0 0 ≡ Now (with_value 0 0xFFFFFFFF distinct) all_cleared 0xFFFFFFFF []
  pub memory : see (JmpTo (rm.Mem (absolute 0x2004))) distinct (five_flags None (Some true) None (Some true) None) 0 0 ≡ Now distinct (five_flags None (Some true) None (Some true) None) 0xC7C6C5C4 []
  -- [esp]: nothing is popped
  pub by_esp : see (JmpTo (rm.Mem (based Esp 0))) distinct all_cleared 0x8000 2 ≡ Now distinct all_cleared 0x53525150 (bytes_of (0x50 ∷ 0x51 ∷ []))
  -- [0x1000 + eax * 4]
  pub table : see (JmpTo (rm.Mem (indexed Ecx Eax 4 0))) (with_value 0 1 (with_value 1 0x1000 distinct)) all_cleared 0 0 ≡ Now (with_value 0 1 (with_value 1 0x1000 distinct)) all_cleared 0xA7A6A5A4 []
  -- one unspecified byte of a target, in a register and in memory
  pub unknown_register : see (JmpTo (rm.Reg Ecx)) (with_word 1 (unknown_below 0x4000) distinct) all_cleared 0 0 ≡ Ended Unspecified
  pub unknown_byte : see (JmpTo (rm.Mem (absolute 0x1005))) distinct all_cleared 0 0 ≡ Ended Unspecified
  -- a load fault comes before an unspecified target
  pub load_fault : see (JmpTo (rm.Mem (absolute 0x5000))) distinct all_cleared 0 0 ≡ Ended MemoryFault
  pub load_past : see (JmpTo (rm.Mem (absolute 0x100D))) distinct all_cleared 0 0 ≡ Ended MemoryFault
  -- and an unspecified address before a load fault
  pub unknown_base : see (JmpTo (rm.Mem (based Ecx 0x5000))) (with_word 1 (unknown_below 0) distinct) all_cleared 0 0 ≡ Ended Unspecified
  pub unknown_esp : see (JmpTo (rm.Reg Eax)) (with_word 4 (unknown_below 0x8000) distinct) all_cleared 0 0 ≡ Ended Unspecified

pub record CldRows : Type 0 where
  pub flags_set : see Cld distinct all_set 0x8000 2 ≡ Now distinct all_set 0x3002 (bytes_of (0x50 ∷ 0x51 ∷ []))
  pub flags_cleared : see Cld distinct all_cleared 0 0 ≡ Now distinct all_cleared 0x3002 []
  pub flags_unknown : see Cld distinct (five_flags None (Some true) (Some false) None (Some true)) 0 0 ≡ Now distinct (five_flags None (Some true) (Some false) None (Some true)) 0x3002 []
  pub unknown_registers : see Cld (with_word 6 unknown (with_word 7 unknown distinct)) all_cleared 0x1008 2 ≡ Now (with_word 6 unknown (with_word 7 unknown distinct)) all_cleared 0x3002 (lost 1 ++ bytes_of (0xA9 ∷ []))
  pub below_esp : see Cld (with_value 4 0x8006 distinct) all_cleared 0x8005 2 ≡ Now (with_value 4 0x8006 distinct) all_cleared 0x3002 (lost 1 ++ bytes_of (0x56 ∷ []))
  pub unknown_esp : see Cld (with_word 4 (unknown_below 0x8000) distinct) all_cleared 0 0 ≡ Ended Unspecified

pub record NopRows : Type 0 where
  pub flags_set : see Nop distinct all_set 0x8000 2 ≡ Now distinct all_set 0x3002 (bytes_of (0x50 ∷ 0x51 ∷ []))
  pub flags_cleared : see Nop distinct all_cleared 0 0 ≡ Now distinct all_cleared 0x3002 []
  pub flags_unknown : see Nop distinct (five_flags (Some true) None None (Some false) None) 0 0 ≡ Now distinct (five_flags (Some true) None None (Some false) None) 0x3002 []
  pub unknown_registers : see Nop (with_word 0 unknown (with_word 3 (unknown_below 0x4000) distinct)) all_cleared 0x1008 2 ≡ Now (with_word 0 unknown (with_word 3 (unknown_below 0x4000) distinct)) all_cleared 0x3002 (lost 1 ++ bytes_of (0xA9 ∷ []))
  -- of all memory only the stack is forgotten below esp
  pub below_esp : see Nop (with_value 4 0x9000 distinct) all_cleared 0x200E 2 ≡ Now (with_value 4 0x9000 distinct) all_cleared 0x3002 (bytes_of (0xCE ∷ 0xCF ∷ []))
  pub unknown_esp : see Nop (with_word 4 unknown distinct) all_cleared 0 0 ≡ Ended Unspecified
