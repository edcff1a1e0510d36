-- Worked steps of CALL and RET (Intel SDM volume 2, "CALL", "RET", near). None of them affects a flag. The next instruction stands at
-- 0x3002; the stack of the rows holds 0x53525150 at 0x8000, where ESP is.
use Rattle.std.specs.Prelude.{◌≡◌, true, false, [], ◌∷◌, ◌++◌, Some, None}
use Rattle.traces.specs.Trace.{MemoryFault, Unspecified}
use Rattle.x86_types.specs.declared.instr.Instr.TheVariants.{Call, CallTo, Ret}
use Rattle.x86_types.specs.declared.operand.Rm.TheVariants as rm
use Rattle.x86_types.specs.declared.operand.Reg.TheVariants.{Eax, Ecx, Esp}
use Rattle.x86_meaning.specs.StepRows.{five_flags, known_flags, all_cleared, unknown_below, bytes_of, Now, Ended, see}
use Rattle.x86_meaning.specs.RowParts.{absolute, based, indexed, distinct, with_word, with_value, lost}

-- by so much from the next instruction, whose address is pushed
pub record CallByRows : Type 0 where
  pub forth : see (Call 0x10) distinct (known_flags true false true false true) 0x7FFB 6 ≡ Now (with_value 4 0x7FFC distinct) (known_flags true false true false true) 0x3012 (lost 1 ++ bytes_of (0x02 ∷ 0x30 ∷ 0 ∷ 0 ∷ 0x50 ∷ []))
  pub back : see (Call 0xFFFFFFFE) distinct all_cleared 0x7FFC 4 ≡ Now (with_value 4 0x7FFC distinct) all_cleared 0x3000 (bytes_of (0x02 ∷ 0x30 ∷ 0 ∷ 0 ∷ []))
  pub to_next : see (Call 0) distinct (five_flags None (Some false) None (Some true) None) 0x7FFC 4 ≡ Now (with_value 4 0x7FFC distinct) (five_flags None (Some false) None (Some true) None) 0x3002 (bytes_of (0x02 ∷ 0x30 ∷ 0 ∷ 0 ∷ []))
  -- 0x3002 + 0xFFFFD000
  pub wraps : see (Call 0xFFFFD000) distinct all_cleared 0 0 ≡ Now (with_value 4 0x7FFC distinct) all_cleared 2 []
  pub beside_stack : see (Call 1) (with_value 4 0x1008 distinct) all_cleared 0x1003 5 ≡ Now (with_value 4 0x1004 distinct) all_cleared 0x3003 (bytes_of (0xA3 ∷ 0x02 ∷ 0x30 ∷ 0 ∷ 0 ∷ []))
  pub store_fault : see (Call 0x10) (with_value 4 0x2004 distinct) all_cleared 0 0 ≡ Ended MemoryFault
  pub part_of_stack : see (Call 0x10) (with_value 4 0x7FF3 distinct) all_cleared 0 0 ≡ Ended MemoryFault
  pub unknown_esp : see (Call 0x10) (with_word 4 (unknown_below 0x5000) distinct) all_cleared 0 0 ≡ Ended Unspecified

pub record CallToRows : Type 0 where
  pub register : see (CallTo (rm.Reg Eax)) distinct (known_flags false true false true false) 0x7FFB 6 ≡ Now (with_value 4 0x7FFC distinct) (known_flags false true false true false) 0x11121314 (lost 1 ++ bytes_of (0x02 ∷ 0x30 ∷ 0 ∷ 0 ∷ 0x50 ∷ []))
  -- esp as it was before
  pub esp : see (CallTo (rm.Reg Esp)) distinct all_cleared 0x7FFC 4 ≡ Now (with_value 4 0x7FFC distinct) all_cleared 0x8000 (bytes_of (0x02 ∷ 0x30 ∷ 0 ∷ 0 ∷ []))
  pub memory : see (CallTo (rm.Mem (absolute 0x1004))) distinct all_cleared 0x7FFC 4 ≡ Now (with_value 4 0x7FFC distinct) all_cleared 0xA7A6A5A4 (bytes_of (0x02 ∷ 0x30 ∷ 0 ∷ 0 ∷ []))
  -- [esp]: the address is that by esp before
  pub by_esp : see (CallTo (rm.Mem (based Esp 0))) distinct all_cleared 0x7FFC 5 ≡ Now (with_value 4 0x7FFC distinct) all_cleared 0x53525150 (bytes_of (0x02 ∷ 0x30 ∷ 0 ∷ 0 ∷ 0x50 ∷ []))
  -- [0x1000 + eax * 4]
  pub table : see (CallTo (rm.Mem (indexed Ecx Eax 4 0))) (with_value 0 3 (with_value 1 0x1000 distinct)) all_cleared 0 0 ≡ Now (with_value 0 3 (with_value 1 0x1000 (with_value 4 0x7FFC distinct))) all_cleared 0xAFAEADAC []
  -- the target is read before the return address is pushed in its place
  pub overwritten : see (CallTo (rm.Mem (absolute 0x1004))) (with_value 4 0x1008 distinct) all_cleared 0x1004 4 ≡ Now (with_value 4 0x1004 distinct) all_cleared 0xA7A6A5A4 (bytes_of (0x02 ∷ 0x30 ∷ 0 ∷ 0 ∷ []))
  -- a load fault, where the target would be unspecified too
  pub load_fault : see (CallTo (rm.Mem (absolute 0x5000))) distinct all_cleared 0 0 ≡ Ended MemoryFault
  -- one unspecified byte of a target, before the push that would fault
  pub unknown_byte : see (CallTo (rm.Mem (absolute 0x1005))) (with_value 4 0x2004 distinct) all_cleared 0 0 ≡ Ended Unspecified
  pub unknown_register : see (CallTo (rm.Reg Ecx)) (with_word 1 (unknown_below 0x4000) (with_value 4 0x2004 distinct)) all_cleared 0 0 ≡ Ended Unspecified
  pub store_fault : see (CallTo (rm.Reg Eax)) (with_value 4 0x2004 distinct) all_cleared 0 0 ≡ Ended MemoryFault
  -- unspecified addresses come before faults
  pub unknown_esp : see (CallTo (rm.Mem (absolute 0x5000))) (with_word 4 (unknown_below 0x8000) distinct) all_cleared 0 0 ≡ Ended Unspecified
  pub unknown_base : see (CallTo (rm.Mem (based Ecx 0x5000))) (with_word 1 (unknown_below 0) distinct) all_cleared 0 0 ≡ Ended Unspecified

pub record RetRows : Type 0 where
  pub plain : see (Ret 0) distinct (known_flags true true false false true) 0x8003 2 ≡ Now (with_value 4 0x8004 distinct) (known_flags true true false false true) 0x53525150 (lost 1 ++ bytes_of (0x54 ∷ []))
  -- bytes are dropped behind the address, and aren't looked at
  pub drops : see (Ret 8) distinct (five_flags (Some false) None (Some false) None (Some false)) 0x800B 2 ≡ Now (with_value 4 0x800C distinct) (five_flags (Some false) None (Some false) None (Some false)) 0x53525150 (lost 1 ++ bytes_of (0x5C ∷ []))
  pub drops_most : see (Ret 0xFFFF) distinct all_cleared 0 0 ≡ Now (with_value 4 0x18003 distinct) all_cleared 0x53525150 []
  -- what can't be written can be popped
  pub constant : see (Ret 2) (with_value 4 0x2008 distinct) all_cleared 0 0 ≡ Now (with_value 4 0x200E distinct) all_cleared 0xCBCAC9C8 []
  pub last_of_stack : see (Ret 0) (with_value 4 0x800C distinct) all_cleared 0 0 ≡ Now (with_value 4 0x8010 distinct) all_cleared 0x5F5E5D5C []
  pub load_fault : see (Ret 0) (with_value 4 0x5000 distinct) all_cleared 0 0 ≡ Ended MemoryFault
  -- the last byte isn't mapped
  pub end_of_stack : see (Ret 0) (with_value 4 0x800D distinct) all_cleared 0 0 ≡ Ended MemoryFault
  -- one unspecified byte of the target, and of esp
  pub unknown_target : see (Ret 0) (with_value 4 0x7FFF distinct) all_cleared 0 0 ≡ Ended Unspecified
  pub unknown_esp : see (Ret 0) (with_word 4 (unknown_below 0x5000) distinct) all_cleared 0 0 ≡ Ended Unspecified
