-- Worked steps of MOVS and STOS (Intel SDM volume 2, "MOVS/MOVSB/MOVSW/MOVSD/MOVSQ", "STOS/STOSB/STOSW/STOSD/STOSQ",
-- "REP/REPE/REPZ/REPNE/REPNZ"), where DF is 0. None of them affects a flag. With a repeat one step is one turn: the instruction comes
-- again at 0x3000 until ECX is 0, and then the next one at 0x3002 follows.
use Rattle.std.specs.Prelude.{◌≡◌, true, false, [], ◌∷◌, ◌++◌, Some, None}
use Rattle.traces.specs.Trace.{MemoryFault, Unspecified}
use Rattle.x86_values.specs.Words.{padded}
use Rattle.x86_types.specs.declared.instr.Instr.TheVariants.{Movs, Stos}
use Rattle.x86_types.specs.declared.width.Width.TheVariants.{One, Two, Four}
use Rattle.x86_meaning.specs.StepRows.{five_flags, known_flags, all_set, all_cleared, unknown, unknown_below, bytes_of, Now, Ended, see}
use Rattle.x86_meaning.specs.RowParts.{distinct, with_word, with_value, lost}

pub record MovsRows : Type 0 where
  pub four : see (Movs Four false) (with_value 6 0x2000 (with_value 7 0x1003 distinct)) (known_flags true false true false true) 0x1002 6 ≡ Now (with_value 6 0x2004 (with_value 7 0x1007 distinct)) (known_flags true false true false true) 0x3002 (bytes_of (0xA2 ∷ 0xC0 ∷ 0xC1 ∷ 0xC2 ∷ 0xC3 ∷ 0xA7 ∷ []))
  pub two : see (Movs Two false) (with_value 6 0x2002 (with_value 7 0x100E distinct)) all_cleared 0x100D 3 ≡ Now (with_value 6 0x2004 (with_value 7 0x1010 distinct)) all_cleared 0x3002 (bytes_of (0xAD ∷ 0xC2 ∷ 0xC3 ∷ []))
  pub one : see (Movs One false) (with_value 6 0x2005 (with_value 7 0x1008 distinct)) (five_flags None (Some true) None (Some false) None) 0x1007 3 ≡ Now (with_value 6 0x2006 (with_value 7 0x1009 distinct)) (five_flags None (Some true) None (Some false) None) 0x3002 (bytes_of (0xA7 ∷ 0xC5 ∷ 0xA9 ∷ []))
  -- all four bytes are read before the first is written
  pub overlaps : see (Movs Four false) (with_value 6 0x1000 (with_value 7 0x1001 distinct)) all_cleared 0x1000 6 ≡ Now (with_value 6 0x1004 (with_value 7 0x1005 distinct)) all_cleared 0x3002 (bytes_of (0xA0 ∷ 0xA0 ∷ 0xA1 ∷ 0xA2 ∷ 0xA3 ∷ 0xA5 ∷ []))
  pub unknown_byte : see (Movs Two false) (with_value 6 0x1008 (with_value 7 0x1000 distinct)) all_cleared 0x1000 3 ≡ Now (with_value 6 0x100A (with_value 7 0x1002 distinct)) all_cleared 0x3002 (lost 1 ++ bytes_of (0xA9 ∷ 0xA2 ∷ []))
  pub below_esp : see (Movs Four false) (with_value 6 0x2000 (with_value 7 0x7FFE distinct)) all_cleared 0x7FFE 5 ≡ Now (with_value 6 0x2004 (with_value 7 0x8002 distinct)) all_cleared 0x3002 (lost 2 ++ bytes_of (0xC2 ∷ 0xC3 ∷ 0x52 ∷ []))
  -- without a repeat the count isn't looked at
  pub plain_zero : see (Movs One false) (with_value 1 0 (with_value 6 0x2000 (with_value 7 0x1000 distinct))) all_cleared 0x1000 2 ≡ Now (with_value 1 0 (with_value 6 0x2001 (with_value 7 0x1001 distinct))) all_cleared 0x3002 (bytes_of (0xC0 ∷ 0xA1 ∷ []))
  pub plain_unknown : see (Movs One false) (with_word 1 unknown (with_value 6 0x2000 (with_value 7 0x1000 distinct))) all_cleared 0x1000 2 ≡ Now (with_word 1 unknown (with_value 6 0x2001 (with_value 7 0x1001 distinct))) all_cleared 0x3002 (bytes_of (0xC0 ∷ 0xA1 ∷ []))
  -- one turn of three, and the last one
  pub repeated : see (Movs Two true) (with_value 1 3 (with_value 6 0x2000 (with_value 7 0x1000 distinct))) all_set 0x1000 5 ≡ Now (with_value 1 2 (with_value 6 0x2002 (with_value 7 0x1002 distinct))) all_set 0x3000 (bytes_of (0xC0 ∷ 0xC1 ∷ 0xA2 ∷ 0xA3 ∷ 0xA4 ∷ []))
  pub repeated_last : see (Movs Four true) (with_value 1 1 (with_value 6 0x2000 (with_value 7 0x1000 distinct))) all_cleared 0x1000 5 ≡ Now (with_value 1 0 (with_value 6 0x2004 (with_value 7 0x1004 distinct))) all_cleared 0x3000 (bytes_of (0xC0 ∷ 0xC1 ∷ 0xC2 ∷ 0xC3 ∷ 0xA4 ∷ []))
  -- all of ecx is the count
  pub repeated_often : see (Movs One true) (with_value 1 0x10000 (with_value 6 0x2000 (with_value 7 0x1000 distinct))) all_cleared 0x1000 2 ≡ Now (with_value 1 0xFFFF (with_value 6 0x2001 (with_value 7 0x1001 distinct))) all_cleared 0x3000 (bytes_of (0xC0 ∷ 0xA1 ∷ []))
  -- at 0 nothing else is looked at: neither an unspecified esi, nor an edi where nothing is mapped
  pub repeated_never : see (Movs Four true) (with_value 1 0 (with_word 6 unknown (with_value 7 0x5000 distinct))) all_set 0 0 ≡ Now (with_value 1 0 (with_word 6 unknown (with_value 7 0x5000 distinct))) all_set 0x3002 []
  pub unknown_count : see (Movs One true) (with_word 1 (unknown_below 0) (with_value 6 0x5000 (with_value 7 0x5000 distinct))) all_cleared 0 0 ≡ Ended Unspecified
  -- unspecified addresses come before faults
  pub unknown_esi : see (Movs One false) (with_word 6 (unknown_below 0x1000) (with_value 7 0x5000 distinct)) all_cleared 0 0 ≡ Ended Unspecified
  pub unknown_edi : see (Movs One false) (with_value 6 0x5000 (with_word 7 (unknown_below 0x1000) distinct)) all_cleared 0 0 ≡ Ended Unspecified
  pub repeated_unknown_edi : see (Movs One true) (with_value 1 1 (with_value 6 0x1000 (with_word 7 (unknown_below 0x1000) distinct))) all_cleared 0 0 ≡ Ended Unspecified
  pub load_fault : see (Movs One false) (with_value 6 0x5000 (with_value 7 0x1000 distinct)) all_cleared 0 0 ≡ Ended MemoryFault
  pub load_past : see (Movs Two false) (with_value 6 0x100F (with_value 7 0x1000 distinct)) all_cleared 0 0 ≡ Ended MemoryFault
  pub store_fault : see (Movs One false) (with_value 6 0x1000 (with_value 7 0x2000 distinct)) all_cleared 0 0 ≡ Ended MemoryFault
  pub store_past : see (Movs Four false) (with_value 6 0x1000 (with_value 7 0x100D distinct)) all_cleared 0 0 ≡ Ended MemoryFault
  pub repeated_fault : see (Movs One true) (with_value 1 2 (with_value 6 0x1000 (with_value 7 0x5000 distinct))) all_cleared 0 0 ≡ Ended MemoryFault
  pub unknown_esp : see (Movs One true) (with_value 1 0 (with_word 4 (unknown_below 0x8000) distinct)) all_cleared 0 0 ≡ Ended Unspecified

pub record StosRows : Type 0 where
  pub four : see (Stos Four false) (with_value 7 0x1003 distinct) (known_flags false true false true false) 0x1002 6 ≡ Now (with_value 7 0x1007 distinct) (known_flags false true false true false) 0x3002 (bytes_of (0xA2 ∷ 0x14 ∷ 0x13 ∷ 0x12 ∷ 0x11 ∷ 0xA7 ∷ []))
  pub two : see (Stos Two false) (with_value 7 0x100E distinct) all_cleared 0x100D 3 ≡ Now (with_value 7 0x1010 distinct) all_cleared 0x3002 (bytes_of (0xAD ∷ 0x14 ∷ 0x13 ∷ []))
  pub one : see (Stos One false) (with_value 7 0x1008 distinct) (five_flags None None (Some true) (Some false) None) 0x1007 3 ≡ Now (with_value 7 0x1009 distinct) (five_flags None None (Some true) (Some false) None) 0x3002 (bytes_of (0xA7 ∷ 0x14 ∷ 0xA9 ∷ []))
  -- an unspecified byte is stored as one; neither the bytes above the width matter, nor esi
  pub unknown_byte : see (Stos Two false) (with_word 0 (unknown_below 0x11121314) (with_value 7 0x1000 distinct)) all_cleared 0x1000 3 ≡ Now (with_word 0 (unknown_below 0x11121314) (with_value 7 0x1002 distinct)) all_cleared 0x3002 (lost 1 ++ bytes_of (0x13 ∷ 0xA2 ∷ []))
  pub unknown_above : see (Stos One false) (with_word 0 (padded (bytes_of (0x14 ∷ []) ++ lost 3)) (with_word 6 unknown (with_value 7 0x1000 distinct))) all_cleared 0x1000 2 ≡ Now (with_word 0 (padded (bytes_of (0x14 ∷ []) ++ lost 3)) (with_word 6 unknown (with_value 7 0x1001 distinct))) all_cleared 0x3002 (bytes_of (0x14 ∷ 0xA1 ∷ []))
  pub below_esp : see (Stos Four false) (with_value 7 0x7FFE distinct) all_cleared 0x7FFE 5 ≡ Now (with_value 7 0x8002 distinct) all_cleared 0x3002 (lost 2 ++ bytes_of (0x12 ∷ 0x11 ∷ 0x52 ∷ []))
  -- without a repeat the count isn't looked at
  pub plain_zero : see (Stos One false) (with_value 1 0 (with_value 7 0x1000 distinct)) all_cleared 0x1000 2 ≡ Now (with_value 1 0 (with_value 7 0x1001 distinct)) all_cleared 0x3002 (bytes_of (0x14 ∷ 0xA1 ∷ []))
  pub plain_unknown : see (Stos One false) (with_word 1 unknown (with_value 7 0x1000 distinct)) all_cleared 0x1000 2 ≡ Now (with_word 1 unknown (with_value 7 0x1001 distinct)) all_cleared 0x3002 (bytes_of (0x14 ∷ 0xA1 ∷ []))
  pub repeated : see (Stos Two true) (with_value 1 2 (with_value 7 0x1000 distinct)) all_set 0x1000 4 ≡ Now (with_value 1 1 (with_value 7 0x1002 distinct)) all_set 0x3000 (bytes_of (0x14 ∷ 0x13 ∷ 0xA2 ∷ 0xA3 ∷ []))
  pub repeated_last : see (Stos Four true) (with_value 1 1 (with_value 7 0x1000 distinct)) all_cleared 0x1000 5 ≡ Now (with_value 1 0 (with_value 7 0x1004 distinct)) all_cleared 0x3000 (bytes_of (0x14 ∷ 0x13 ∷ 0x12 ∷ 0x11 ∷ 0xA4 ∷ []))
  pub repeated_often : see (Stos One true) (with_value 1 0x10000 (with_value 7 0x1000 distinct)) all_cleared 0x1000 2 ≡ Now (with_value 1 0xFFFF (with_value 7 0x1001 distinct)) all_cleared 0x3000 (bytes_of (0x14 ∷ 0xA1 ∷ []))
  pub repeated_never : see (Stos Four true) (with_value 1 0 (with_word 7 unknown distinct)) all_set 0 0 ≡ Now (with_value 1 0 (with_word 7 unknown distinct)) all_set 0x3002 []
  pub unknown_count : see (Stos One true) (with_word 1 (unknown_below 0) (with_value 7 0x5000 distinct)) all_cleared 0 0 ≡ Ended Unspecified
  pub unknown_edi : see (Stos One false) (with_word 7 (unknown_below 0x5000) distinct) all_cleared 0 0 ≡ Ended Unspecified
  pub repeated_unknown_edi : see (Stos One true) (with_value 1 1 (with_word 7 (unknown_below 0x1000) distinct)) all_cleared 0 0 ≡ Ended Unspecified
  pub store_fault : see (Stos One false) (with_value 7 0x2000 distinct) all_cleared 0 0 ≡ Ended MemoryFault
  pub store_past : see (Stos Four false) (with_value 7 0x100D distinct) all_cleared 0 0 ≡ Ended MemoryFault
  pub repeated_fault : see (Stos One true) (with_value 1 2 (with_value 7 0x5000 distinct)) all_cleared 0 0 ≡ Ended MemoryFault
