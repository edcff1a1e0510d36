-- Worked steps of CMOVcc and SETcc (Intel SDM volume 2, "CMOVcc", "SETcc"). Neither affects a flag.
use Rattle.std.specs.Prelude.{◌≡◌, true, false, [], ◌∷◌, ◌++◌, Some, None}
use Rattle.traces.specs.Trace.{MemoryFault, Unspecified}
use Rattle.x86_values.specs.Words.{padded}
use Rattle.x86_types.specs.declared.instr.Instr.TheVariants.{Cmov, Setcc}
use Rattle.x86_types.specs.declared.operation.Cond.TheVariants as cc
use Rattle.x86_types.specs.declared.operand.Rm.TheVariants as rm
use Rattle.x86_types.specs.declared.operand.Reg.TheVariants.{Eax, Ecx, Edx, Esp, Esi}
use Rattle.x86_types.specs.declared.width.Width.TheVariants.{Two, Four}
use Rattle.x86_meaning.specs.StepRows.{five_flags, all_set, all_cleared, unknown, unknown_below, bytes_of, Now, Ended, see}
use Rattle.x86_meaning.specs.RowParts.{absolute, based, distinct, with_word, with_value, lost}
use Rattle.x86_meaning.specs.ConditionRows.{only_cf, only_zf, all_but_zf, all_but_of}

pub record CmovRows : Type 0 where
  pub moves : see (Cmov cc.E Four Eax (rm.Reg Ecx)) distinct only_zf 0x8000 2 ≡ Now (with_value 0 0x21222324 distinct) only_zf 0x3002 (bytes_of (0x50 ∷ 0x51 ∷ []))
  pub stays : see (Cmov cc.E Four Eax (rm.Reg Ecx)) distinct all_but_zf 0 0 ≡ Now distinct all_but_zf 0x3002 []
  pub other_condition : see (Cmov cc.L Four Edx (rm.Reg Ecx)) distinct all_but_of 0 0 ≡ Now (with_value 2 0x21222324 distinct) all_but_of 0x3002 []
  pub two_bytes : see (Cmov cc.E Two Eax (rm.Reg Ecx)) distinct all_set 0 0 ≡ Now (with_value 0 0x11122324 distinct) all_set 0x3002 []
  pub two_bytes_stay : see (Cmov cc.E Two Eax (rm.Reg Ecx)) distinct all_cleared 0 0 ≡ Now distinct all_cleared 0x3002 []
  pub load : see (Cmov cc.Ne Four Ecx (rm.Mem (absolute 0x2004))) distinct all_cleared 0 0 ≡ Now (with_value 1 0xC7C6C5C4 distinct) all_cleared 0x3002 []
  pub load_two : see (Cmov cc.E Two Ecx (rm.Mem (absolute 0x100E))) distinct all_set 0 0 ≡ Now (with_value 1 0x2122AFAE distinct) all_set 0x3002 []
  pub load_dropped : see (Cmov cc.E Four Ecx (rm.Mem (absolute 0x2004))) distinct all_cleared 0 0 ≡ Now distinct all_cleared 0x3002 []
  -- the source is loaded whether the condition holds, doesn't, or isn't known
  pub load_fault : see (Cmov cc.E Four Eax (rm.Mem (absolute 0x5000))) distinct all_set 0 0 ≡ Ended MemoryFault
  pub load_fault_dropped : see (Cmov cc.E Four Eax (rm.Mem (absolute 0x5000))) distinct all_cleared 0 0 ≡ Ended MemoryFault
  pub load_fault_unknown : see (Cmov cc.E Four Eax (rm.Mem (absolute 0x5000))) distinct (five_flags None None None None None) 0 0 ≡ Ended MemoryFault
  pub load_past : see (Cmov cc.E Two Eax (rm.Mem (absolute 0x100F))) distinct all_cleared 0 0 ≡ Ended MemoryFault
  pub unknown_base : see (Cmov cc.E Four Eax (rm.Mem (based Ecx 0x5000))) (with_word 1 (unknown_below 0) distinct) all_cleared 0 0 ≡ Ended Unspecified
  -- where the condition isn't known the target isn't, to its width
  pub unknown_flag : see (Cmov cc.E Four Eax (rm.Reg Ecx)) distinct (five_flags (Some true) (Some true) None (Some true) (Some true)) 0 0 ≡ Now (with_word 0 unknown distinct) (five_flags (Some true) (Some true) None (Some true) (Some true)) 0x3002 []
  pub unknown_flag_of_two : see (Cmov cc.Be Two Eax (rm.Reg Ecx)) distinct (five_flags (Some true) None None None None) 0 0 ≡ Now (with_word 0 (padded (lost 2 ++ bytes_of (0x12 ∷ 0x11 ∷ []))) distinct) (five_flags (Some true) None None None None) 0x3002 []
  pub other_flags_unknown : see (Cmov cc.E Four Eax (rm.Reg Ecx)) distinct (five_flags None None (Some true) None None) 0 0 ≡ Now (with_value 0 0x21222324 distinct) (five_flags None None (Some true) None None) 0x3002 []
  -- an unspecified byte of the source comes with it, and that of the target stays with the target
  pub unknown_source : see (Cmov cc.E Four Eax (rm.Mem (absolute 0x1008))) distinct all_set 0 0 ≡ Now (with_word 0 (padded (lost 1 ++ bytes_of (0xA9 ∷ 0xAA ∷ 0xAB ∷ []))) distinct) all_set 0x3002 []
  pub unknown_source_dropped : see (Cmov cc.E Four Eax (rm.Reg Ecx)) (with_word 1 unknown distinct) all_cleared 0 0 ≡ Now (with_word 1 unknown distinct) all_cleared 0x3002 []
  pub unknown_target : see (Cmov cc.E Four Eax (rm.Reg Ecx)) (with_word 0 (unknown_below 0x11121314) distinct) all_cleared 0 0 ≡ Now (with_word 0 (unknown_below 0x11121314) distinct) all_cleared 0x3002 []
  pub unknown_target_replaced : see (Cmov cc.E Four Eax (rm.Reg Ecx)) (with_word 0 unknown distinct) all_set 0 0 ≡ Now (with_value 0 0x21222324 distinct) all_set 0x3002 []
  pub to_esp : see (Cmov cc.E Four Esp (rm.Reg Ecx)) (with_value 1 0x8008 distinct) all_set 0x8007 2 ≡ Now (with_value 1 0x8008 (with_value 4 0x8008 distinct)) all_set 0x3002 (lost 1 ++ bytes_of (0x58 ∷ []))
  pub to_esp_unknown : see (Cmov cc.E Four Esp (rm.Reg Ecx)) distinct (five_flags (Some true) (Some true) None (Some true) (Some true)) 0 0 ≡ Ended Unspecified

pub record SetccRows : Type 0 where
  -- al, ah, dh
  pub low_set : see (Setcc cc.E (rm.Reg Eax)) distinct only_zf 0x8000 2 ≡ Now (with_value 0 0x11121301 distinct) only_zf 0x3002 (bytes_of (0x50 ∷ 0x51 ∷ []))
  pub low_cleared : see (Setcc cc.E (rm.Reg Eax)) distinct all_but_zf 0 0 ≡ Now (with_value 0 0x11121300 distinct) all_but_zf 0x3002 []
  pub high_set : see (Setcc cc.B (rm.Reg Esp)) distinct only_cf 0 0 ≡ Now (with_value 0 0x11120114 distinct) only_cf 0x3002 []
  pub high_cleared : see (Setcc cc.Ae (rm.Reg Esi)) distinct only_cf 0 0 ≡ Now (with_value 2 0x31320034 distinct) only_cf 0x3002 []
  pub memory : see (Setcc cc.Ge (rm.Mem (absolute 0x1008))) distinct all_set 0x1007 3 ≡ Now distinct all_set 0x3002 (bytes_of (0xA7 ∷ 1 ∷ 0xA9 ∷ []))
  -- the flag is unspecified: so is the byte, and the run goes on
  pub unknown_flag : see (Setcc cc.E (rm.Reg Ecx)) distinct (five_flags (Some true) (Some true) None (Some true) (Some true)) 0 0 ≡ Now (with_word 1 (unknown_below 0x21222324) distinct) (five_flags (Some true) (Some true) None (Some true) (Some true)) 0x3002 []
  pub unknown_flag_to_memory : see (Setcc cc.Le (rm.Mem (based Edx 0))) (with_value 2 0x1002 distinct) (five_flags None None (Some true) (Some true) None) 0x1001 3 ≡ Now (with_value 2 0x1002 distinct) (five_flags None None (Some true) (Some true) None) 0x3002 (bytes_of (0xA1 ∷ []) ++ (lost 1 ++ bytes_of (0xA3 ∷ [])))
  pub other_flags_unknown : see (Setcc cc.Ns (rm.Reg Ecx)) distinct (five_flags None None None (Some false) None) 0 0 ≡ Now (with_value 1 0x21222301 distinct) (five_flags None None None (Some false) None) 0x3002 []
  -- what was in the target isn't looked at
  pub to_unknown : see (Setcc cc.Np (rm.Reg Eax)) (with_word 0 (unknown_below 0x11121314) distinct) all_cleared 0 0 ≡ Now (with_value 0 0x11121301 distinct) all_cleared 0x3002 []
  pub below_esp : see (Setcc cc.O (rm.Mem (based Esp 0xFFFFFFFF))) distinct all_set 0x7FFF 2 ≡ Now distinct all_set 0x3002 (lost 1 ++ bytes_of (0x50 ∷ []))
  pub store_fault : see (Setcc cc.E (rm.Mem (absolute 0x2000))) distinct all_set 0 0 ≡ Ended MemoryFault
  -- also where a 0 is stored, or nothing is known of the byte
  pub store_nothing : see (Setcc cc.E (rm.Mem (absolute 0x5000))) distinct all_cleared 0 0 ≡ Ended MemoryFault
  pub store_unknown : see (Setcc cc.E (rm.Mem (absolute 0x5000))) distinct (five_flags None None None None None) 0 0 ≡ Ended MemoryFault
  pub unknown_base : see (Setcc cc.E (rm.Mem (based Ecx 0x5000))) (with_word 1 (unknown_below 0) distinct) all_set 0 0 ≡ Ended Unspecified
