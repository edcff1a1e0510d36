-- Worked steps of MOV, LEA and XCHG (Intel SDM volume 2, "MOV", "LEA", "XCHG"). None of them affects a flag.
use Rattle.std.specs.Prelude.{◌≡◌, true, false, [], ◌∷◌, ◌++◌, Some, None}
use Rattle.traces.specs.Trace.{MemoryFault, Unspecified}
use Rattle.x86_values.specs.Words.{padded}
use Rattle.x86_types.specs.declared.instr.Instr.TheVariants.{Mov, Lea, Xchg}
use Rattle.x86_types.specs.declared.operand.Rm.TheVariants as rm
use Rattle.x86_types.specs.declared.operand.Src.TheVariants as src
use Rattle.x86_types.specs.declared.operand.Reg.TheVariants.{Eax, Ecx, Edx, Ebx, Esp, Ebp, Esi, Edi}
use Rattle.x86_types.specs.declared.width.Width.TheVariants.{One, Two, Four}
use Rattle.x86_meaning.specs.StepRows.{five_flags, known_flags, all_set, all_cleared, unknown, unknown_below, bytes_of, Now, Ended, see}
use Rattle.x86_meaning.specs.RowParts.{absolute, based, indexed, distinct, with_word, with_value, lost}

-- MOV between registers and of constants; a field of one byte is AL, CL, DL, BL, AH, CH, DH or BH
pub record MovRegisterRows : Type 0 where
  pub whole : see (Mov Four (rm.Reg Eax) (src.Reg Ecx)) distinct all_set 0 0 ≡ Now (with_value 0 0x21222324 distinct) all_set 0x3002 []
  -- ax, cx
  pub two_bytes : see (Mov Two (rm.Reg Eax) (src.Reg Ecx)) distinct all_cleared 0 0 ≡ Now (with_value 0 0x11122324 distinct) all_cleared 0x3002 []
  -- al, ch; ah, cl; dh, bh; bl, dl
  pub low_of_high : see (Mov One (rm.Reg Eax) (src.Reg Ebp)) distinct all_cleared 0 0 ≡ Now (with_value 0 0x11121323 distinct) all_cleared 0x3002 []
  pub high_of_low : see (Mov One (rm.Reg Esp) (src.Reg Ecx)) distinct all_cleared 0 0 ≡ Now (with_value 0 0x11122414 distinct) all_cleared 0x3002 []
  pub high_of_high : see (Mov One (rm.Reg Esi) (src.Reg Edi)) distinct all_cleared 0 0 ≡ Now (with_value 2 0x31324334 distinct) all_cleared 0x3002 []
  pub low_of_low : see (Mov One (rm.Reg Ebx) (src.Reg Edx)) distinct all_cleared 0 0 ≡ Now (with_value 3 0x41424334 distinct) all_cleared 0x3002 []
  pub constant : see (Mov Four (rm.Reg Edi) (src.Imm 0x80706051)) distinct all_cleared 0 0 ≡ Now (with_value 7 0x80706051 distinct) all_cleared 0x3002 []
  pub constant_of_two_bytes : see (Mov Two (rm.Reg Esi) (src.Imm 0xFFFE)) distinct all_cleared 0 0 ≡ Now (with_value 6 0x7172FFFE distinct) all_cleared 0x3002 []
  pub constant_of_one_byte : see (Mov One (rm.Reg Ebp) (src.Imm 0x80)) distinct all_cleared 0 0 ≡ Now (with_value 1 0x21228024 distinct) all_cleared 0x3002 []
  -- flags stay as they are, each known or not
  pub flags_stay : see (Mov Four (rm.Reg Ebx) (src.Reg Ebp)) distinct (five_flags (Some true) None (Some false) None (Some true)) 0 0 ≡ Now (with_value 3 0x61626364 distinct) (five_flags (Some true) None (Some false) None (Some true)) 0x3002 []
  -- an unspecified byte is moved as one, alone; a known one takes its place
  pub unknown_byte : see (Mov Two (rm.Reg Eax) (src.Reg Ecx)) (with_word 1 (unknown_below 0x21222324) distinct) all_cleared 0 0 ≡ Now (with_word 0 (unknown_below 0x11122324) (with_word 1 (unknown_below 0x21222324) distinct)) all_cleared 0x3002 []
  pub known_byte : see (Mov One (rm.Reg Eax) (src.Imm 7)) (with_word 0 (unknown_below 0x11121314) distinct) all_cleared 0 0 ≡ Now (with_value 0 0x11121307 distinct) all_cleared 0x3002 []
  -- esp rises: what is below it is forgotten, and what is at it isn't
  pub to_esp : see (Mov Four (rm.Reg Esp) (src.Imm 0x8008)) distinct all_cleared 0x8006 4 ≡ Now (with_value 4 0x8008 distinct) all_cleared 0x3002 (lost 2 ++ bytes_of (0x58 ∷ 0x59 ∷ []))
  -- esp with one unspecified byte
  pub to_esp_unknown : see (Mov Two (rm.Reg Esp) (src.Reg Ecx)) (with_word 1 (unknown_below 0x8000) distinct) all_cleared 0 0 ≡ Ended Unspecified

-- MOV with memory
pub record MovMemoryRows : Type 0 where
  pub load : see (Mov Four (rm.Reg Eax) (src.Mem (absolute 0x1001))) distinct all_set 0x1001 4 ≡ Now (with_value 0 0xA4A3A2A1 distinct) all_set 0x3002 (bytes_of (0xA1 ∷ 0xA2 ∷ 0xA3 ∷ 0xA4 ∷ []))
  -- up to the last byte that is mapped, and one more
  pub load_two : see (Mov Two (rm.Reg Ecx) (src.Mem (absolute 0x100E))) distinct all_cleared 0 0 ≡ Now (with_value 1 0x2122AFAE distinct) all_cleared 0x3002 []
  pub load_one : see (Mov One (rm.Reg Edi) (src.Mem (absolute 0x100F))) distinct all_cleared 0 0 ≡ Now (with_value 3 0x4142AF44 distinct) all_cleared 0x3002 []
  pub load_past : see (Mov Two (rm.Reg Ecx) (src.Mem (absolute 0x100F))) distinct all_cleared 0 0 ≡ Ended MemoryFault
  pub load_nothing : see (Mov One (rm.Reg Eax) (src.Mem (absolute 0x5000))) distinct all_cleared 0 0 ≡ Ended MemoryFault
  -- what can't be written can be read
  pub load_constant : see (Mov Four (rm.Reg Eax) (src.Mem (absolute 0x200C))) distinct all_cleared 0 0 ≡ Now (with_value 0 0xCFCECDCC distinct) all_cleared 0x3002 []
  pub load_unknown : see (Mov Four (rm.Reg Eax) (src.Mem (absolute 0x1006))) distinct all_cleared 0 0 ≡ Now (with_word 0 (padded (bytes_of (0xA6 ∷ 0xA7 ∷ []) ++ (lost 1 ++ bytes_of (0xA9 ∷ [])))) distinct) all_cleared 0x3002 []
  pub load_from_esp : see (Mov Four (rm.Reg Eax) (src.Mem (based Esp 4))) distinct all_cleared 0 0 ≡ Now (with_value 0 0x57565554 distinct) all_cleared 0x3002 []
  pub store : see (Mov Four (rm.Mem (absolute 0x1003)) (src.Reg Ecx)) distinct all_set 0x1002 6 ≡ Now distinct all_set 0x3002 (bytes_of (0xA2 ∷ 0x24 ∷ 0x23 ∷ 0x22 ∷ 0x21 ∷ 0xA7 ∷ []))
  pub store_two : see (Mov Two (rm.Mem (absolute 0x100E)) (src.Imm 0x1234)) distinct all_cleared 0x100D 3 ≡ Now distinct all_cleared 0x3002 (bytes_of (0xAD ∷ 0x34 ∷ 0x12 ∷ []))
  -- [0x1008], ah
  pub store_one : see (Mov One (rm.Mem (absolute 0x1008)) (src.Reg Esp)) distinct all_cleared 0x1007 3 ≡ Now distinct all_cleared 0x3002 (bytes_of (0xA7 ∷ 0x13 ∷ 0xA9 ∷ []))
  pub store_unknown : see (Mov Two (rm.Mem (absolute 0x1000)) (src.Reg Ecx)) (with_word 1 (unknown_below 0x21222324) distinct) all_cleared 0x1000 3 ≡ Now (with_word 1 (unknown_below 0x21222324) distinct) all_cleared 0x3002 (lost 1 ++ bytes_of (0x23 ∷ 0xA2 ∷ []))
  pub store_constant : see (Mov One (rm.Mem (absolute 0x2000)) (src.Reg Ecx)) distinct all_cleared 0 0 ≡ Ended MemoryFault
  pub store_past : see (Mov Four (rm.Mem (absolute 0x100D)) (src.Reg Ecx)) distinct all_cleared 0 0 ≡ Ended MemoryFault
  pub store_nothing : see (Mov One (rm.Mem (absolute 0x5000)) (src.Imm 1)) distinct all_cleared 0 0 ≡ Ended MemoryFault
  -- [0x7FFE]: of what is stored the bytes below esp are forgotten
  pub store_below_esp : see (Mov Four (rm.Mem (absolute 0x7FFE)) (src.Reg Ecx)) distinct all_cleared 0x7FFE 4 ≡ Now distinct all_cleared 0x3002 (lost 2 ++ bytes_of (0x22 ∷ 0x21 ∷ []))

-- the addresses of MOV
pub record MovAddressRows : Type 0 where
  -- 0x1000 + 3 * 2 + 1
  pub sum : see (Mov One (rm.Reg Eax) (src.Mem (indexed Edx Ebx 2 1))) (with_value 2 0x1000 (with_value 3 3 distinct)) all_cleared 0 0 ≡ Now (with_value 0 0x111213A7 (with_value 2 0x1000 (with_value 3 3 distinct))) all_cleared 0x3002 []
  -- 0xFFFFFFF0 + 0x20000000 * 8 + 0x1014, less 2 * 2^32
  pub wraps : see (Mov One (rm.Reg Eax) (src.Mem (indexed Ebx Ecx 8 0x1014))) (with_value 3 0xFFFFFFF0 (with_value 1 0x20000000 distinct)) all_cleared 0 0 ≡ Now (with_value 0 0x111213A4 (with_value 3 0xFFFFFFF0 (with_value 1 0x20000000 distinct))) all_cleared 0x3002 []
  -- al, [ebp]: the base is the whole register in an access of one byte too
  pub whole_base : see (Mov One (rm.Reg Eax) (src.Mem (based Ebp 0))) (with_value 5 0x1005 distinct) all_cleared 0 0 ≡ Now (with_value 0 0x111213A5 (with_value 5 0x1005 distinct)) all_cleared 0x3002 []
  -- ecx, [ecx + 4]: by what was in it before
  pub own_base : see (Mov Four (rm.Reg Ecx) (src.Mem (based Ecx 4))) (with_value 1 0x1000 distinct) all_cleared 0 0 ≡ Now (with_value 1 0xA7A6A5A4 distinct) all_cleared 0x3002 []
  -- one unspecified byte of a base or an index ends the run, also where each address would fault
  pub unknown_base : see (Mov One (rm.Reg Eax) (src.Mem (based Ecx 0x5000))) (with_word 1 (unknown_below 0) distinct) all_cleared 0 0 ≡ Ended Unspecified
  pub unknown_index : see (Mov One (rm.Mem (indexed Edx Ecx 4 0)) (src.Imm 1)) (with_word 1 (unknown_below 0) distinct) all_cleared 0 0 ≡ Ended Unspecified
  -- the register isn't used in the address
  pub unused : see (Mov One (rm.Mem (based Edx 0)) (src.Imm 1)) (with_word 1 unknown (with_value 2 0x1002 distinct)) all_cleared 0x1001 3 ≡ Now (with_word 1 unknown (with_value 2 0x1002 distinct)) all_cleared 0x3002 (bytes_of (0xA1 ∷ 1 ∷ 0xA3 ∷ []))

pub record LeaRows : Type 0 where
  -- 0x21222324 + 0x31323334 * 4 + 8
  pub sum : see (Lea Four Eax (indexed Ecx Edx 4 8)) distinct (known_flags true false true false true) 0 0 ≡ Now (with_value 0 0xE5EAEFFC distinct) (known_flags true false true false true) 0x3002 []
  -- 0x80000000 + 0x80000000 * 8 + 1
  pub wraps : see (Lea Four Eax (indexed Ecx Ecx 8 1)) (with_value 1 0x80000000 distinct) all_cleared 0 0 ≡ Now (with_value 0 0x80000001 (with_value 1 0x80000000 distinct)) all_cleared 0x3002 []
  pub two_bytes : see (Lea Two Eax (based Ecx 0x11111111)) distinct all_cleared 0 0 ≡ Now (with_value 0 0x11123435 distinct) all_cleared 0x3002 []
  -- nothing is read
  pub no_access : see (Lea Four Eax (absolute 0x5000)) distinct all_cleared 0 0 ≡ Now (with_value 0 0x5000 distinct) all_cleared 0x3002 []
  pub own_base : see (Lea Four Ecx (based Ecx 1)) distinct all_cleared 0 0 ≡ Now (with_value 1 0x21222325 distinct) all_cleared 0x3002 []
  -- the whole result is unspecified for one such byte, and the run goes on
  pub unknown_base : see (Lea Four Eax (based Ecx 0)) (with_word 1 (unknown_below 0x1000) distinct) all_set 0 0 ≡ Now (with_word 0 unknown (with_word 1 (unknown_below 0x1000) distinct)) all_set 0x3002 []
  -- of a target of two bytes the two above stay
  pub unknown_index : see (Lea Two Eax (indexed Edx Ecx 2 0)) (with_word 1 (unknown_below 0x1000) distinct) all_cleared 0 0 ≡ Now (with_word 0 (padded (lost 2 ++ bytes_of (0x12 ∷ 0x11 ∷ []))) (with_word 1 (unknown_below 0x1000) distinct)) all_cleared 0x3002 []
  pub to_unknown : see (Lea Four Eax (based Esp 0xFFFFFFFC)) (with_word 0 unknown distinct) all_cleared 0 0 ≡ Now (with_value 0 0x7FFC distinct) all_cleared 0x3002 []
  pub to_esp : see (Lea Four Esp (based Esp 8)) distinct all_cleared 0x8007 2 ≡ Now (with_value 4 0x8008 distinct) all_cleared 0x3002 (lost 1 ++ bytes_of (0x58 ∷ []))
  pub to_esp_unknown : see (Lea Four Esp (based Ecx 0)) (with_word 1 unknown distinct) all_cleared 0 0 ≡ Ended Unspecified

pub record XchgRows : Type 0 where
  pub whole : see (Xchg Four (rm.Reg Eax) Ecx) distinct (known_flags false true false true false) 0 0 ≡ Now (with_value 0 0x21222324 (with_value 1 0x11121314 distinct)) (known_flags false true false true false) 0x3002 []
  pub two_bytes : see (Xchg Two (rm.Reg Eax) Ecx) distinct all_cleared 0 0 ≡ Now (with_value 0 0x11122324 (with_value 1 0x21221314 distinct)) all_cleared 0x3002 []
  -- al, ah: two bytes of one register
  pub one_register : see (Xchg One (rm.Reg Eax) Esp) distinct all_cleared 0 0 ≡ Now (with_value 0 0x11121413 distinct) all_cleared 0x3002 []
  pub itself : see (Xchg Four (rm.Reg Eax) Eax) distinct all_set 0 0 ≡ Now distinct all_set 0x3002 []
  pub memory : see (Xchg Four (rm.Mem (absolute 0x1002)) Ecx) distinct all_cleared 0x1001 6 ≡ Now (with_value 1 0xA5A4A3A2 distinct) all_cleared 0x3002 (bytes_of (0xA1 ∷ 0x24 ∷ 0x23 ∷ 0x22 ∷ 0x21 ∷ 0xA6 ∷ []))
  pub memory_two : see (Xchg Two (rm.Mem (absolute 0x100E)) Edx) distinct all_cleared 0x100D 3 ≡ Now (with_value 2 0x3132AFAE distinct) all_cleared 0x3002 (bytes_of (0xAD ∷ 0x34 ∷ 0x33 ∷ []))
  -- [0x1008], bh: an unspecified byte comes to the register
  pub unknown_byte : see (Xchg One (rm.Mem (absolute 0x1008)) Edi) distinct all_cleared 0x1007 3 ≡ Now (with_word 3 (padded (bytes_of (0x44 ∷ []) ++ (lost 1 ++ bytes_of (0x42 ∷ 0x41 ∷ [])))) distinct) all_cleared 0x3002 (bytes_of (0xA7 ∷ 0x43 ∷ 0xA9 ∷ []))
  -- [ecx + 4], ecx: the address is that of the register before
  pub own_base : see (Xchg Four (rm.Mem (based Ecx 4)) Ecx) (with_value 1 0x1000 distinct) all_cleared 0x1004 4 ≡ Now (with_value 1 0xA7A6A5A4 distinct) all_cleared 0x3002 (bytes_of (0 ∷ 0x10 ∷ 0 ∷ 0 ∷ []))
  pub with_esp : see (Xchg Four (rm.Reg Esp) Eax) (with_value 0 0x8008 distinct) all_cleared 0x8007 2 ≡ Now (with_value 0 0x8000 (with_value 4 0x8008 distinct)) all_cleared 0x3002 (lost 1 ++ bytes_of (0x58 ∷ []))
  pub unknown_esp : see (Xchg Four (rm.Reg Ecx) Esp) (with_word 1 (unknown_below 0x8000) distinct) all_cleared 0 0 ≡ Ended Unspecified
  pub load_fault : see (Xchg One (rm.Mem (absolute 0x5000)) Ecx) distinct all_cleared 0 0 ≡ Ended MemoryFault
  -- it can be read, and not be written
  pub store_fault : see (Xchg Four (rm.Mem (absolute 0x2000)) Ecx) distinct all_cleared 0 0 ≡ Ended MemoryFault
  pub unknown_base : see (Xchg Four (rm.Mem (based Ecx 0x5000)) Edx) (with_word 1 (unknown_below 0) distinct) all_cleared 0 0 ≡ Ended Unspecified
