-- Worked steps of ADD, ADC, SBB, SUB and CMP (Intel SDM volume 2). 3 stands in ECX where EAX is a word of its own.
use Rattle.std.specs.Prelude.{◌≡◌, ℕ, true, false, List, [], ◌∷◌, None, Some}
use Rattle.x86_values.specs.declared.byte.Byte.TheVariants.{Unspecified}
use Rattle.x86_values.specs.declared.word.Word.{Word}
use Rattle.x86_values.specs.declared.word.Flags.{Flags}
use Rattle.x86_values.specs.Words.{word_of}
use Rattle.x86_values.specs.Results.{no_flags}
use Rattle.traces.specs.Trace as trace
use Rattle.x86_types.specs.declared.instr.Instr.{Instr}
use Rattle.x86_types.specs.declared.instr.Instr.TheVariants as instr
use Rattle.x86_types.specs.declared.operation.AluOp.{AluOp}
use Rattle.x86_types.specs.declared.operation.AluOp.TheVariants as alu
use Rattle.x86_types.specs.declared.operand.Rm.{Rm}
use Rattle.x86_types.specs.declared.operand.Rm.TheVariants as rm
use Rattle.x86_types.specs.declared.operand.Src.{Src}
use Rattle.x86_types.specs.declared.operand.Src.TheVariants as src
use Rattle.x86_types.specs.declared.operand.Reg.TheVariants.{Eax, Ecx, Esp}
use Rattle.x86_types.specs.declared.width.Width.TheVariants.{One, Two, Four}
use Rattle.x86_meaning.specs.StepRows.{Shown, Now, Ended, see, known_flags, all_set, all_cleared, registers, unknown, unknown_below, bytes_of}

-- EAX and ECX, and the word of EAX with others
abbrev pub eax_and_ecx : ℕ → ℕ → List Word
eax_and_ecx eax ecx = registers eax ecx 0 0 0 0 0

abbrev pub with_eax : Word → List Word
with_eax w = w ∷ word_of 3 ∷ word_of 0 ∷ word_of 0 ∷ word_of 0x8000 ∷ word_of 0 ∷ word_of 0 ∷ word_of 0 ∷ []

-- memory at an address that is a displacement alone
abbrev pub memory_operand : ℕ → Rm
memory_operand a = rm.Mem (record { base = None; index = None; scale = 1; disp = a })

abbrev pub from_memory : ℕ → Src
from_memory a = src.Mem (record { base = None; index = None; scale = 1; disp = a })

abbrev pub by_ecx : Rm
by_ecx = rm.Mem (record { base = Some Ecx; index = None; scale = 1; disp = 0 })

-- the operation of EAX with ECX, and with a number
abbrev pub of_both : AluOp → Instr
of_both op = instr.Alu op Four (rm.Reg Eax) (src.Reg Ecx)

abbrev pub of_number : AluOp → ℕ → Instr
of_number op n = instr.Alu op Four (rm.Reg Eax) (src.Imm n)

-- the next instruction stands at 0x3002; no byte of memory is asked for
abbrev pub goes_on : List Word → Flags → Shown
goes_on regs f = Now regs f 0x3002 []

abbrev pub sees : Instr → List Word → Flags → Shown
sees i regs f = see i regs f 0 0

-- ADD
pub record AddRows : Type 0 where
  -- 5 + 3; 8 has one bit, so PF is cleared
  pub plain : sees (of_both alu.Add) (eax_and_ecx 5 3) all_set ≡ goes_on (eax_and_ecx 8 3) (known_flags false false false false false)
  pub wraps : sees (of_number alu.Add 1) (eax_and_ecx 0xFFFFFFFF 0) all_cleared ≡ goes_on (eax_and_ecx 0 0) (known_flags true true true false false)
  pub overflows : sees (of_number alu.Add 1) (eax_and_ecx 0x7FFFFFFF 0) all_cleared ≡ goes_on (eax_and_ecx 0x80000000 0) (known_flags false true false true true)
  pub negative : sees (of_both alu.Add) (eax_and_ecx 0x80000000 0x80000000) all_cleared ≡ goes_on (eax_and_ecx 0 0x80000000) (known_flags true true true false true)
  -- AL, CL
  pub low_byte : sees (instr.Alu alu.Add One (rm.Reg Eax) (src.Reg Ecx)) (eax_and_ecx 0x112233FF 1) all_cleared ≡ goes_on (eax_and_ecx 0x11223300 1) (known_flags true true true false false)
  -- AH, CL
  pub high_byte : sees (instr.Alu alu.Add One (rm.Reg Esp) (src.Reg Ecx)) (eax_and_ecx 0x1122FF44 2) all_cleared ≡ goes_on (eax_and_ecx 0x11220144 2) (known_flags true false false false false)
  -- AX
  pub half : sees (instr.Alu alu.Add Two (rm.Reg Eax) (src.Imm 0x8000)) (eax_and_ecx 0xABCD8000 0) all_cleared ≡ goes_on (eax_and_ecx 0xABCD0000 0) (known_flags true true true false true)
  pub to_memory : see (instr.Alu alu.Add Four (memory_operand 0x1000) (src.Imm 1)) (eax_and_ecx 0 0) all_cleared 0x1000 5 ≡ Now (eax_and_ecx 0 0) (known_flags false false false true false) 0x3002 (bytes_of (0xA1 ∷ 0xA1 ∷ 0xA2 ∷ 0xA3 ∷ 0xA4 ∷ []))
  pub from_constant : sees (instr.Alu alu.Add Four (rm.Reg Eax) (from_memory 0x2000)) (eax_and_ecx 0x40 0) all_cleared ≡ goes_on (eax_and_ecx 0xC3C2C200 0) (known_flags false true false true false)
  -- one byte is unspecified, so all are, and all flags
  pub unspecified : sees (of_both alu.Add) (with_eax (unknown_below 0x100)) all_set ≡ goes_on (with_eax unknown) no_flags
  -- a byte above the width doesn't matter, and stays
  pub above_the_width : sees (instr.Alu alu.Add One (rm.Reg Eax) (src.Reg Ecx)) (with_eax (record (word_of 5) { b1 = Unspecified })) all_cleared ≡ goes_on (with_eax (record (word_of 8) { b1 = Unspecified })) (known_flags false false false false false)
  pub memory_unspecified : see (instr.Alu alu.Add One (memory_operand 0x1008) (src.Imm 1)) (eax_and_ecx 0 0) all_cleared 0x1008 1 ≡ Now (eax_and_ecx 0 0) no_flags 0x3002 (Unspecified ∷ [])
  pub not_mapped : sees (instr.Alu alu.Add Four (rm.Reg Eax) (from_memory 0x5000)) (eax_and_ecx 0 0) all_cleared ≡ Ended trace.MemoryFault
  pub not_writable : sees (instr.Alu alu.Add Four (memory_operand 0x2000) (src.Imm 1)) (eax_and_ecx 0 0) all_cleared ≡ Ended trace.MemoryFault
  -- before anything is read
  pub unspecified_address : sees (instr.Alu alu.Add Four by_ecx (src.Reg Eax)) (word_of 0 ∷ unknown_below 0x5000 ∷ []) all_cleared ≡ Ended trace.Unspecified

-- ADC and SBB
pub record CarryRows : Type 0 where
  pub adc_set : sees (of_both alu.Adc) (eax_and_ecx 5 3) all_set ≡ goes_on (eax_and_ecx 9 3) (known_flags false true false false false)
  pub adc_cleared : sees (of_both alu.Adc) (eax_and_ecx 5 3) all_cleared ≡ goes_on (eax_and_ecx 8 3) (known_flags false false false false false)
  pub adc_wraps : sees (of_number alu.Adc 0) (eax_and_ecx 0xFFFFFFFF 0) all_set ≡ goes_on (eax_and_ecx 0 0) (known_flags true true true false false)
  pub adc_twice : sees (of_number alu.Adc 0xFFFFFFFF) (eax_and_ecx 0xFFFFFFFF 0) all_set ≡ goes_on (eax_and_ecx 0xFFFFFFFF 0) (known_flags true true false true false)
  pub adc_overflows : sees (of_number alu.Adc 0) (eax_and_ecx 0x7FFFFFFF 0) all_set ≡ goes_on (eax_and_ecx 0x80000000 0) (known_flags false true false true true)
  -- the carry is unspecified
  pub adc_unspecified : sees (of_both alu.Adc) (eax_and_ecx 5 3) no_flags ≡ goes_on (with_eax unknown) no_flags
  pub sbb_set : sees (of_both alu.Sbb) (eax_and_ecx 5 3) all_set ≡ goes_on (eax_and_ecx 1 3) (known_flags false false false false false)
  pub sbb_cleared : sees (of_both alu.Sbb) (eax_and_ecx 5 3) all_cleared ≡ goes_on (eax_and_ecx 2 3) (known_flags false false false false false)
  pub sbb_borrows : sees (of_both alu.Sbb) (eax_and_ecx 3 3) all_set ≡ goes_on (eax_and_ecx 0xFFFFFFFF 3) (known_flags true true false true false)
  -- 2^32 is taken away
  pub sbb_all : sees (of_number alu.Sbb 0xFFFFFFFF) (eax_and_ecx 0 0) all_set ≡ goes_on (eax_and_ecx 0 0) (known_flags true true true false false)
  pub sbb_overflows : sees (of_number alu.Sbb 0) (eax_and_ecx 0x80000000 0) all_set ≡ goes_on (eax_and_ecx 0x7FFFFFFF 0) (known_flags false true false false true)
  -- only the carry matters
  pub sbb_itself : sees (instr.Alu alu.Sbb Four (rm.Reg Eax) (src.Reg Eax)) (with_eax unknown) all_set ≡ goes_on (with_eax (word_of 0xFFFFFFFF)) (known_flags true true false true false)
  pub sbb_unspecified : sees (of_both alu.Sbb) (eax_and_ecx 5 3) no_flags ≡ goes_on (with_eax unknown) no_flags

-- SUB
pub record SubRows : Type 0 where
  pub plain : sees (of_both alu.Sub) (eax_and_ecx 5 3) all_set ≡ goes_on (eax_and_ecx 2 3) (known_flags false false false false false)
  pub borrows : sees (of_both alu.Sub) (eax_and_ecx 3 5) all_cleared ≡ goes_on (eax_and_ecx 0xFFFFFFFE 5) (known_flags true false false true false)
  pub overflows : sees (of_number alu.Sub 1) (eax_and_ecx 0x80000000 0) all_cleared ≡ goes_on (eax_and_ecx 0x7FFFFFFF 0) (known_flags false true false false true)
  pub overflows_upwards : sees (of_number alu.Sub 0x80000000) (eax_and_ecx 0x7FFFFFFF 0) all_cleared ≡ goes_on (eax_and_ecx 0xFFFFFFFF 0) (known_flags true true false true true)
  pub equal : sees (of_both alu.Sub) (eax_and_ecx 7 7) all_cleared ≡ goes_on (eax_and_ecx 0 7) (known_flags false true true false false)
  -- whatever is in it
  pub itself : sees (instr.Alu alu.Sub Four (rm.Reg Eax) (src.Reg Eax)) (with_eax unknown) all_set ≡ goes_on (with_eax (word_of 0)) (known_flags false true true false false)
  -- AL and AH are no register with itself
  pub bytes_of_one : sees (instr.Alu alu.Sub One (rm.Reg Eax) (src.Reg Esp)) (eax_and_ecx 0x0305 0) all_cleared ≡ goes_on (eax_and_ecx 0x0302 0) (known_flags false false false false false)
  pub bytes_unspecified : sees (instr.Alu alu.Sub One (rm.Reg Eax) (src.Reg Esp)) (with_eax unknown) all_cleared ≡ goes_on (with_eax unknown) no_flags
  pub memory_with_itself : see (instr.Alu alu.Sub One (memory_operand 0x1008) (src.Reg Eax)) (eax_and_ecx 0 0) all_cleared 0x1008 1 ≡ Now (eax_and_ecx 0 0) no_flags 0x3002 (Unspecified ∷ [])

-- CMP writes nothing
pub record CmpRows : Type 0 where
  pub less : sees (of_both alu.Cmp) (eax_and_ecx 3 5) all_cleared ≡ goes_on (eax_and_ecx 3 5) (known_flags true false false true false)
  pub equal : sees (of_both alu.Cmp) (eax_and_ecx 5 5) all_cleared ≡ goes_on (eax_and_ecx 5 5) (known_flags false true true false false)
  pub overflows : sees (of_number alu.Cmp 1) (eax_and_ecx 0x80000000 0) all_cleared ≡ goes_on (eax_and_ecx 0x80000000 0) (known_flags false true false false true)
  -- a page that can't be written
  pub constant_page : sees (instr.Alu alu.Cmp Four (memory_operand 0x2000) (src.Imm 0xC3C2C1C0)) (eax_and_ecx 0 0) all_cleared ≡ goes_on (eax_and_ecx 0 0) (known_flags false true true false false)
  pub itself : sees (instr.Alu alu.Cmp Two (rm.Reg Eax) (src.Reg Eax)) (with_eax unknown) all_set ≡ goes_on (with_eax unknown) (known_flags false true true false false)
  pub unspecified : sees (of_both alu.Cmp) (with_eax unknown) all_set ≡ goes_on (with_eax unknown) no_flags
