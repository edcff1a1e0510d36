-- Worked steps of AND, OR, XOR, TEST, INC, DEC, NOT and NEG (Intel SDM volume 2).
use Rattle.std.specs.Prelude.{◌≡◌, true, false, [], ◌∷◌, None, Some}
use Rattle.x86_values.specs.declared.byte.Byte.TheVariants.{Unspecified}
use Rattle.x86_values.specs.Words.{word_of}
use Rattle.x86_values.specs.Results.{no_flags}
use Rattle.traces.specs.Trace as trace
use Rattle.x86_types.specs.declared.instr.Instr.TheVariants as instr
use Rattle.x86_types.specs.declared.operation.AluOp.TheVariants as alu
use Rattle.x86_types.specs.declared.operand.Rm.TheVariants as rm
use Rattle.x86_types.specs.declared.operand.Src.TheVariants as src
use Rattle.x86_types.specs.declared.operand.Reg.TheVariants.{Eax, Ecx, Esp}
use Rattle.x86_types.specs.declared.width.Width.TheVariants.{One, Two, Four}
use Rattle.x86_meaning.specs.AluRows.{eax_and_ecx, with_eax, memory_operand, of_both, of_number, goes_on, sees}
use Rattle.x86_meaning.specs.StepRows.{Now, Ended, see, five_flags, known_flags, all_set, all_cleared, unknown, unknown_below, bytes_of}

-- AND, OR, XOR: CF and OF are cleared
pub record LogicRows : Type 0 where
  pub and : sees (of_both alu.And) (eax_and_ecx 0xFF00FF00 0x0FF00FF0) all_set ≡ goes_on (eax_and_ecx 0x0F000F00 0x0FF00FF0) (known_flags false true false false false)
  pub and_sign : sees (of_both alu.And) (eax_and_ecx 0xFFFFFFFE 0x80000001) all_set ≡ goes_on (eax_and_ecx 0x80000000 0x80000001) (known_flags false true false true false)
  -- 0 decides, whatever stands on the other side
  pub and_zero : sees (of_number alu.And 0) (with_eax unknown) all_set ≡ goes_on (with_eax (word_of 0)) (known_flags false true true false false)
  -- only the byte that isn't 0 stays unspecified
  pub and_unspecified : sees (of_number alu.And 0xFF) (with_eax unknown) all_set ≡ goes_on (with_eax (unknown_below 0)) no_flags
  pub and_itself : sees (instr.Alu alu.And Four (rm.Reg Eax) (src.Reg Eax)) (with_eax unknown) all_set ≡ goes_on (with_eax unknown) no_flags
  pub or : sees (of_both alu.Or) (eax_and_ecx 0x0F 0xF000) all_set ≡ goes_on (eax_and_ecx 0xF00F 0xF000) (known_flags false true false false false)
  -- so does 255
  pub or_ones : sees (of_number alu.Or 0xFFFFFFFF) (with_eax unknown) all_set ≡ goes_on (with_eax (word_of 0xFFFFFFFF)) (known_flags false true false true false)
  pub or_unspecified : sees (of_number alu.Or 0x00000200) (with_eax (unknown_below 0x100)) all_set ≡ goes_on (with_eax (unknown_below 0x300)) no_flags
  pub xor : sees (of_both alu.Xor) (eax_and_ecx 0xFF 0x0F) all_set ≡ goes_on (eax_and_ecx 0xF0 0x0F) (known_flags false true false false false)
  pub xor_itself : sees (instr.Alu alu.Xor Four (rm.Reg Eax) (src.Reg Eax)) (with_eax unknown) all_set ≡ goes_on (with_eax (word_of 0)) (known_flags false true true false false)
  pub xor_unspecified : sees (of_number alu.Xor 0xFFFFFFFF) (with_eax (unknown_below 0x100)) all_set ≡ goes_on (with_eax (record (word_of 0xFFFFFE00) { b0 = Unspecified })) no_flags
  -- AH; SF is the highest bit of the byte
  pub byte : sees (instr.Alu alu.Xor One (rm.Reg Esp) (src.Imm 0x80)) (eax_and_ecx 0x1234 0) all_set ≡ goes_on (eax_and_ecx 0x9234 0) (known_flags false false false true false)
  pub half : see (instr.Alu alu.Or Two (memory_operand 0x1000) (src.Imm 0x0001)) (eax_and_ecx 0 0) all_set 0x1000 3 ≡ Now (eax_and_ecx 0 0) (known_flags false false false true false) 0x3002 (bytes_of (0xA1 ∷ 0xA1 ∷ 0xA2 ∷ []))

-- TEST writes nothing
pub record TestRows : Type 0 where
  pub zero : sees (instr.Test Four (rm.Reg Eax) (src.Reg Ecx)) (eax_and_ecx 0xF0 0x0F) all_set ≡ goes_on (eax_and_ecx 0xF0 0x0F) (known_flags false true true false false)
  pub sign : sees (instr.Test Four (rm.Reg Eax) (src.Reg Eax)) (eax_and_ecx 0x80000001 0) all_set ≡ goes_on (eax_and_ecx 0x80000001 0) (known_flags false false false true false)
  pub byte : sees (instr.Test One (rm.Reg Eax) (src.Imm 0x80)) (eax_and_ecx 0x1280 0) all_set ≡ goes_on (eax_and_ecx 0x1280 0) (known_flags false false false true false)
  pub half : sees (instr.Test Two (rm.Reg Eax) (src.Imm 0x0003)) (eax_and_ecx 0xFFFF0007 0) all_set ≡ goes_on (eax_and_ecx 0xFFFF0007 0) (known_flags false true false false false)
  -- both operands are read
  pub itself : sees (instr.Test Four (rm.Reg Eax) (src.Reg Eax)) (with_eax unknown) all_set ≡ goes_on (with_eax unknown) no_flags
  pub constant_page : sees (instr.Test Four (memory_operand 0x2000) (src.Imm 0x40)) (eax_and_ecx 0 0) all_set ≡ goes_on (eax_and_ecx 0 0) (known_flags false false false false false)
  pub not_mapped : sees (instr.Test Four (memory_operand 0x5000) (src.Imm 0)) (eax_and_ecx 0 0) all_set ≡ Ended trace.MemoryFault

-- INC and DEC keep CF
pub record IncRows : Type 0 where
  pub inc_wraps : sees (instr.Inc Four (rm.Reg Eax)) (eax_and_ecx 0xFFFFFFFF 0) all_cleared ≡ goes_on (eax_and_ecx 0 0) (known_flags false true true false false)
  pub inc_overflows : sees (instr.Inc Four (rm.Reg Eax)) (eax_and_ecx 0x7FFFFFFF 0) all_set ≡ goes_on (eax_and_ecx 0x80000000 0) (known_flags true true false true true)
  pub inc_byte : sees (instr.Inc One (rm.Reg Eax)) (eax_and_ecx 0x12FF 0) all_set ≡ goes_on (eax_and_ecx 0x1200 0) (known_flags true true true false false)
  pub inc_half : sees (instr.Inc Two (rm.Reg Eax)) (eax_and_ecx 0x1FFFF 0) all_cleared ≡ goes_on (eax_and_ecx 0x10000 0) (known_flags false true true false false)
  -- CF stays known
  pub inc_unspecified : sees (instr.Inc Four (rm.Reg Eax)) (with_eax (unknown_below 0x100)) all_set ≡ goes_on (with_eax unknown) (record no_flags { cf = Some true })
  -- and unspecified
  pub inc_no_carry : sees (instr.Inc Four (rm.Reg Eax)) (eax_and_ecx 1 0) no_flags ≡ goes_on (eax_and_ecx 2 0) (five_flags None (Some false) (Some false) (Some false) (Some false))
  pub inc_memory : see (instr.Inc One (memory_operand 0x1000)) (eax_and_ecx 0 0) all_cleared 0x1000 2 ≡ Now (eax_and_ecx 0 0) (known_flags false false false true false) 0x3002 (bytes_of (0xA1 ∷ 0xA1 ∷ []))
  pub inc_not_writable : sees (instr.Inc Four (memory_operand 0x2000)) (eax_and_ecx 0 0) all_cleared ≡ Ended trace.MemoryFault
  pub dec_wraps : sees (instr.Dec Four (rm.Reg Eax)) (eax_and_ecx 0 0) all_cleared ≡ goes_on (eax_and_ecx 0xFFFFFFFF 0) (known_flags false true false true false)
  pub dec_overflows : sees (instr.Dec Four (rm.Reg Eax)) (eax_and_ecx 0x80000000 0) all_set ≡ goes_on (eax_and_ecx 0x7FFFFFFF 0) (known_flags true true false false true)
  pub dec_zero : sees (instr.Dec Four (rm.Reg Eax)) (eax_and_ecx 1 0) all_set ≡ goes_on (eax_and_ecx 0 0) (known_flags true true true false false)
  -- AH
  pub dec_byte : sees (instr.Dec One (rm.Reg Esp)) (eax_and_ecx 0x1200AA 0) all_cleared ≡ goes_on (eax_and_ecx 0x12FFAA 0) (known_flags false true false true false)
  pub dec_half : sees (instr.Dec Two (rm.Reg Eax)) (eax_and_ecx 0x10000 0) all_cleared ≡ goes_on (eax_and_ecx 0x1FFFF 0) (known_flags false true false true false)
  pub dec_unspecified : sees (instr.Dec Four (rm.Reg Eax)) (with_eax unknown) all_cleared ≡ goes_on (with_eax unknown) (record no_flags { cf = Some false })
  pub dec_memory : see (instr.Dec Two (memory_operand 0x1000)) (eax_and_ecx 0 0) all_cleared 0x1000 3 ≡ Now (eax_and_ecx 0 0) (known_flags false true false true false) 0x3002 (bytes_of (0x9F ∷ 0xA1 ∷ 0xA2 ∷ []))

-- NOT keeps all flags; NEG sets CF where the operand isn't 0
pub record NotRows : Type 0 where
  pub not_plain : sees (instr.Not Four (rm.Reg Eax)) (eax_and_ecx 0x0F0F0F0F 0) all_set ≡ goes_on (eax_and_ecx 0xF0F0F0F0 0) all_set
  pub not_flags : sees (instr.Not Four (rm.Reg Eax)) (eax_and_ecx 0 0) no_flags ≡ goes_on (eax_and_ecx 0xFFFFFFFF 0) no_flags
  -- AH
  pub not_byte : sees (instr.Not One (rm.Reg Esp)) (eax_and_ecx 0x12345678 0) all_cleared ≡ goes_on (eax_and_ecx 0x1234A978 0) all_cleared
  pub not_half : sees (instr.Not Two (rm.Reg Eax)) (eax_and_ecx 0x12345678 0) all_cleared ≡ goes_on (eax_and_ecx 0x1234A987 0) all_cleared
  -- byte by byte
  pub not_unspecified : sees (instr.Not Four (rm.Reg Eax)) (with_eax (unknown_below 0x100)) all_set ≡ goes_on (with_eax (record (word_of 0xFFFFFE00) { b0 = Unspecified })) all_set
  pub not_memory : see (instr.Not One (memory_operand 0x1000)) (eax_and_ecx 0 0) all_set 0x1000 2 ≡ Now (eax_and_ecx 0 0) all_set 0x3002 (bytes_of (0x5F ∷ 0xA1 ∷ []))
  pub not_not_writable : sees (instr.Not Four (memory_operand 0x2000)) (eax_and_ecx 0 0) all_cleared ≡ Ended trace.MemoryFault
  pub neg_zero : sees (instr.Neg Four (rm.Reg Eax)) (eax_and_ecx 0 0) all_set ≡ goes_on (eax_and_ecx 0 0) (known_flags false true true false false)
  pub neg_one : sees (instr.Neg Four (rm.Reg Eax)) (eax_and_ecx 1 0) all_cleared ≡ goes_on (eax_and_ecx 0xFFFFFFFF 0) (known_flags true true false true false)
  pub neg_least : sees (instr.Neg Four (rm.Reg Eax)) (eax_and_ecx 0x80000000 0) all_cleared ≡ goes_on (eax_and_ecx 0x80000000 0) (known_flags true true false true true)
  pub neg_byte : sees (instr.Neg One (rm.Reg Eax)) (eax_and_ecx 0x1280 0) all_cleared ≡ goes_on (eax_and_ecx 0x1280 0) (known_flags true false false true true)
  pub neg_half : sees (instr.Neg Two (rm.Reg Eax)) (eax_and_ecx 0x10001 0) all_cleared ≡ goes_on (eax_and_ecx 0x1FFFF 0) (known_flags true true false true false)
  pub neg_unspecified : sees (instr.Neg Four (rm.Reg Eax)) (with_eax (unknown_below 0)) all_set ≡ goes_on (with_eax unknown) no_flags
  pub neg_memory : see (instr.Neg One (memory_operand 0x1000)) (eax_and_ecx 0 0) all_cleared 0x1000 2 ≡ Now (eax_and_ecx 0 0) (known_flags true true false false false) 0x3002 (bytes_of (0x60 ∷ 0xA1 ∷ []))
