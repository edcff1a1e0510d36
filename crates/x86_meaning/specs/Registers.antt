-- The registers as places, and the places that an instruction's register fields name.
use Rattle.std.specs.Prelude.{ℕ, ◌+◌, ◌==◌, cond, List, ◌++◌, take, drop, length}
use Rattle.x86_values.specs.declared.byte.Byte.{Byte}
use Rattle.x86_values.specs.declared.word.Word.{Word}
use Rattle.x86_values.specs.declared.word.Flags.{Flags}
use Rattle.x86_values.specs.Words.{word_list, padded}
use Rattle.x86_types.specs.declared.operand.Reg.{Reg}
use Rattle.x86_types.specs.Numbers.{number_of_reg}
use Rattle.x86_types.specs.Registers.{byte_register}

-- a word at each place: the machine has its eight registers by number, and code over names has more places
abbrev pub Registers : Type 0
Registers = ℕ → Word

-- one place has another word
unfoldable pub with_register : ℕ → Word → Registers → Registers
with_register n w regs k = cond (k == n) w (regs k)

-- a word whose bytes from an index on are others
abbrev pub with_bytes : ℕ → List Byte → Word → Word
with_bytes i bytes w = padded (take i (word_list w) ++ (bytes ++ drop (i + length bytes) (word_list w)))

-- the registers and the flags, which an effect changes
pub record Processor : Type 0 where
  pub regs : Registers
  pub flags : Flags

-- the place that a field of two or four bytes names, and for a field of one byte the place with the index of its byte
pub record Naming : Type 0 where
  pub whole : Reg → ℕ
  pub byte : Reg → ℕ × ℕ

-- the place and the byte of AL, CL, DL, BL, AH, CH, DH and BH
abbrev pub byte_place : Reg → ℕ × ℕ
byte_place r = let b = byte_register r in (number_of_reg b.reg, b.byte)

-- the machine's own: each field names its register
abbrev pub machine_naming : Naming
machine_naming = record { whole = number_of_reg; byte = byte_place }
