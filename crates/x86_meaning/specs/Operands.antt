-- Where the operands of an instruction stand, and what is read there and written (Intel SDM volume 2, section 2.1.5).
use Rattle.std.specs.Prelude.{ℕ, ◌+◌, ◌*◌, ◌%◌, List, [], ◌∷◌, take, drop, Option, Some, None}
use Rattle.std.specs.Option.{option_map}
use Rattle.x86_values.specs.declared.byte.Byte.{Byte}
use Rattle.x86_values.specs.declared.word.Word.{Word}
use Rattle.x86_values.specs.Words.{word_of, known, word_list, padded}
use Rattle.x86_values.specs.Sizes.{no_word}
use Rattle.memory.specs.Memory.{Memory, AccessKind, bytes_at}
use Rattle.x86_types.specs.declared.operand.Reg.{Reg}
use Rattle.x86_types.specs.declared.operand.Address.{Address}
use Rattle.x86_types.specs.declared.operand.Rm.{Rm}
use Rattle.x86_types.specs.declared.operand.Rm.TheVariants as rm
use Rattle.x86_types.specs.declared.operand.Src.{Src}
use Rattle.x86_types.specs.declared.operand.Src.TheVariants as src
use Rattle.x86_types.specs.declared.width.Width.{Width}
use Rattle.x86_types.specs.declared.width.Width.TheVariants.{One, Two, Four}
use Rattle.x86_meaning.specs.Registers.{Registers, Naming}

-- where an operand stands: in a register's place from the byte with an index on, in memory from an address on, or nowhere, since it
-- is a number of the instruction's own, which may be unspecified
pub data Location : Type 0 where
  InRegister : (place : ℕ) → (index : ℕ) → Location
  InMemory : (at : ℕ) → Location
  Constant : (number : Option ℕ) → Location

-- that of a register field, by its width
abbrev pub field : Naming → Width → Reg → Location
field v One r = let p = v.byte r in InRegister p.0 p.1
field v Two r = InRegister (v.whole r) 0
field v Four r = InRegister (v.whole r) 0

-- the number of a register that an address uses, and 0 where it uses none
abbrev pub address_part : Naming → Registers → Option Reg → Option ℕ
address_part v regs None = Some 0
address_part v regs (Some r) = known (regs (v.whole r))

abbrev pub address_sum : Address → Option ℕ → Option ℕ → Option ℕ
address_sum a (Some base) (Some index) = Some ((base + index * a.scale + a.disp) % 4294967296)
address_sum a _ _ = None

-- base, index times scale and displacement, modulo 2^32; none where a byte of these registers is unspecified
abbrev pub effective_address : Naming → Registers → Address → Option ℕ
effective_address v regs a = address_sum a (address_part v regs a.base) (address_part v regs a.index)

-- the operand of the rm field
abbrev pub location_of : Naming → Registers → Width → Rm → Option Location
location_of v regs w (rm.Reg r) = Some (field v w r)
location_of v regs w (rm.Mem a) = option_map InMemory (effective_address v regs a)

-- an operand that is read
abbrev pub source_of : Naming → Registers → Width → Src → Option Location
source_of v regs w (src.Reg r) = Some (field v w r)
source_of v regs w (src.Mem a) = option_map InMemory (effective_address v regs a)
source_of v regs w (src.Imm n) = Some (Constant (Some n))

-- an operand of so many bytes
pub record SizedOperand : Type 0 where
  pub size : ℕ
  pub location : Location

abbrev pub operand : ℕ → Location → SizedOperand
operand size l = record { size = size; location = l }

-- an access of memory, of so many bytes from an address on
pub record Access : Type 0 where
  pub kind : AccessKind
  pub at : ℕ
  pub size : ℕ

-- what an operand is accessed by, before other accesses, if it stands in memory
abbrev pub access : AccessKind → ℕ → Location → List Access → List Access
access kind size (InRegister p i) more = more
access kind size (InMemory at) more = record { kind = kind; at = at; size = size } ∷ more
access kind size (Constant n) more = more

-- the accesses of operands, in order
abbrev pub accesses_of : AccessKind → List SizedOperand → List Access
accesses_of kind [] = []
accesses_of kind (o ∷ os) = access kind o.size o.location (accesses_of kind os)

-- the word of a number, of which nothing is known where there is none
abbrev pub word_if : Option ℕ → Word
word_if None = no_word
word_if (Some n) = word_of n

-- the bytes of an operand
abbrev pub bytes_in : ℕ → Location → Registers → Memory → List Byte
bytes_in size (InRegister p i) regs m = take size (drop i (word_list (regs p)))
bytes_in size (InMemory at) regs m = bytes_at m at size
bytes_in size (Constant n) regs m = take size (word_list (word_if n))

-- the value of an operand: its bytes, and zeros above them
abbrev pub value_in : SizedOperand → Registers → Memory → Word
value_in o regs m = padded (bytes_in o.size o.location regs m)

-- the values of operands, in order
abbrev pub values_in : List SizedOperand → Registers → Memory → List Word
values_in [] regs m = []
values_in (o ∷ os) regs m = value_in o regs m ∷ values_in os regs m
