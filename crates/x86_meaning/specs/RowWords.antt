-- What worked steps of products, shifts and moves between widths share: operands in memory, and words of which some bytes are
-- unspecified.
use Rattle.std.specs.Prelude.{ℕ, List, [], ◌∷◌, Some, None}
use Rattle.x86_values.specs.declared.byte.Byte.TheVariants.{Unspecified}
use Rattle.x86_values.specs.declared.word.Word.{Word}
use Rattle.x86_values.specs.Words.{word_of}
use Rattle.x86_types.specs.declared.operand.Reg.{Reg}
use Rattle.x86_types.specs.declared.operand.Rm.{Rm}
use Rattle.x86_types.specs.declared.operand.Rm.TheVariants as rm

-- the operand at an address
abbrev pub memory_at : ℕ → Rm
memory_at at = rm.Mem (record { base = None; index = None; scale = 1; disp = at })

-- at a register and a displacement
abbrev pub memory_from : Reg → ℕ → Rm
memory_from base disp = rm.Mem (record { base = Some base; index = None; scale = 1; disp = disp })

-- at a register, another one times a scale, and a displacement
abbrev pub memory_by : Reg → Reg → ℕ → ℕ → Rm
memory_by base index scale disp = rm.Mem (record { base = Some base; index = Some index; scale = scale; disp = disp })

-- EAX, ECX, EDX and EBX; ESP is 0x8000, and the others are 0
abbrev pub words : Word → Word → Word → Word → List Word
words eax ecx edx ebx = eax ∷ ecx ∷ edx ∷ ebx ∷ word_of 0x8000 ∷ word_of 0 ∷ word_of 0 ∷ word_of 0 ∷ []

-- a number of which the second byte isn't known; of which the highest isn't; of which the two lowest aren't; of which the lowest alone
-- is
abbrev pub unknown_second : ℕ → Word
unknown_second n = record (word_of n) { b1 = Unspecified }

abbrev pub unknown_highest : ℕ → Word
unknown_highest n = record (word_of n) { b3 = Unspecified }

abbrev pub unknown_half : ℕ → Word
unknown_half n = record (word_of n) { b0 = Unspecified; b1 = Unspecified }

abbrev pub unknown_above : ℕ → Word
unknown_above n = record (word_of n) { b1 = Unspecified; b2 = Unspecified; b3 = Unspecified }
