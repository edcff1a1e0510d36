-- Words, flags and results that are written out, for worked rows.
use Rattle.std.specs.Prelude.{ℕ, ◌==◌, Bool, Option, Some, None}
use Rattle.x86_values.specs.declared.byte.Byte.{Byte}
use Rattle.x86_values.specs.declared.word.Word.{Word}
use Rattle.x86_values.specs.declared.word.Flags.{Flags}
use Rattle.x86_values.specs.declared.answered.Answered.{Answered}
use Rattle.x86_values.specs.Words.{word_of}

-- a word by its bytes, the lowest first
abbrev pub bytes : Byte → Byte → Byte → Byte → Word
bytes a b c d = record { b0 = a; b1 = b; b2 = c; b3 = d }

-- a flag that is 0 or 1
abbrev pub flag : ℕ → Option Bool
flag n = Some (n == 1)

-- CF, PF, ZF, SF and OF, each 0 or 1
abbrev pub flags : ℕ → ℕ → ℕ → ℕ → ℕ → Flags
flags cf pf zf sf of = record { cf = flag cf; pf = flag pf; zf = flag zf; sf = flag sf; of = flag of }

abbrev pub unknown_flags : Flags
unknown_flags = record { cf = None; pf = None; zf = None; sf = None; of = None }

-- a number and five flags
abbrev pub answer_with : ℕ → Flags → Answered
answer_with n f = record { value = word_of n; flags = f }

-- a word, of whose flags nothing is known
abbrev pub unflagged : Word → Answered
unflagged w = record { value = w; flags = unknown_flags }
