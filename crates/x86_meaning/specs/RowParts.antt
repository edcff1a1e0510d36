-- What worked rows of moves, of the stack, of jumps and of strings share: addresses, registers that all differ, and bytes of which
-- nothing is known.
use Rattle.std.specs.Prelude.{ℕ, zero, suc, List, [], ◌∷◌, replicate, Some, None}
use Rattle.x86_values.specs.declared.byte.Byte.{Byte}
use Rattle.x86_values.specs.declared.byte.Byte.TheVariants.{Unspecified}
use Rattle.x86_values.specs.declared.word.Word.{Word}
use Rattle.x86_values.specs.Words.{word_of}
use Rattle.x86_types.specs.declared.operand.Reg.{Reg}
use Rattle.x86_types.specs.declared.operand.Address.{Address}
use Rattle.x86_meaning.specs.StepRows.{registers}

-- an address without registers, one from a register on, and one with an index and its scale
abbrev pub absolute : ℕ → Address
absolute n = record { base = None; index = None; scale = 1; disp = n }

abbrev pub based : Reg → ℕ → Address
based r n = record { base = Some r; index = None; scale = 1; disp = n }

abbrev pub indexed : Reg → Reg → ℕ → ℕ → Address
indexed base index scale n = record { base = Some base; index = Some index; scale = scale; disp = n }

-- registers of which no two have a byte in common; ESP is 0x8000
abbrev pub distinct : List Word
distinct = registers 0x11121314 0x21222324 0x31323334 0x41424344 0x61626364 0x71727374 0xE1E2E3E4

-- one of them is another word, or the word of a number
abbrev pub with_word : ℕ → Word → List Word → List Word
with_word n w [] = []
with_word zero w (x ∷ xs) = w ∷ xs
with_word (suc n) w (x ∷ xs) = x ∷ with_word n w xs

abbrev pub with_value : ℕ → ℕ → List Word → List Word
with_value n value ws = with_word n (word_of value) ws

-- so many unspecified bytes
abbrev pub lost : ℕ → List Byte
lost n = replicate n Unspecified
