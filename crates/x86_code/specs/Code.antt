-- Which instruction stands at each address.
use Rattle.std.specs.Prelude.{ℕ, Option}
use Rattle.image.specs.declared.image.Image.{Image}
use Rattle.image.specs.Addresses.{code_bytes}
use Rattle.x86_types.specs.declared.instr.Instr.{Instr}
use Rattle.x86_grammar.specs.Front.{front}

-- the instruction that stands at an address, with its length, if one does
abbrev pub Code : Type 0
Code = ℕ → Option (Instr × ℕ)

-- that of an image: a front of the bytes that can be run from the address on spells it. No instruction is longer than 15 bytes
-- (Intel SDM volume 2, section 2.3.11).
unfoldable pub code_of : Image → Code
code_of image a = front (code_bytes image a 15)
