-- The laws of the instructions of an image.
use Rattle.std.specs.Prelude.{◌≡◌, ℕ, ◌≤◌, Some, None}
use Rattle.image.specs.declared.image.Image.{Image}
use Rattle.image.specs.Addresses.{code_byte_at, code_bytes}
use Rattle.x86_types.specs.declared.instr.Instr.{Instr}
use Rattle.x86_grammar.specs.Front.{front}
use Rattle.x86_code.specs.Code.{code_of}

pub record CodeLaws : Type 0 where
  -- any longer front of the bytes that can be run shows the same instruction
  pub by_bytes : (image : Image) (a n : ℕ) → 15 ≤ n → code_of image a ≡ front (code_bytes image a n)
  -- it has at most 15 bytes
  pub few : (image : Image) (a : ℕ) (i : Instr) (len : ℕ) → code_of image a ≡ Some (i, len) → len ≤ 15
  -- none stands where the first byte can't be run
  pub none : (image : Image) (a : ℕ) → code_byte_at image a ≡ None → code_of image a ≡ None
