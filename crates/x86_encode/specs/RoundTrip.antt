-- What is put is read back.
use Rattle.std.specs.Prelude.{◌≡◌, ℕ, List, take}
use Rattle.x86_types.specs.declared.instr.Instr.{Instr}
use Rattle.x86_decode.specs.declared.decoding.Decoded.{Decoded}
use Rattle.x86_decode.specs.declared.decoding.Decoded.TheVariants.{One}
use Rattle.x86_encode.specs.Best.{IsBest, IsBestWide}

-- the best spelling stands at the front, and the answer is the instruction with its length
pub record ComesBack (i : Instr) (bytes : List ℕ) (d : Decoded) : Type 0 where
  pub len : ℕ
  pub best : IsBest i (take len bytes)
  pub is : d ≡ One i len

pub record ComesBackWide (i : Instr) (bytes : List ℕ) (d : Decoded) : Type 0 where
  pub len : ℕ
  pub best : IsBestWide i (take len bytes)
  pub is : d ≡ One i len
