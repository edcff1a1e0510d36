-- The clauses of `decode` as one fact about bytes and an answer, for the crates above.
use Rattle.std.specs.Prelude.{◌≡◌, ◌↔◌, ℕ, List}
use Rattle.x86_types.specs.declared.instr.Instr.{Instr}
use Rattle.x86_grammar.specs.Fronts.{FrontSpells, IsShort, IsOutside}
use Rattle.x86_decode.specs.declared.decoding.Decoded.{Decoded}
use Rattle.x86_decode.specs.declared.decoding.Decoded.TheVariants.{One, Short, Outside}

-- what the bytes begin with
pub record Decodes (bytes : List ℕ) (d : Decoded) : Type 0 where
  pub one : (i : Instr) (len : ℕ) → (d ≡ One i len) ↔ FrontSpells bytes i len
  pub short : (d ≡ Short) ↔ IsShort bytes
  pub outside : (d ≡ Outside) ↔ IsOutside bytes
