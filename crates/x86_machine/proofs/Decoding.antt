-- What is decoded where no instruction stands.
use Rattle.std.proofs.Common.{◌≡◌, ◌↔◌, ℕ, Option, Some, None, refl}
use Rattle.x86_types.specs.declared.instr.Instr.{Instr}
use Rattle.x86_decode.specs.declared.decoding.Decoded.{Decoded}
use Rattle.x86_decode.specs.declared.decoding.Decoded.TheVariants.{One, Outside, Short}

pub none_decoded : (d : Decoded) (o : Option (Instr × ℕ)) → ((i : Instr) (len : ℕ) → (d ≡ One i len) ↔ (o ≡ Some (i, len))) → ((i : Instr) (len : ℕ) → d ≡ One i len → ⊥) → None ≡ o
none_decoded d None f g = refl
none_decoded d (Some p) f g = absurd (g p.0 p.1 ((f p.0 p.1).1 refl))

pub outside_is_none : (i : Instr) (len : ℕ) → Outside ≡ One i len → ⊥
outside_is_none i len e = cc

pub short_is_none : (i : Instr) (len : ℕ) → Short ≡ One i len → ⊥
short_is_none i len e = cc
