use Rattle.std.proofs.Common.{◌≡◌, ◌⊎◌, ℕ, Option, Some, None, refl, sym, inl, inr}
use Rattle.x86_types.specs.declared.instr.Instr.{Instr}
use Rattle.x86_decode.specs.declared.decoding.Decoded.{Decoded}
use Rattle.x86_decode.specs.declared.decoding.Decoded.TheVariants.{One, Short, Outside}
use Rattle.rewrite_core.proofs.places.front.Goals as goal

pub returns-in-One : goal.returns-in-One
returns-in-One c = sym ((c.decode.ensures.computed c.in-One.instr c.in-One.len).0 c.in-One.is)

-- what isn't `One` is where nothing is found
not_one : (o : Option (Instr × ℕ)) (d : Decoded) → ((i : Instr) (len : ℕ) → o ≡ Some (i, len) → d ≡ One i len) → (d ≡ Short) ⊎ (d ≡ Outside) → None ≡ o
not_one None d h k = refl
not_one (Some p) d h (inl e) = let one = h p.0 p.1 refl in cc
not_one (Some p) d h (inr e) = let one = h p.0 p.1 refl in cc

pub returns-in-Short : goal.returns-in-Short
returns-in-Short c = not_one _ c.decode.result (λ i len h. (c.decode.ensures.computed i len).1 h) c.in-Short.is
