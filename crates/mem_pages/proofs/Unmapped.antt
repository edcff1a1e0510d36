-- A byte that is put where nothing is mapped changes nothing.
use Rattle.std.proofs.Common.{◌≡◌, ℕ, Bool, true, false, cond, eqb, Option, Some, None, refl, sym, ap, ◌∙◌}
use Rattle.std.specs.Option.{option_map, is_some}
use Rattle.std.proofs.lemmas.Bool.{eqb-true}
use Rattle.x86_values.specs.declared.byte.Byte.{Byte}
use Rattle.memory.specs.Memory.{Place, Memory, with_byte, put}

not_mapped : (o : Option Place) → is_some (option_map (λ (p : Place). p.can_write) o) ≡ false → o ≡ None
not_mapped None h = refl
not_mapped (Some p) h = absurd (cc h)

pub put_nowhere : (m : Memory) (at : ℕ) (b : Byte) (o : Option Bool) → o ≡ option_map (λ (p : Place). p.can_write) (m at) → is_some o ≡ false → m ≡ put at b m
unfolding put
put_nowhere m at b o is none = λ i a. by a (eqb a at) refl i
  where
    here : m at ≡ None
    here = not_mapped (m at) (sym (ap is_some is) ∙ none)

    by : (a : ℕ) (t : Bool) → eqb a at ≡ t → m a ≡ cond t (with_byte b (m a)) (m a)
    by a false e = refl
    by a true e = let same : m a ≡ None = ap m (eqb-true a at e) ∙ here in same ∙ sym (ap (with_byte b) same)
