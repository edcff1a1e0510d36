-- A small code can be placed.
use Rattle.std.proofs.Common.{◌≡◌, ◌≢◌, ℕ, ◌<◌, Bool, true, false, List, [], ◌∷◌, All, inl, inr, refl, sym, ap, ◌∙◌, subst, arith}
use Rattle.std.proofs.lemmas.List.Elements.{All-nil, All-cons}
use Rattle.x86_types.specs.declared.operand.Reg.TheVariants.{Ebx}
use Rattle.field_places.specs.Fields.{fields, implicit_registers}
use Rattle.named_code.specs.declared.slot.Slot.{Slot}
use Rattle.named_code.specs.declared.slot.Slot.TheVariants.{Fixed, Name}
use Rattle.named_code.specs.declared.named.VBlock.{VBlock}
use Rattle.name_cells.specs.SmallCode.{small_instr, small_code}
use Rattle.name_cells.specs.CanBePlaced.{IsPlaceable, HasName, IsFieldPlaceable, IsInstrPlaceable, IsBlockPlaceable, CanBePlaced}

single : {X : Type 0} (P : X → Type 0) (x : X) → P x → All P (x ∷ [])
single P x h = All-cons P x [] h (All-nil P)

is_name : (s : Slot) → Bool
is_name (Fixed r) = false
is_name (Name n) = true

not_fixed : Name 2 ≢ Fixed Ebx
unfolding is_name
not_fixed e = absurd (let f : is_name (Name 2) ≡ is_name (Fixed Ebx) = ap is_name e in cc)

abbrev number : Slot → ℕ
number (Fixed r) = 0
number (Name n) = n

is_two : (n : ℕ) → HasName n (Name 2 ∷ []) → n ≡ 2
is_two n (inl e) = sym (ap number e)
is_two n (inr h) = absurd h

placeable : CanBePlaced small_code
unfolding fields implicit_registers
placeable =
    single IsBlockPlaceable _ (single IsInstrPlaceable small_instr (record {
      few = omega arith;
      slots = single IsPlaceable (Name 2) (omega arith);
      by_field = single (IsFieldPlaceable (Name 2 ∷ [])) _ (record { early = omega arith; fits = refl });
      implicit = All-nil (λ n. n < 4);
      two = λ n m h k a b. is_two n h ∙ sym (is_two m k);
      ebx = λ e. record { slots = single (λ s. s ≢ Fixed Ebx) (Name 2) not_fixed; implicit = All-nil (λ n. n < 3) };
      falls = λ e. tt;
    }))

pub small_can_be_placed : (code : List VBlock) → code ≡ small_code → CanBePlaced code
small_can_be_placed code e = subst CanBePlaced (sym e) placeable
