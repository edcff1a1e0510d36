-- The names in the slots of an instruction, and the MOVs beside it.
use Rattle.std.proofs.Common.{◌≡◌, ℕ, suc, ◌+◌, ◌*◌, ◌≤◌, ◌==◌, ◌&&◌, ◌||◌, not, is_some, Bool, true, false, cond, List, [], ◌∷◌, length, fold, Option, Some, None, refl, sym, ap, ◌∙◌, arith}
use Rattle.std.proofs.lemmas.Bool.{le-ltb, ne_eqb}
use Rattle.x86_types.specs.declared.operand.Reg.TheVariants as reg
use Rattle.named_code.specs.declared.slot.Slot.{Slot}
use Rattle.named_code.specs.declared.slot.Slot.TheVariants.{Fixed, Name}
use Rattle.named_code.specs.declared.named.VInstr.{VInstr}
use Rattle.named_code.specs.Items.{place_of, naming_of, named_item}
use Rattle.name_cells.specs.Holders.{has_byte_field, name_or, borrows_ebx}
use Rattle.code_bounds.specs.Steps.{count_of_place, named_fields, lent_count, move_count}

abbrev pub count : List Slot → ℕ
count [] = 0
count (Fixed r ∷ slots) = count slots
count (Name n ∷ slots) = suc (count slots)

abbrev pub has_name : List Slot → Bool
has_name [] = false
has_name (Fixed r ∷ slots) = has_name slots
has_name (Name n ∷ slots) = true

abbrev pub moves_of : VInstr → ℕ
moves_of x = 2 * (count x.slots + cond (has_byte_field x.instr && has_name x.slots) 1 0)

-- ---- by the places of the fields
counted : (s : Slot) (slots : List Slot) → count (s ∷ slots) ≡ count_of_place (place_of s) + count slots
counted (Fixed r) slots = let e : count_of_place (place_of (Fixed r)) ≡ 0 = elim r as (λ r. count_of_place (place_of (Fixed r)) ≡ 0) [ reg.Eax ↦ refl | _ ↦ refl ] in omega (arith, e)
counted (Name n) slots = let e : count_of_place (8 + n) ≡ 1 = ap (λ b. cond b 0 1) (le-ltb (8 + n) 8 (omega arith)) in omega (arith, e)

pub counted_fields : (slots : List Slot) → length slots ≤ 3 → named_fields (naming_of slots) ≡ count slots
counted_fields [] h = refl
counted_fields (a ∷ []) h = let e = counted a [] in omega (arith, e)
counted_fields (a ∷ b ∷ []) h = let e = counted a (b ∷ []) in let g = counted b [] in omega (arith, e, g)
counted_fields (a ∷ b ∷ c ∷ []) h = let e = counted a (b ∷ c ∷ []) in let g = counted b (c ∷ []) in let k = counted c [] in omega (arith, e, g, k)
counted_fields (a ∷ b ∷ c ∷ d ∷ slots) h = absurd (omega (arith, h))

not_zero : (n : ℕ) → true ≡ not (suc n == 0)
not_zero n = ap not (sym (ne_eqb (suc n) 0 (λ e. omega (arith, e))))

has_counted : (slots : List Slot) → has_name slots ≡ not (count slots == 0)
has_counted [] = refl
has_counted (Fixed r ∷ slots) = has_counted slots
has_counted (Name n ∷ slots) = not_zero (count slots)

-- ---- by the last name
or_true : (b : Bool) → (b || true) ≡ true
or_true true = refl
or_true false = refl

or_false : (b : Bool) → b ≡ (b || false)
or_false true = refl
or_false false = refl

has_last : (slots : List Slot) (last : Option ℕ) → is_some (fold name_or last slots) ≡ (is_some last || has_name slots)
has_last [] last = or_false (is_some last)
has_last (Fixed r ∷ slots) last = has_last slots last
has_last (Name n ∷ slots) last = has_last slots (Some n) ∙ sym (or_true (is_some last))

pub borrows : (x : VInstr) → borrows_ebx x ≡ (has_byte_field x.instr && has_name x.slots)
borrows x = ap (λ b. has_byte_field x.instr && b) (has_last x.slots None)

-- ---- the MOVs
pub moves_are : (x : VInstr) → length x.slots ≤ 3 → move_count (named_item x) ≡ moves_of x
moves_are x h =
    ap (λ n. 2 * (n + lent_count (has_byte_field x.instr) n)) (counted_fields x.slots h)
    ∙ ap (λ b. 2 * (count x.slots + cond (has_byte_field x.instr && b) 1 0)) (sym (has_counted x.slots))
