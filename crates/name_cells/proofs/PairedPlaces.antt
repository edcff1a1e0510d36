-- The pairs of an instruction: which they are, and that no place is in two.
use Rattle.std.proofs.Common.{◌≡◌, ◌⊎◌, inl, inr, ℕ, ◌+◌, ◌<◌, Bool, true, false, cond, is_some, List, [], ◌∷◌, ◌++◌, flat_map, Option, Some, None, refl, sym, ap, ◌∙◌, subst, arith}
use Rattle.std.proofs.lemmas.Bool.{eqb-true}
use Rattle.x86_types.specs.declared.operand.Reg.TheVariants.{Ebx, Ebp, Esi}
use Rattle.x86_types.specs.Numbers.{number_of_reg}
use Rattle.field_places.specs.Pairs.{ArePaired, IsOneToOne}
use Rattle.named_code.specs.declared.slot.Slot.{Slot}
use Rattle.named_code.specs.declared.slot.Slot.TheVariants.{Fixed, Name}
use Rattle.named_code.specs.declared.named.VInstr.{VInstr}
use Rattle.named_code.specs.Items.{name_place}
use Rattle.name_cells.specs.Holders.{has_byte_field, last_name, is_last, holder, borrows_ebx}
use Rattle.name_cells.specs.CanBePlaced.{HasName, IsInstrPlaceable}
use Rattle.name_cells.specs.Pairs.{slot_pair, pairs_of}

-- ---- the last name
pub last_is : (last : Option ℕ) (n : ℕ) → is_last last n ≡ true → last ≡ Some n
last_is None n e = absurd cc
last_is (Some m) n e = ap (λ (k : ℕ). Some k) (eqb-true m n e)

pub last_once : (last : Option ℕ) (n m : ℕ) → is_last last n ≡ true → is_last last m ≡ true → n ≡ m
last_once last n m e f = let g = last_is last n e in let h = last_is last m f in once last g h
  where
    once : (o : Option ℕ) → o ≡ Some n → o ≡ Some m → n ≡ m
    once None g h = absurd cc
    once (Some k) g h = cc

-- ---- what a pair is: a register with itself, or a name with its holder
abbrev pub IsNamePair : Bool → Option ℕ → List Slot → ℕ → ℕ → Type 0
IsNamePair byte last slots p q = (n : ℕ) × (p ≡ name_place n) × (q ≡ number_of_reg (holder byte last n)) × HasName n slots

pub record IsItself (borrows : Bool) (p q : ℕ) : Type 0 where
  pub same : p ≡ q
  pub low : p < 4
  pub below : borrows ≡ true → p < 3

abbrev pub IsPair : VInstr → ℕ → ℕ → Type 0
IsPair x p q = IsItself (borrows_ebx x) p q ⊎ IsNamePair (has_byte_field x.instr) (last_name x.slots) x.slots p q

name_pairs : (byte : Bool) (last : Option ℕ) (slots : List Slot) (p q : ℕ) → ArePaired (flat_map (slot_pair byte last) slots) p q → IsNamePair byte last slots p q
name_pairs byte last [] p q h = absurd h
name_pairs byte last (Fixed r ∷ slots) p q h = let k = name_pairs byte last slots p q h in (k.0, k.1, k.2, inr k.3)
name_pairs byte last (Name n ∷ slots) p q (inl h) = (n, h.0, h.1, inl refl)
name_pairs byte last (Name n ∷ slots) p q (inr h) = let k = name_pairs byte last slots p q h in (k.0, k.1, k.2, inr k.3)

itself : (b : Bool) (n p q : ℕ) → n < 3 → p ≡ n → q ≡ n → IsItself b p q
itself b n p q low e f = record { same = e ∙ sym f; low = omega arith; below = λ _. omega arith }

behind : (b byte : Bool) (last : Option ℕ) (slots : List Slot) (p q : ℕ) → ArePaired (cond b [] ((3, 3) ∷ []) ++ flat_map (slot_pair byte last) slots) p q → IsItself b p q ⊎ IsNamePair byte last slots p q
behind true byte last slots p q h = inr (name_pairs byte last slots p q h)
behind false byte last slots p q (inl h) = inl (record { same = h.0 ∙ sym h.1; low = let e = h.0 in omega arith; below = λ e. absurd cc })
behind false byte last slots p q (inr h) = inr (name_pairs byte last slots p q h)

pub which : (x : VInstr) (p q : ℕ) → ArePaired (pairs_of x) p q → IsPair x p q
which x p q (inl h) = inl (itself _ 0 p q (omega arith) h.0 h.1)
which x p q (inr (inl h)) = inl (itself _ 1 p q (omega arith) h.0 h.1)
which x p q (inr (inr (inl h))) = inl (itself _ 2 p q (omega arith) h.0 h.1)
which x p q (inr (inr (inr h))) = behind (borrows_ebx x) (has_byte_field x.instr) (last_name x.slots) x.slots p q h

-- ---- the numbers of holders
abbrev held : Bool → Bool → ℕ
held last byte = number_of_reg (cond last (cond byte Ebx Esi) Ebp)

same_held : (a b byte : Bool) → held a byte ≡ held b byte → a ≡ b
same_held true true byte e = refl
same_held false false byte e = refl
same_held true false true e = absurd (omega (arith, e))
same_held true false false e = absurd (omega (arith, e))
same_held false true true e = absurd (omega (arith, e))
same_held false true false e = absurd (omega (arith, e))

-- one below 4 is EBX, which is borrowed
low_held : (a byte : Bool) → held a byte < 4 → (a ≡ true) × (byte ≡ true) × (held a byte ≡ 3)
low_held true true h = (refl, refl, refl)
low_held true false h = absurd (omega (arith, h))
low_held false true h = absurd (omega (arith, h))
low_held false false h = absurd (omega (arith, h))

some_last : (last : Option ℕ) (n : ℕ) → is_last last n ≡ true → is_some last ≡ true
some_last None n e = absurd cc
some_last (Some m) n e = refl

module _ (x : VInstr) (h : IsInstrPlaceable x) where
  abbrev byte : Bool
  byte = has_byte_field x.instr

  abbrev last : Option ℕ
  last = last_name x.slots

  -- two names with one holder are one
  pub same_name : (n m : ℕ) → HasName n x.slots → HasName m x.slots → number_of_reg (holder byte last n) ≡ number_of_reg (holder byte last m) → n ≡ m
  same_name n m k l e = by (is_last last n) (is_last last m) refl refl (same_held (is_last last n) (is_last last m) byte e)
    where
      by : (a b : Bool) → is_last last n ≡ a → is_last last m ≡ b → is_last last n ≡ is_last last m → n ≡ m
      by true b f g s = last_once last n m f (sym s ∙ f)
      by false b f g s = h.two n m k l f (sym s ∙ f)

  pub clash : (p n : ℕ) → p ≡ number_of_reg (holder byte last n) → p < 4 → (borrows_ebx x ≡ true → p < 3) → ⊥
  clash p n e low below =
      let l = low_held (is_last last n) byte (subst (λ (k : ℕ). k < 4) e low) in
      let borrows : borrows_ebx x ≡ true = rw (l.1, some_last last n l.0) refl in
      let three : p < 3 = below borrows in
      let is : p ≡ 3 = e ∙ l.2 in
      omega arith

  right : (p q r : ℕ) → IsPair x p q → IsPair x p r → q ≡ r
  right p q r (inl a) (inl b) = sym a.same ∙ b.same
  right p q r (inl a) (inr b) = absurd (let low = a.low in let e : p ≡ 8 + b.0 = b.1 in omega arith)
  right p q r (inr a) (inl b) = absurd (let low = b.low in let e : p ≡ 8 + a.0 = a.1 in omega arith)
  right p q r (inr a) (inr b) =
      let e : p ≡ 8 + a.0 = a.1 in
      let f : p ≡ 8 + b.0 = b.1 in
      let g : a.0 ≡ b.0 = omega arith in
      a.2 ∙ ap (λ (n : ℕ). number_of_reg (holder byte last n)) g ∙ sym b.2

  left : (p q r : ℕ) → IsPair x p r → IsPair x q r → p ≡ q
  left p q r (inl a) (inl b) = a.same ∙ sym b.same
  left p q r (inl a) (inr b) = absurd (clash p b.0 (a.same ∙ b.2) a.low a.below)
  left p q r (inr a) (inl b) = absurd (clash q a.0 (b.same ∙ a.2) b.low b.below)
  left p q r (inr a) (inr b) = a.1 ∙ ap name_place (same_name a.0 b.0 a.3 b.3 (sym a.2 ∙ b.2)) ∙ sym b.1

  pub one_to_one : IsOneToOne (pairs_of x)
  one_to_one = record { to_right = λ p q r a b. right p q r (which x p q a) (which x p r b); to_left = λ p q r a b. left p q r (which x p r a) (which x q r b) }
