-- An instruction's own item uses pairs.
use Rattle.std.proofs.Common.{◌≡◌, ◌≢◌, ◌⊎◌, inl, inr, ℕ, zero, suc, ◌<◌, Bool, true, false, cond, List, [], ◌∷◌, ◌++◌, flat_map, slice_get, All, Option, Some, None, refl, sym, ap, ◌∙◌, subst, arith}
use Rattle.std.proofs.lemmas.List.Elements.{All-head, All-tail}
use Rattle.x86_values.specs.declared.word.Flags.{Flags}
use Rattle.memory.specs.Memory.{Memory}
use Rattle.x86_types.specs.declared.operand.Reg.{Reg}
use Rattle.x86_types.specs.declared.operand.Reg.TheVariants.{Eax, Ecx, Edx, Ebx, Esp, Ebp, Esi, Edi}
use Rattle.x86_types.specs.Numbers.{number_of_reg}
use Rattle.x86_types.specs.Registers.{RegisterField, Index, Whole, Byte, renamed}
use Rattle.x86_meaning.specs.Registers.{Registers, byte_place, machine_naming}
use Rattle.x86_meaning.specs.Effect.{accesses, effect}
use Rattle.field_places.specs.Fields.{Field, fields, implicit_registers}
use Rattle.field_places.specs.Pairs.{Pairs, ArePaired, HoldTheSame, KindIsPaired, FieldsArePaired, PairedWithThemselves, UsesPairs, ResultsAlike}
use Rattle.field_places.specs.FieldPlaceLaws.{FieldPlaceLaws, processor}
use Rattle.named_code.specs.declared.slot.Slot.{Slot}
use Rattle.named_code.specs.declared.slot.Slot.TheVariants.{Fixed, Name}
use Rattle.named_code.specs.declared.named.VInstr.{VInstr}
use Rattle.named_code.specs.Items.{name_place, place_of, byte_of, slot_or, slot_at, naming_of}
use Rattle.name_cells.specs.Renaming.{register_of}
use Rattle.name_cells.specs.Holders.{has_byte_field, last_name, holder, slot_register, field_registers, borrows_ebx}
use Rattle.name_cells.specs.CanBePlaced.{IsPlaceable, HasName, FitsField, IsFieldPlaceable, IsInstrPlaceable}
use Rattle.name_cells.specs.Pairs.{slot_pair, pairs_of, own_renaming, own_naming, HoldAlike}
use Rattle.name_cells.proofs.PairedPlaces.{IsItself, IsNamePair, which, one_to_one}
use Rattle.name_cells.proofs.ByteFields.{IsSeenKind, AreSeen, seen}

-- ---- pairs that are there
name_pair : (byte : Bool) (last : Option ℕ) (slots : List Slot) (n : ℕ) → HasName n slots → ArePaired (flat_map (slot_pair byte last) slots) (name_place n) (number_of_reg (holder byte last n))
name_pair byte last [] n h = absurd h
name_pair byte last (Fixed r ∷ slots) n (inl e) = absurd (not_name e)
  where
    is_fixed : Slot → Bool
    is_fixed (Fixed r) = true
    is_fixed (Name n) = false

    not_name : Fixed r ≡ Name n → ⊥
    not_name e = absurd (let f : is_fixed (Fixed r) ≡ is_fixed (Name n) = ap is_fixed e in cc)
name_pair byte last (Fixed r ∷ slots) n (inr h) = name_pair byte last slots n h
name_pair byte last (Name m ∷ slots) n (inl e) = let f : m ≡ n = number_is m n e in inl (rw f refl, rw f refl)
  where
    number_of : Slot → ℕ
    number_of (Fixed r) = 0
    number_of (Name k) = k

    number_is : (m n : ℕ) → Name m ≡ Name n → m ≡ n
    number_is m n e = ap number_of e
name_pair byte last (Name m ∷ slots) n (inr h) = inr (name_pair byte last slots n h)

past : (b : Bool) (more : Pairs) (p q : ℕ) → ArePaired more p q → ArePaired (cond b [] ((3, 3) ∷ []) ++ more) p q
past true more p q h = h
past false more p q h = inr h

module _ (x : VInstr) where
  abbrev byte : Bool
  byte = has_byte_field x.instr

  abbrev last : Option ℕ
  last = last_name x.slots

  abbrev pairs : Pairs
  pairs = pairs_of x

  pub name_paired : (n : ℕ) → HasName n x.slots → ArePaired pairs (name_place n) (number_of_reg (holder byte last n))
  name_paired n h = inr (inr (inr (past (borrows_ebx x) _ _ _ (name_pair byte last x.slots n h))))

  ebx_paired : (borrows_ebx x ≡ true → ⊥) → ArePaired pairs 3 3
  ebx_paired h = inr (inr (inr (by (borrows_ebx x) h)))
    where
      by : (b : Bool) → (b ≡ true → ⊥) → ArePaired (cond b [] ((3, 3) ∷ []) ++ flat_map (slot_pair byte last) x.slots) 3 3
      by true k = absurd (k refl)
      by false k = inl (refl, refl)

  pub low_paired : (n : ℕ) → n < 4 → (borrows_ebx x ≡ true → n < 3) → ArePaired pairs n n
  low_paired zero low below = inl (refl, refl)
  low_paired (suc zero) low below = inr (inl (refl, refl))
  low_paired (suc (suc zero)) low below = inr (inr (inl (refl, refl)))
  low_paired (suc (suc (suc zero))) low below = ebx_paired (λ e. absurd (let k = below e in omega (arith, k)))
  low_paired (suc (suc (suc (suc n)))) low below = absurd (omega (arith, low))

  -- ---- slots that fields can have
  abbrev pub IsUsable : Slot → Type 0
  IsUsable (Fixed r) = (number_of_reg r < 4) × (borrows_ebx x ≡ true → r ≢ Ebx)
  IsUsable (Name n) = HasName n x.slots

  slot_usable : (s : Slot) → IsPlaceable s → (borrows_ebx x ≡ true → s ≢ Fixed Ebx) → ((n : ℕ) → s ≡ Name n → HasName n x.slots) → IsUsable s
  slot_usable (Fixed r) h k l = (h, λ b e. k b (ap Fixed e))
  slot_usable (Name n) h k l = l n refl

  got_usable : (slots : List Slot) (k : ℕ) (s : Slot) → slice_get slots k ≡ Some s → All IsPlaceable slots → (borrows_ebx x ≡ true → All (λ (t : Slot). t ≢ Fixed Ebx) slots) → ((n : ℕ) → HasName n slots → HasName n x.slots) → IsUsable s
  got_usable [] k s e h b l = absurd cc
  got_usable (t ∷ slots) zero s e h b l =
      let f : t ≡ s = cc in
      subst IsUsable f (slot_usable t (All-head IsPlaceable t slots h) (λ z. All-head (λ (t : Slot). t ≢ Fixed Ebx) t slots (b z)) (λ n g. l n (inl g)))
  got_usable (t ∷ slots) (suc k) s e h b l = got_usable slots k s e (All-tail IsPlaceable t slots h) (λ z. All-tail (λ (t : Slot). t ≢ Fixed Ebx) t slots (b z)) (λ n g. l n (inr g))

  not_ebx : (r : Reg) → number_of_reg r < 3 → r ≢ Ebx
  not_ebx r h e = let f : number_of_reg r ≡ 3 = ap number_of_reg e in omega arith

  module _ (h : IsInstrPlaceable x) where
    pub at_usable : (r : Reg) → number_of_reg r < 3 → IsUsable (slot_at x.slots r)
    at_usable r low = by (slice_get x.slots (number_of_reg r)) refl
      where
        by : (o : Option Slot) → slice_get x.slots (number_of_reg r) ≡ o → IsUsable (slot_or r o)
        by None e = (omega (arith, low), λ b. not_ebx r low)
        by (Some s) e = got_usable x.slots (number_of_reg r) s e h.slots (λ b. (h.ebx b).slots) (λ n g. g)

    -- the register of an early field is that of its slot
    pub register_is : (r : Reg) → number_of_reg r < 3 → register_of (field_registers byte x.slots) r ≡ slot_register byte last (slot_at x.slots r)
    register_is Eax low = refl
    register_is Ecx low = refl
    register_is Edx low = refl
    register_is Ebx low = absurd (omega (arith, low))
    register_is Esp low = absurd (omega (arith, low))
    register_is Ebp low = absurd (omega (arith, low))
    register_is Esi low = absurd (omega (arith, low))
    register_is Edi low = absurd (omega (arith, low))

    fixed_paired : (r : Reg) → IsUsable (Fixed r) → ArePaired pairs (number_of_reg r) (number_of_reg r)
    fixed_paired Eax u = low_paired 0 (omega arith) (λ b. omega arith)
    fixed_paired Ecx u = low_paired 1 (omega arith) (λ b. omega arith)
    fixed_paired Edx u = low_paired 2 (omega arith) (λ b. omega arith)
    fixed_paired Ebx u = ebx_paired (λ b. u.1 b refl)
    fixed_paired Esp u = absurd (let k = u.0 in omega (arith, k))
    fixed_paired Ebp u = absurd (let k = u.0 in omega (arith, k))
    fixed_paired Esi u = absurd (let k = u.0 in omega (arith, k))
    fixed_paired Edi u = absurd (let k = u.0 in omega (arith, k))

    whole_paired : (s : Slot) → IsUsable s → ArePaired pairs (place_of s) (number_of_reg (slot_register byte last s))
    whole_paired (Fixed r) u = fixed_paired r u
    whole_paired (Name n) u = name_paired n u

    abbrev BytesPaired : Slot → Reg → Type 0
    BytesPaired s r = ArePaired pairs (byte_of s).0 (byte_place r).0 × ((byte_of s).1 ≡ (byte_place r).1)

    fixed_bytes : (r : Reg) → IsUsable (Fixed r) → BytesPaired (Fixed r) r
    fixed_bytes Eax u = (fixed_paired Eax u, refl)
    fixed_bytes Ecx u = (fixed_paired Ecx u, refl)
    fixed_bytes Edx u = (fixed_paired Edx u, refl)
    fixed_bytes Ebx u = (fixed_paired Ebx u, refl)
    fixed_bytes Esp u = absurd (let k = u.0 in omega (arith, k))
    fixed_bytes Ebp u = absurd (let k = u.0 in omega (arith, k))
    fixed_bytes Esi u = absurd (let k = u.0 in omega (arith, k))
    fixed_bytes Edi u = absurd (let k = u.0 in omega (arith, k))

    bytes_paired : (s : Slot) → IsUsable s → FitsField x.slots Byte s → byte ≡ true → BytesPaired s (slot_register byte last s)
    bytes_paired (Fixed r) u fit b = fixed_bytes r u
    bytes_paired (Name n) u fit b =
        let is : holder byte last n ≡ Ebx = rw (b, fit) refl in
        subst (λ (r : Reg). BytesPaired (Name n) r) (sym is) (subst (λ (r : Reg). ArePaired pairs (name_place n) (number_of_reg r)) is (name_paired n u), refl)

    kind_paired : (k : RegisterField) (r : Reg) → number_of_reg r < 3 → FitsField x.slots k (slot_at x.slots r) → IsSeenKind byte k → KindIsPaired pairs (naming_of x.slots) (own_naming x) k r
    kind_paired Index r low fit b = subst (λ (t : Reg). ArePaired pairs (place_of (slot_at x.slots r)) (number_of_reg t)) (sym (register_is r low)) (whole_paired (slot_at x.slots r) (at_usable r low))
    kind_paired Whole r low fit b = subst (λ (t : Reg). ArePaired pairs (place_of (slot_at x.slots r)) (number_of_reg t)) (sym (register_is r low)) (whole_paired (slot_at x.slots r) (at_usable r low))
    kind_paired Byte r low fit b = subst (λ (t : Reg). BytesPaired (slot_at x.slots r) t) (sym (register_is r low)) (bytes_paired (slot_at x.slots r) (at_usable r low) fit b)

    fields_paired : (fs : List Field) → All (IsFieldPlaceable x.slots) fs → AreSeen byte fs → FieldsArePaired pairs (naming_of x.slots) (own_naming x) fs
    fields_paired [] a b = tt
    fields_paired (f ∷ fs) a b =
        let first = All-head (IsFieldPlaceable x.slots) f fs a in
        (kind_paired f.kind f.register first.early first.fits b.0, fields_paired fs (All-tail (IsFieldPlaceable x.slots) f fs a) b.1)

    implicit_paired : (ns : List ℕ) → All (λ (n : ℕ). n < 4) ns → (borrows_ebx x ≡ true → All (λ (n : ℕ). n < 3) ns) → PairedWithThemselves pairs ns
    implicit_paired [] a b = tt
    implicit_paired (n ∷ ns) a b =
        (low_paired n (All-head (λ (n : ℕ). n < 4) n ns a) (λ z. All-head (λ (n : ℕ). n < 3) n ns (b z)), implicit_paired ns (All-tail (λ (n : ℕ). n < 4) n ns a) (λ z. All-tail (λ (n : ℕ). n < 3) n ns (b z)))

    words_same : (r q : Registers) → HoldAlike x r q → HoldTheSame pairs r q
    words_same r q a p s h = by (which x p s h)
      where
        by : IsItself (borrows_ebx x) p s ⊎ IsNamePair byte last x.slots p s → r p ≡ q s
        by (inl i) = a.registers p i.low i.below ∙ ap q i.same
        by (inr n) = ap r n.1 ∙ a.names n.0 n.3 ∙ sym (ap q n.2)

    pub uses : (r q : Registers) → HoldAlike x r q → UsesPairs pairs (naming_of x.slots) (own_naming x) x.instr r q
    uses r q a = record {
      one_to_one = one_to_one x h;
      by_field = fields_paired (fields x.instr) h.by_field (seen x.instr);
      implicit = implicit_paired (implicit_registers x.instr) h.implicit (λ b. (h.ebx b).implicit);
      words = words_same r q a;
    }

module _ (laws : FieldPlaceLaws) where
  pub own_accesses : (x : VInstr) (r q : Registers) → IsInstrPlaceable x → HoldAlike x r q → accesses (naming_of x.slots) x.instr r ≡ accesses machine_naming (renamed (own_renaming x) x.instr) q
  own_accesses x r q h a = laws.same_accesses (pairs_of x) (naming_of x.slots) (own_naming x) x.instr r q (uses x h r q a) ∙ sym (laws.renamed_accesses (own_renaming x) machine_naming x.instr q (λ r. refl))

  pub own_effect : (x : VInstr) (next : ℕ) (flags : Flags) (r q : Registers) (m : Memory) → IsInstrPlaceable x → HoldAlike x r q
      → ResultsAlike (pairs_of x) r q (effect (naming_of x.slots) x.instr next (processor r flags) m) (effect machine_naming (renamed (own_renaming x) x.instr) next (processor q flags) m)
  own_effect x next flags r q m h a =
      subst (λ e. ResultsAlike (pairs_of x) r q (effect (naming_of x.slots) x.instr next (processor r flags) m) e) (sym (laws.renamed_effect (own_renaming x) machine_naming x.instr next (processor q flags) m (λ r. refl)))
      (laws.same_effect (pairs_of x) (naming_of x.slots) (own_naming x) x.instr next flags r q m (uses x h r q a))
