-- An instruction without names is placed as its own item alone.
use Rattle.std.proofs.Common.{◌≡◌, inl, inr, ℕ, ◌&&◌, Bool, true, false, is_some, List, [], ◌∷◌, ◌++◌, flat_map, fold, Option, Some, None, refl, ap}
use Rattle.named_code.specs.declared.slot.Slot.{Slot}
use Rattle.named_code.specs.declared.slot.Slot.TheVariants.{Fixed, Name}
use Rattle.named_code.specs.declared.named.VInstr.{VInstr}
use Rattle.named_code.specs.declared.placed.PInstr.{PInstr}
use Rattle.name_cells.specs.Holders.{has_byte_field, name_or, last_name, borrows_ebx}
use Rattle.name_cells.specs.Placing.{fetch_slot, keep_slot, fetches, keeps, own, lend, give_back, place_instr}
use Rattle.name_cells.specs.CanBePlaced.{HasName}

-- ---- slots without names
abbrev pub NoNames : List Slot → Type 0
NoNames slots = (n : ℕ) → HasName n slots → ⊥

some_stays : (n : ℕ) (slots : List Slot) → is_some (fold name_or (Some n) slots) ≡ true
some_stays n [] = refl
some_stays n (Fixed r ∷ slots) = some_stays n slots
some_stays n (Name m ∷ slots) = some_stays m slots

pub none_named : (slots : List Slot) → is_some (fold name_or None slots) ≡ false → NoNames slots
none_named [] e n h = h
none_named (Fixed r ∷ slots) e n (inl f) = absurd (let g : is_name (Fixed r) ≡ is_name (Name n) = ap is_name f in cc)
  where
    is_name : Slot → Bool
    is_name (Fixed r) = false
    is_name (Name n) = true
none_named (Fixed r ∷ slots) e n (inr h) = none_named slots e n h
none_named (Name m ∷ slots) e n h = absurd (let g = some_stays m slots in cc)

no_fetches : (byte : Bool) (last : Option ℕ) (slots : List Slot) → is_some (fold name_or None slots) ≡ false → flat_map (fetch_slot byte last) slots ≡ []
no_fetches byte last [] e = refl
no_fetches byte last (Fixed r ∷ slots) e = no_fetches byte last slots e
no_fetches byte last (Name m ∷ slots) e = absurd (let g = some_stays m slots in cc)

no_keeps : (byte : Bool) (last : Option ℕ) (slots : List Slot) → is_some (fold name_or None slots) ≡ false → flat_map (keep_slot byte last) slots ≡ []
no_keeps byte last [] e = refl
no_keeps byte last (Fixed r ∷ slots) e = no_keeps byte last slots e
no_keeps byte last (Name m ∷ slots) e = absurd (let g = some_stays m slots in cc)

pub and_false : (a b : Bool) → b ≡ false → (a && b) ≡ false
and_false true b e = e
and_false false b e = refl

alone : (b : Bool) (count : ℕ) (fs : List PInstr) (o : PInstr) (ks : List PInstr) → b ≡ false → fs ≡ [] → ks ≡ [] → lend b count ++ (fs ++ o ∷ (ks ++ give_back b count)) ≡ o ∷ []
alone b count fs o ks e f g = rw (e, f, g) refl

pub alone_is : (spare : ℕ) (x : VInstr) → is_some (last_name x.slots) ≡ false → place_instr spare x ≡ own x ∷ []
alone_is spare x none =
    let byte = has_byte_field x.instr in
    let last = last_name x.slots in
    alone (borrows_ebx x) spare (fetches byte last x.slots) (own x) (keeps byte last x.slots) (and_false byte (is_some last) none) (no_fetches byte last x.slots none) (no_keeps byte last x.slots none)
