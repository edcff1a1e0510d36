-- The items of an instruction run as the instruction does.
use Rattle.std.proofs.Common.{◌≡◌, ◌≢◌, ◌⊎◌, inl, inr, ℕ, ◌+◌, ◌<◌, ◌==◌, Bool, true, false, cond, List, [], ◌∷◌, ◌++◌, map, Option, refl, sym, ap, ◌∙◌, arith}
use Rattle.std.proofs.lemmas.Bool.Decides.{eqb_tells}
use Rattle.x86_values.specs.declared.word.Word.{Word}
use Rattle.x86_values.specs.Words.{word_list}
use Rattle.memory.specs.Memory.{Memory, put_all, IsWithin}
use Rattle.memory.specs.MemoryLaws.{MemoryLaws}
use Rattle.x86_types.specs.declared.operand.Reg.TheVariants.{Ebx, Ebp, Esi}
use Rattle.x86_types.specs.Numbers.{number_of_reg}
use Rattle.x86_meaning.specs.Registers.{Registers}
use Rattle.x86_meaning.specs.Effect.{Effect}
use Rattle.private_memory.specs.PrivateArea.{HasPrivateArea}
use Rattle.private_memory.specs.PrivateAreaLaws.{PrivateAccessLaws}
use Rattle.field_places.specs.Pairs.{ArePaired, EffectsAlike}
use Rattle.named_code.specs.declared.slot.Slot.{Slot}
use Rattle.named_code.specs.declared.slot.Slot.TheVariants.{Fixed, Name}
use Rattle.named_code.specs.declared.named.VInstr.{VInstr}
use Rattle.named_code.specs.Items.{name_place}
use Rattle.named_code.specs.Running.{CodeState}
use Rattle.name_cells.specs.Cells.{cell_at}
use Rattle.name_cells.specs.Holders.{has_byte_field, last_name, is_last, holder, borrows_ebx}
use Rattle.name_cells.specs.CanBePlaced.{HasName}
use Rattle.name_cells.specs.Pairs.{pairs_of}
use Rattle.name_cells.specs.MovedNames.{fetched, kept, with_fetched, with_kept, HaveCells}
use Rattle.name_cells.specs.OwnSteps.{SameButCells}
use Rattle.name_cells.proofs.PairedPlaces.{IsPair, which}
use Rattle.name_cells.proofs.OwnItems.{low_paired}
use Rattle.name_cells.proofs.CellMoves.{area_after}

-- ---- lists
split : {A B : Type 0} (f : A → B) (xs ys : List A) (zs : List B) → map f (xs ++ ys) ++ zs ≡ map f xs ++ (map f ys ++ zs)
split f [] ys zs = refl
split f (x ∷ xs) ys zs = ap (λ l. f x ∷ l) (split f xs ys zs)

pub layout : {A B : Type 0} (f : A → B) (ls fs : List A) (o : A) (ks gs : List A) (rest : List B) → map f (ls ++ (fs ++ o ∷ (ks ++ gs))) ++ rest ≡ map f ls ++ (map f fs ++ f o ∷ (map f ks ++ (map f gs ++ rest)))
layout f ls fs o ks gs rest = split f ls (fs ++ o ∷ (ks ++ gs)) rest ∙ ap (λ l. map f ls ++ l) (split f fs (o ∷ (ks ++ gs)) rest ∙ ap (λ l. map f fs ++ f o ∷ l) (split f ks gs rest))

-- ---- what moves leave
module _ (byte : Bool) (last : Option ℕ) where
  pub fetched_memory : (slots : List Slot) (t : CodeState) → (with_fetched byte last slots t).memory ≡ t.memory
  fetched_memory [] t = refl
  fetched_memory (Fixed r ∷ slots) t = fetched_memory slots t
  fetched_memory (Name n ∷ slots) t = fetched_memory slots (fetched n (holder byte last n) t)

  pub fetched_flags : (slots : List Slot) (t : CodeState) → (with_fetched byte last slots t).cpu.flags ≡ t.cpu.flags
  fetched_flags [] t = refl
  fetched_flags (Fixed r ∷ slots) t = fetched_flags slots t
  fetched_flags (Name n ∷ slots) t = fetched_flags slots (fetched n (holder byte last n) t)

  pub fetched_left : (slots : List Slot) (t : CodeState) → (with_fetched byte last slots t).left ≡ t.left
  fetched_left [] t = refl
  fetched_left (Fixed r ∷ slots) t = fetched_left slots t
  fetched_left (Name n ∷ slots) t = fetched_left slots (fetched n (holder byte last n) t)

  pub kept_cpu : (slots : List Slot) (t : CodeState) → (with_kept byte last slots t).cpu ≡ t.cpu
  kept_cpu [] t = refl
  kept_cpu (Fixed r ∷ slots) t = kept_cpu slots t
  kept_cpu (Name n ∷ slots) t = kept_cpu slots (kept n (holder byte last n) t)

  pub kept_left : (slots : List Slot) (t : CodeState) → (with_kept byte last slots t).left ≡ t.left
  kept_left [] t = refl
  kept_left (Fixed r ∷ slots) t = kept_left slots t
  kept_left (Name n ∷ slots) t = kept_left slots (kept n (holder byte last n) t)

-- ---- EBX that is lent, and given back
unfoldable pub lent : Bool → ℕ → CodeState → CodeState
lent true n t = kept n Ebx t
lent false n t = t

unfoldable pub given : Bool → ℕ → CodeState → CodeState
given true n t = fetched n Ebx t
given false n t = t

pub given_memory : (b : Bool) (n : ℕ) (t : CodeState) → (given b n t).memory ≡ t.memory
unfolding given
given_memory true n t = refl
given_memory false n t = refl

pub given_flags : (b : Bool) (n : ℕ) (t : CodeState) → (given b n t).cpu.flags ≡ t.cpu.flags
unfolding given
given_flags true n t = refl
given_flags false n t = refl

pub given_left : (b : Bool) (n : ℕ) (t : CodeState) → (given b n t).left ≡ t.left
unfolding given
given_left true n t = refl
given_left false n t = refl

-- ---- names in slots, or none
pub named_or_not : (n : ℕ) (slots : List Slot) → HasName n slots ⊎ ((m : ℕ) → HasName m slots → m ≢ n)
named_or_not n [] = inr (λ m h. absurd h)
named_or_not n (Fixed r ∷ slots) = more (named_or_not n slots)
  where
    is_name : Slot → Bool
    is_name (Fixed r) = false
    is_name (Name n) = true

    not_fixed : (m : ℕ) → Fixed r ≡ Name m → ⊥
    not_fixed m e = absurd (let f : is_name (Fixed r) ≡ is_name (Name m) = ap is_name e in cc)

    first : ((m : ℕ) → HasName m slots → m ≢ n) → (m : ℕ) → (Fixed r ≡ Name m) ⊎ HasName m slots → m ≢ n
    first h m (inl e) = absurd (not_fixed m e)
    first h m (inr g) = h m g

    more : HasName n slots ⊎ ((m : ℕ) → HasName m slots → m ≢ n) → HasName n (Fixed r ∷ slots) ⊎ ((m : ℕ) → HasName m (Fixed r ∷ slots) → m ≢ n)
    more (inl h) = inl (inr h)
    more (inr h) = inr (first h)
named_or_not n (Name k ∷ slots) = more (eqb_tells k n) (named_or_not n slots)
  where
    number_of : Slot → ℕ
    number_of (Fixed r) = 0
    number_of (Name j) = j

    first : (k ≡ n → ⊥) → ((m : ℕ) → HasName m slots → m ≢ n) → (m : ℕ) → (Name k ≡ Name m) ⊎ HasName m slots → m ≢ n
    first o h m (inl e) f = o (ap number_of e ∙ f)
    first o h m (inr g) f = h m g f

    more : (((k == n) ≡ true) × (k ≡ n)) ⊎ (((k == n) ≡ false) × (k ≡ n → ⊥)) → HasName n slots ⊎ ((m : ℕ) → HasName m slots → m ≢ n) → HasName n (Name k ∷ slots) ⊎ ((m : ℕ) → HasName m (Name k ∷ slots) → m ≢ n)
    more (inl e) h = inl (inl (ap (λ (j : ℕ). Name j) e.1))
    more (inr e) (inl h) = inl (inr h)
    more (inr e) (inr h) = inr (first e.1 h)

-- ---- the numbers of holders
pub not_four : (a b : Bool) → number_of_reg (cond a (cond b Ebx Esi) Ebp) ≢ 4
not_four true true e = omega (arith, e)
not_four true false e = omega (arith, e)
not_four false true e = omega (arith, e)
not_four false false e = omega (arith, e)

module _ (x : VInstr) where
  -- ESP is in no pair
  esp_left : (j : ℕ) → ArePaired (pairs_of x) 4 j → ⊥
  esp_left j h = by (which x 4 j h)
    where
      by : IsPair x 4 j → ⊥
      by (inl i) = let l = i.low in omega (arith, l)
      by (inr n) = let e : 4 ≡ 8 + n.0 = n.1 in omega (arith, e)

  esp_right : (j : ℕ) → ArePaired (pairs_of x) j 4 → ⊥
  esp_right j h = by (which x j 4 h)
    where
      by : IsPair x j 4 → ⊥
      by (inl i) = let l = i.low in let e = i.same in omega (arith, l, e)
      by (inr n) = not_four (is_last (last_name x.slots) n.0) (has_byte_field x.instr) (sym n.2)

  -- nor is EBX where it is borrowed, nor a name that is none of the slots
  pub ebx_left : borrows_ebx x ≡ true → (j : ℕ) → ArePaired (pairs_of x) 3 j → ⊥
  ebx_left b j h = by (which x 3 j h)
    where
      by : IsPair x 3 j → ⊥
      by (inl i) = let l = i.below b in omega (arith, l)
      by (inr n) = let e : 3 ≡ 8 + n.0 = n.1 in omega (arith, e)

  pub name_left : (n : ℕ) → ((m : ℕ) → HasName m x.slots → m ≢ n) → (j : ℕ) → ArePaired (pairs_of x) (name_place n) j → ⊥
  name_left n o j h = by (which x (name_place n) j h)
    where
      by : IsPair x (name_place n) j → ⊥
      by (inl i) = let l : 8 + n < 4 = i.low in omega (arith, l)
      by (inr k) = let e : 8 + n ≡ 8 + k.0 = k.1 in o k.0 k.3 (omega (arith, e))

  -- registers that are the same before are the same after both effects, but for EBX where it is borrowed
  pub registers_after : (r q : Registers) (d e : Effect) → EffectsAlike (pairs_of x) r q d e → r 4 ≡ q 4 → (k : ℕ) → k < 5 → (borrows_ebx x ≡ true → k ≢ 3) → d.cpu.regs k ≡ e.cpu.regs k
  registers_after r q d e a same k low other = by (eqb_tells k 4)
    where
      by : (((k == 4) ≡ true) × (k ≡ 4)) ⊎ (((k == 4) ≡ false) × (k ≡ 4 → ⊥)) → d.cpu.regs k ≡ e.cpu.regs k
      by (inl f) = ap d.cpu.regs f.1 ∙ a.others_left 4 esp_left ∙ same ∙ sym (a.others_right 4 esp_right) ∙ ap e.cpu.regs (sym f.1)
      by (inr f) = a.words k k (low_paired x k (let g = f.1 in four g low) (λ b. three (other b) (four f.1 low)))
        where
          four : (k ≡ 4 → ⊥) → k < 5 → k < 4
          four g l = grind (arith, g, l)

          three : k ≢ 3 → k < 4 → k < 3
          three g l = grind (arith, g, l)

module _ (memories : MemoryLaws) (areas : PrivateAccessLaws) where
  -- a word that is put in a cell changes nothing but cells
  pub cell_put : (n : ℕ) (w : Word) (l m : Memory) → n < 1540096 → SameButCells l m → SameButCells l (put_all (cell_at n) (word_list w) m)
  cell_put n w l m low h =
      let inside : IsWithin (cell_at n) 4 0x75220000 0x5E0000 = memories.within_in_order (cell_at n) 4 0x75220000 0x5E0000 (omega arith) (omega (arith, low)) in
      record {
        outside = memories.same_outside_symmetric 0x75220000 0x5E0000 _ l (memories.same_outside_put_within 0x75220000 0x5E0000 (cell_at n) (word_list w) m l inside (memories.same_outside_symmetric 0x75220000 0x5E0000 l m h.outside));
        kinds = λ a. h.kinds a ∙ sym (memories.put_all_keeps_kinds (cell_at n) (word_list w) m a);
      }

  module _ (byte : Bool) (last : Option ℕ) where
    pub kept_memory : (slots : List Slot) (l : Memory) (t : CodeState) → HaveCells 1540096 slots → SameButCells l t.memory → SameButCells l (with_kept byte last slots t).memory
    kept_memory [] l t c h = h
    kept_memory (Fixed r ∷ slots) l t c h = kept_memory slots l t (λ n k. c n (inr k)) h
    kept_memory (Name n ∷ slots) l t c h = kept_memory slots l (kept n (holder byte last n) t) (λ m k. c m (inr k)) (cell_put n _ l t.memory (c n (inl refl)) h)

    pub kept_area : (slots : List Slot) (t : CodeState) → HasPrivateArea t.memory → HasPrivateArea (with_kept byte last slots t).memory
    kept_area [] t h = h
    kept_area (Fixed r ∷ slots) t h = kept_area slots t h
    kept_area (Name n ∷ slots) t h = kept_area slots (kept n (holder byte last n) t) (area_after memories areas (cell_at n) _ t.memory h)
