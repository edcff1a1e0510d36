-- Operands at places that are paired.
use Rattle.std.proofs.Common.{◌≡◌, ◌⊎◌, inl, inr, ℕ, ◌==◌, Bool, true, false, cond, List, [], ◌∷◌, ◌++◌, Option, Some, None, refl, sym, ap, ◌∙◌, subst}
use Rattle.std.proofs.lemmas.Bool.Decides.{eqb_tells}
use Rattle.std.specs.Option.{option_map}
use Rattle.x86_values.specs.Words.{known}
use Rattle.x86_types.specs.declared.operand.Reg.{Reg}
use Rattle.x86_types.specs.declared.operand.Address.{Address}
use Rattle.x86_types.specs.declared.operand.Rm.{Rm}
use Rattle.x86_types.specs.declared.operand.Rm.TheVariants as rm
use Rattle.x86_types.specs.declared.operand.Src.{Src}
use Rattle.x86_types.specs.declared.operand.Src.TheVariants as src
use Rattle.x86_types.specs.declared.width.Width.{Width}
use Rattle.x86_types.specs.declared.width.Width.TheVariants.{One, Two, Four}
use Rattle.x86_types.specs.Registers.{Index, Whole, field_of}
use Rattle.x86_values.specs.declared.word.Word.{Word}
use Rattle.x86_meaning.specs.Registers.{Registers, Naming, with_register}
use Rattle.x86_meaning.specs.Operands.{Location, InRegister, InMemory, Constant, SizedOperand, field, address_part, effective_address, location_of, source_of}
use Rattle.x86_meaning.specs.TransferShapes.{Transfer, is_same_register}
use Rattle.field_places.specs.Fields.{Field, if_some, address_fields, rm_fields, src_fields}
use Rattle.field_places.specs.Pairs.{Pairs, ArePaired, IsOneToOne, HoldTheSame, KindIsPaired, FieldsArePaired}

-- ---- tests of equality
pub same_test : (a p b q : ℕ) → (a ≡ p → b ≡ q) → (b ≡ q → a ≡ p) → (a == p) ≡ (b == q)
same_test a p b q f g = by (eqb_tells a p) (eqb_tells b q)
  where
    by : (((a == p) ≡ true) × (a ≡ p)) ⊎ (((a == p) ≡ false) × (a ≡ p → ⊥)) → (((b == q) ≡ true) × (b ≡ q)) ⊎ (((b == q) ≡ false) × (b ≡ q → ⊥)) → (a == p) ≡ (b == q)
    by (inl h) (inl k) = h.0 ∙ sym k.0
    by (inl h) (inr k) = absurd (k.1 (f h.1))
    by (inr h) (inl k) = absurd (h.1 (g k.1))
    by (inr h) (inr k) = h.0 ∙ sym k.0

-- ---- both sides have nothing, or what is related
abbrev pub Both : {A : Type 0} → (A → A → Type 0) → Option A → Option A → Type 0
Both R None None = Unit {0}
Both R None (Some b) = ⊥
Both R (Some a) None = ⊥
Both R (Some a) (Some b) = R a b

module _ (pairs : Pairs) where
  abbrev pub SameLocation : Location → Location → Type 0
  SameLocation (InRegister p i) l = (q : ℕ) × ArePaired pairs p q × (l ≡ InRegister q i)
  SameLocation (InMemory at) l = l ≡ InMemory at
  SameLocation (Constant n) l = l ≡ Constant n

  abbrev pub SameOperands : List SizedOperand → List SizedOperand → Type 0
  SameOperands [] ps = ps ≡ []
  SameOperands (o ∷ os) [] = ⊥
  SameOperands (o ∷ os) (p ∷ ps) = (o.size ≡ p.size) × SameLocation o.location p.location × SameOperands os ps

  abbrev pub SameTransfer : Transfer → Transfer → Type 0
  SameTransfer t u = SameOperands t.reads u.reads × SameOperands t.writes u.writes

  -- ---- a register with itself
  pub same_pair : IsOneToOne pairs → (p q a b : ℕ) → ArePaired pairs p a → ArePaired pairs q b → (p == q) ≡ (a == b)
  same_pair one p q a b h k = same_test p q a b (λ e. one.to_right p a b h (rw e k)) (λ e. one.to_left p q a h (rw e k))

  pub same_register : IsOneToOne pairs → (k l a b : Location) → SameLocation k a → SameLocation l b → is_same_register k l ≡ is_same_register a b
  same_register one (InRegister p i) (InRegister q j) a b h k = rw (h.2, k.2, same_pair one p q h.0 k.0 h.1 k.1) refl
  same_register one (InRegister p i) (InMemory at) a b h k = rw (h.2, k) refl
  same_register one (InRegister p i) (Constant n) a b h k = rw (h.2, k) refl
  same_register one (InMemory at) (InRegister q j) a b h k = rw h refl
  same_register one (InMemory at) (InMemory to) a b h k = rw h refl
  same_register one (InMemory at) (Constant n) a b h k = rw h refl
  same_register one (Constant m) (InRegister q j) a b h k = rw h refl
  same_register one (Constant m) (InMemory at) a b h k = rw h refl
  same_register one (Constant m) (Constant n) a b h k = rw h refl

  -- ---- one more register with a word that both sides have
  pub with_the_same : IsOneToOne pairs → (n k : ℕ) (x y : Word) (r q : Registers) → ArePaired pairs n k → x ≡ y → HoldTheSame pairs r q → HoldTheSame pairs (with_register n x r) (with_register k y q)
  unfolding with_register
  with_the_same one n k x y r q p e h a b c = rw (same_pair one a n b k c p, e) (either (b == k) y (r a) (q b) (h a b c))
    where
      either : (t : Bool) (z u v : Word) → u ≡ v → cond t z u ≡ cond t z v
      either t z u v s = ap (cond t z) s

  -- ---- the fields of operands
  module _ (v w : Naming) where
    pub first_fields : (xs ys : List Field) → FieldsArePaired pairs v w (xs ++ ys) → FieldsArePaired pairs v w xs
    first_fields [] ys h = tt
    first_fields (x ∷ xs) ys h = (h.0, first_fields xs ys h.1)

    pub last_fields : (xs ys : List Field) → FieldsArePaired pairs v w (xs ++ ys) → FieldsArePaired pairs v w ys
    last_fields [] ys h = h
    last_fields (x ∷ xs) ys h = last_fields xs ys h.1

    pub field_same : (s : Width) (n : Reg) → KindIsPaired pairs v w (field_of s) n → SameLocation (field v s n) (field w s n)
    field_same One n h = ((w.byte n).0, h.0, ap (InRegister (w.byte n).0) (sym h.1))
    field_same Two n h = (w.whole n, h, refl)
    field_same Four n h = (w.whole n, h, refl)

    module _ (r q : Registers) (same : HoldTheSame pairs r q) where
      base_same : (o : Option Reg) → FieldsArePaired pairs v w (if_some Whole o) → address_part v r o ≡ address_part w q o
      base_same None h = refl
      base_same (Some n) h = ap known (same _ _ h.0)

      index_same : (o : Option Reg) → FieldsArePaired pairs v w (if_some Index o) → address_part v r o ≡ address_part w q o
      index_same None h = refl
      index_same (Some n) h = ap known (same _ _ h.0)

      pub address_same : (a : Address) → FieldsArePaired pairs v w (address_fields a) → effective_address v r a ≡ effective_address w q a
      address_same a h =
          rw (base_same a.base (first_fields (if_some Whole a.base) (if_some Index a.index) h), index_same a.index (last_fields (if_some Whole a.base) (if_some Index a.index) h)) refl

      in_memory : (a b : Option ℕ) → a ≡ b → Both SameLocation (option_map InMemory a) (option_map InMemory b)
      in_memory a b e = subst (λ (o : Option ℕ). Both SameLocation (option_map InMemory a) (option_map InMemory o)) e (itself a)
        where
          itself : (o : Option ℕ) → Both SameLocation (option_map InMemory o) (option_map InMemory o)
          itself None = tt
          itself (Some n) = refl

      pub location_same : (s : Width) (o : Rm) → FieldsArePaired pairs v w (rm_fields s o) → Both SameLocation (location_of v r s o) (location_of w q s o)
      location_same s (rm.Reg n) h = field_same s n h.0
      location_same s (rm.Mem a) h = in_memory _ _ (address_same a h)

      pub source_same : (s : Width) (o : Src) → FieldsArePaired pairs v w (src_fields s o) → Both SameLocation (source_of v r s o) (source_of w q s o)
      source_same s (src.Reg n) h = field_same s n h.0
      source_same s (src.Mem a) h = in_memory _ _ (address_same a h)
      source_same s (src.Imm n) h = refl
