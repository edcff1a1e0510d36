-- What accesses that don't start in the private area come to.
use Rattle.std.proofs.Common.{◌≡◌, ◌≢◌, ℕ, zero, suc, ◌+◌, ◌%◌, ◌<◌, ◌≤◌, ◌&&◌, Bool, true, false, List, Option, Some, None, refl, sym, ap, ◌∙◌, subst, arith}
use Rattle.std.proofs.lemmas.Bool.{and_parts}
use Rattle.x86_values.specs.declared.byte.Byte.{Byte}
use Rattle.memory.specs.Memory.{Place, Memory, wrapped, put_all, AccessKind, Load, Store, allows, allows_all, with_stack, kind_of, SameIn, AreApart}
use Rattle.memory.specs.MemoryLaws.{MemoryLaws}
use Rattle.x86_meaning.specs.Run.{IsStart}
use Rattle.private_memory.specs.PrivateArea.{is_private, without_private, IsUsual, HasPrivateArea}
use Rattle.private_memory.specs.PrivateAreaLaws.{PrivateAccessLaws}
use Rattle.private_memory.proofs.Places.{in_area, is_in, is_below, hidden_in, shown_outside_area, no_kind}
use Rattle.private_memory.proofs.UsualMemory.{stack_above}
use Rattle.private_memory.proofs.ApartTest.{apart_passes, passes_apart, clear_passes, passes_clear, apart_is_clear}

usual_has : (esp0 : ℕ) (m : Memory) → IsUsual esp0 m → HasPrivateArea m
usual_has esp0 m h = record { zero = h.first_page 0 (omega arith); before = h.gap 0x5FFFFFFF (omega arith) (omega arith); area = h.area }

stack_has : (esp0 : ℕ) (stack : List ℕ) (m : Memory) → IsStart esp0 stack → HasPrivateArea m → HasPrivateArea (with_stack esp0 stack m)
stack_has esp0 stack m start h = record {
  zero = stack_above esp0 stack start 0 (omega arith) m ∙ h.zero;
  before = stack_above esp0 stack start 0x5FFFFFFF (omega arith) m ∙ h.before;
  area = λ a p. ap kind_of (stack_above esp0 stack start a (in_area a p).high m) ∙ h.area a p;
}

-- ---- what is not mapped isn't allowed
not_none : (kind : AccessKind) (o : Option Place) → allows kind o ≡ true → o ≡ None → ⊥
not_none kind o h e = let no : false ≡ true = sym (ap (allows kind) e) ∙ h in cc

first_allowed : (kind : AccessKind) (m : Memory) (at n : ℕ) → allows_all kind m at (suc n) ≡ true → (allows kind (m (wrapped at)) ≡ true) × (allows_all kind m (at + 1) n ≡ true)
unfolding allows_all
first_allowed kind m at n h = and_parts (allows kind (m (wrapped at))) (allows_all kind m (at + 1) n) h

first_refused : (kind : AccessKind) (m : Memory) (at n : ℕ) → m (wrapped at) ≡ None → allows_all kind m at (suc n) ≡ false
unfolding allows_all
first_refused kind m at n h = ap (λ o. allows kind o && allows_all kind m (at + 1) n) h

refuses : (kind : AccessKind) (m : Memory) (at n : ℕ) → is_private (wrapped at) ≡ true → allows_all kind (without_private m) at (suc n) ≡ false
refuses kind m at n h = first_refused kind (without_private m) at n (hidden_in m (wrapped at) h)

refuses_zero : (kind : AccessKind) (m : Memory) (n : ℕ) → HasPrivateArea m → allows_all kind m 0 (suc n) ≡ false
refuses_zero kind m n h = first_refused kind m 0 n h.zero

-- ---- an address behind one outside the area is in it only where the area begins
next_outside : (at : ℕ) → is_private (wrapped at) ≡ false → wrapped at ≢ 0x5FFFFFFF → is_private (wrapped (at + 1)) ≡ false
next_outside at out ne = cases (is_private (wrapped (at + 1))) refl
  where
    cases : (b : Bool) → is_private (wrapped (at + 1)) ≡ b → b ≡ false
    cases false e = refl
    cases true e =
        let i = in_area (wrapped (at + 1)) e in
        let low : 0x60000000 ≤ (at + 1) % 4294967296 = i.low in
        let high : (at + 1) % 4294967296 < 0x7C000000 = i.high in
        let one : (at + 1) % 4294967296 ≡ at % 4294967296 + 1 = omega arith in
        let here : at % 4294967296 ≢ 0x5FFFFFFF = ne in
        let there : is_private (wrapped at) ≡ true = is_in (wrapped at) (omega arith) (omega arith) in
        let both : true ≡ false = sym there ∙ out in cc

outside : (kind : AccessKind) (m : Memory) (at n : ℕ) → HasPrivateArea m → is_private (wrapped at) ≡ false → allows_all kind m at n ≡ true → (k : ℕ) → k < n → is_private (wrapped (at + k)) ≡ false
outside kind m at zero h out all k l = absurd (omega arith)
outside kind m at (suc n) h out all zero l = let z : at + 0 ≡ at = omega arith in subst (λ a. is_private (wrapped a) ≡ false) (sym z) out
outside kind m at (suc n) h out all (suc k) l =
    let parts = first_allowed kind m at n all in
    let ne : wrapped at ≢ 0x5FFFFFFF = λ e. not_none kind (m (wrapped at)) parts.0 (ap m e ∙ h.before) in
    let z : at + 1 + k ≡ at + suc k = omega arith in
    subst (λ a. is_private (wrapped a) ≡ false) z (outside kind m (at + 1) n h (next_outside at out ne) parts.1 k (omega arith))

same_in : (m : Memory) (at n : ℕ) → ((k : ℕ) → k < n → is_private (wrapped (at + k)) ≡ false) → SameIn at n (without_private m) m
same_in m at n h = record { places = λ k l. shown_outside_area m (wrapped (at + k)) (h k l) }

-- ---- and where none is allowed on one side, none is on the other
without_before : (m : Memory) → HasPrivateArea m → without_private m 0x5FFFFFFF ≡ None
without_before m h = shown_outside_area m 0x5FFFFFFF (is_below 0x5FFFFFFF (omega arith)) ∙ h.before

judged : (kind : AccessKind) (m : Memory) (at n : ℕ) → HasPrivateArea m → is_private (wrapped at) ≡ false → allows_all kind (without_private m) at n ≡ allows_all kind m at n
unfolding allows_all
judged kind m at zero h out = refl
judged kind m at (suc n) h out =
    ap (λ o. allows kind o && allows_all kind (without_private m) (at + 1) n) (shown_outside_area m (wrapped at) out)
    ∙ behind (allows kind (m (wrapped at))) _ _ (λ e. judged kind m (at + 1) n h (next_outside at out (λ f. not_none kind (m (wrapped at)) e (ap m f ∙ h.before))))
  where
    behind : (b x y : Bool) → (b ≡ true → x ≡ y) → (b && x) ≡ (b && y)
    behind false x y h = refl
    behind true x y h = h refl

-- ---- the area itself
area_place : (kind : AccessKind) (o : Option Place) → kind_of o ≡ Some (true, false) → allows kind o ≡ true
area_place kind None h = cc
area_place Load (Some p) h = refl
area_place Store (Some p) h = ap first h
  where
    first : Option (Bool × Bool) → Bool
    first None = false
    first (Some x) = x.0

allows_area : (kind : AccessKind) (m : Memory) (at n : ℕ) → HasPrivateArea m → 0x60000000 ≤ at → at + n ≤ 0x7C000000 → allows_all kind m at n ≡ true
unfolding allows_all
allows_area kind m at zero h low high = refl
allows_area kind m at (suc n) h low high =
    let here : at % 4294967296 ≡ at = omega arith in
    let there : is_private (wrapped at) ≡ true = is_in (wrapped at) (omega arith) (omega arith) in
    let first : allows kind (m (wrapped at)) ≡ true = area_place kind (m (wrapped at)) (h.area (wrapped at) there) in
    ap (λ b. b && allows_all kind m (at + 1) n) first ∙ allows_area kind m (at + 1) n h (omega arith) (omega arith)

-- ---- what is outside the area is apart from its parts
apart_part : (from n at count : ℕ) → 0x60000000 ≤ at → at + count ≤ 0x7C000000 → ((k : ℕ) → k < n → is_private (wrapped (from + k)) ≡ false) → AreApart from n at count
apart_part from n at count low high out = record { apart = λ j k l m e. meets j k l m e }
  where
    meets : (j k : ℕ) → j < n → k < count → wrapped (from + j) ≡ wrapped (at + k) → ⊥
    meets j k l m e =
        let here : (at + k) % 4294967296 ≡ at + k = omega arith in
        let there : is_private (wrapped (at + k)) ≡ true = is_in (wrapped (at + k)) (omega arith) (omega arith) in
        let both : true ≡ false = sym there ∙ (ap is_private (sym e) ∙ out j l) in
        cc

module _ (laws : MemoryLaws) where
  store_has : (at : ℕ) (bs : List Byte) (m : Memory) → HasPrivateArea m → HasPrivateArea (put_all at bs m)
  store_has at bs m h = record {
    zero = no_kind (put_all at bs m 0) (laws.put_all_keeps_kinds at bs m 0 ∙ ap kind_of h.zero);
    before = no_kind (put_all at bs m 0x5FFFFFFF) (laws.put_all_keeps_kinds at bs m 0x5FFFFFFF ∙ ap kind_of h.before);
    area = λ a p. laws.put_all_keeps_kinds at bs m a ∙ h.area a p;
  }

  pub area_laws : PrivateAccessLaws
  area_laws = record {
    usual_has = usual_has;
    stack_has = stack_has;
    store_has = store_has;
    outside = outside;
    allows = judged;
    loads = λ kind m at n h out all. laws.bytes_in_same (without_private m) m at n (same_in m at n (outside kind m at n h out all));
    refuses = refuses;
    refuses_zero = refuses_zero;
    allows_area = allows_area;
    apart = λ m a h out. record {
      elsewhere = λ all.
          let none = outside a.kind m a.at a.size h out all in
          record { code = apart_part a.at a.size 0x60000000 0x15000000 (omega arith) (omega arith) none; names = apart_part a.at a.size 0x75220000 0xDE0000 (omega arith) (omega arith) none };
    };
    apart_passes = apart_passes;
    passes_apart = passes_apart;
    clear_passes = clear_passes;
    passes_clear = passes_clear;
    apart_is_clear = apart_is_clear;
  }
