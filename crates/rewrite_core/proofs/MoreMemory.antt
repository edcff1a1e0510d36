-- A memory with more in a range, and what a system call comes to over it where its buffer doesn't begin in that range.
use Rattle.std.proofs.Common.{◌≡◌, ◌⊎◌, ℕ, zero, suc, ◌+◌, ◌-◌, ◌%◌, ◌<◌, ◌≤◌, ◌&&◌, Bool, true, false, cond, leb, List, [], ◌∷◌, Option, Some, None, refl, sym, ap, ◌∙◌, inl, inr, ⊎_elim, arith}
use Rattle.std.proofs.lemmas.Bool.Decides.{leb_tells}
use Rattle.x86_values.specs.declared.byte.Byte.{Byte}
use Rattle.x86_values.specs.Words.{known}
use Rattle.outside.specs.Environment.{Environment}
use Rattle.memory.specs.Memory.{Place, Memory, wrapped, Stored, put_all, store_all, AccessKind, Load, Store, allows, allows_all, forget_below, stack_start, with_stack, kind_of, SameIn}
use Rattle.memory.specs.MemoryLaws.{MemoryLaws}
use Rattle.memory.specs.CallLaws.{CallLaws, SameBuffer}
use Rattle.memory.specs.SystemCall.{Request, passes, system_call}
use Rattle.rewrite_core.specs.Agreement.{HasMore}
use Rattle.rewrite_core.specs.Beside.{Away, IsAway}

none_of_kind : (o p : Option Place) → kind_of o ≡ kind_of p → p ≡ None → o ≡ None
none_of_kind None p k e = refl
none_of_kind (Some x) p k e = let none : kind_of (Some x) ≡ None = k ∙ ap kind_of e in cc

module _ (low high : ℕ) (m n : Memory) (h : HasMore low high m n) where
  -- what keeps the kinds, and goes by places, keeps it
  kept : (m' n' : Memory) → ((a : ℕ) → kind_of (m' a) ≡ kind_of (m a)) → ((a : ℕ) → m a ≡ n a → m' a ≡ n' a) → HasMore low high m' n'
  kept m' n' k by = record {
    free = λ a p q. none_of_kind (m' a) (m a) (k a) (h.free a p q);
    edge = λ a p. none_of_kind (m' a) (m a) (k a) (h.edge a p);
    below = λ a p. by a (h.below a p);
    above = λ a p. by a (h.above a p);
  }

  pub more_forget : MemoryLaws → (esp : ℕ) → HasMore low high (forget_below esp m) (forget_below esp n)
  more_forget laws esp = kept (forget_below esp m) (forget_below esp n) (laws.forget_keeps_kinds esp m) (λ a e. laws.forget_by_place esp m n a e)

  more_put : MemoryLaws → (at : ℕ) (bs : List Byte) → HasMore low high (put_all at bs m) (put_all at bs n)
  more_put laws at bs = kept (put_all at bs m) (put_all at bs n) (laws.put_all_keeps_kinds at bs m) (λ a e. laws.put_all_by_place at bs m n a e)

pub more_stored : MemoryLaws → (low high : ℕ) (stores : List Stored) (m n : Memory) → HasMore low high m n → HasMore low high (store_all stores m) (store_all stores n)
more_stored laws low high [] m n h = h
more_stored laws low high (x ∷ xs) m n h = more_stored laws low high xs (put_all x.at x.bytes m) (put_all x.at x.bytes n) (more_put low high m n h laws x.at x.bytes)

stack_above : (esp0 : ℕ) (bytes : List ℕ) (m : Memory) (a : ℕ) → a < stack_start esp0 → with_stack esp0 bytes m a ≡ m a
unfolding with_stack
stack_above esp0 bytes m a h = elim (leb_tells (stack_start esp0) a) [ inl k ↦ absurd (omega (arith, k.1, h)) | inr k ↦ rw k.0 refl ]

pub more_stack : MemoryLaws → (low high : ℕ) (m n : Memory) (esp0 : ℕ) (bytes : List ℕ) → low ≤ stack_start esp0 → high ≤ stack_start esp0 → HasMore low high m n → HasMore low high (with_stack esp0 bytes m) (with_stack esp0 bytes n)
more_stack laws low high m n esp0 bytes p q h = record {
  free = λ a k l. stack_above esp0 bytes m a (omega arith) ∙ h.free a k l;
  edge = λ a k. stack_above esp0 bytes m a (omega arith) ∙ h.edge a k;
  below = λ a k. laws.stack_by_place esp0 bytes m n a (h.below a k);
  above = λ a k. laws.stack_by_place esp0 bytes m n a (h.above a k);
}

-- ---- buffers
cannot : (kind : AccessKind) (o : Option Place) → o ≡ None → allows kind o ≡ false
cannot kind o e = ap (allows kind) e

and_false : (b : Bool) → (b && false) ≡ false
and_false true = refl
and_false false = refl

-- an access that meets a place where nothing stands is refused
meets_none : (kind : AccessKind) (m : Memory) (count at k : ℕ) → k < count → m (wrapped (at + k)) ≡ None → allows_all kind m at count ≡ false
unfolding allows_all
meets_none kind m zero at k h e = absurd (omega arith)
meets_none kind m (suc n) at zero h e =
    let z : at + 0 ≡ at = omega arith in
    let first : m (wrapped at) ≡ None = rw z at e in
    ap (λ b. b && allows_all kind m (at + 1) n) (cannot kind (m (wrapped at)) first)
meets_none kind m (suc n) at (suc k) h e =
    let z : at + suc k ≡ at + 1 + k = omega arith in
    let next : m (wrapped (at + 1 + k)) ≡ None = rw z at e in
    ap (λ b. allows kind (m (wrapped at)) && b) (meets_none kind m n (at + 1) k (omega arith) next) ∙ and_false (allows kind (m (wrapped at)))

refused : (t a b : Bool) → a ≡ false → b ≡ false → (t && a) ≡ (t && b)
refused t a b p q = rw (p, q) refl

not_passed : (t a : Bool) → a ≡ false → (t && a) ≡ true → ⊥
not_passed true a p q = cc
not_passed false a p q = cc

module _ (low high : ℕ) (m n : Memory) (h : HasMore low high m n) (at count : ℕ) where
  none_at : (k : ℕ) → at + k + 1 ≡ low → wrapped (at + k) ≡ at + k → (m (wrapped (at + k)) ≡ None) × (n (wrapped (at + k)) ≡ None)
  none_at k e w =
      let old : m (at + k) ≡ None = h.edge (at + k) e in
      let new : n (at + k) ≡ None = sym (h.below (at + k) (omega arith)) ∙ old in
      (rw w old, rw w new)

  -- a buffer that begins below the range and reaches into it meets the place just below
  at_edge : at < low → low < at + count → at + count ≤ 4294967296 → (kind : AccessKind) → (allows_all kind m at count ≡ false) × (allows_all kind n at count ≡ false)
  at_edge p q l kind =
      let k : ℕ = low - (at + 1) in
      let none = none_at k (omega arith) (omega arith) in
      (meets_none kind m count at k (omega arith) none.0, meets_none kind n count at k (omega arith) none.1)

  apart : CallLaws → at + count ≤ 4294967296 → ((at + count ≤ low) ⊎ (high ≤ at)) → SameBuffer at count m n
  apart laws l (inl p) = laws.same_in_is_buffer at count m n (record { places = λ k q. let w : wrapped (at + k) ≡ at + k = omega arith in rw w (h.below (at + k) (omega arith)) })
  apart laws l (inr p) = laws.same_in_is_buffer at count m n (record { places = λ k q. let w : wrapped (at + k) ≡ at + k = omega arith in rw w (h.above (at + k) (omega arith)) })

  edge_buffer : at < low → low < at + count → at + count ≤ 4294967296 → SameBuffer at count m n
  edge_buffer p q l =
      let load = at_edge p q l Load in
      let store = at_edge p q l Store in
      record {
        load = refused (leb (at + count) 4294967296) _ _ load.0 load.1;
        store = refused (leb (at + count) 4294967296) _ _ store.0 store.1;
        bytes = λ e. absurd (not_passed (leb (at + count) 4294967296) _ load.0 e);
      }

  long_buffer : leb (at + count) 4294967296 ≡ false → SameBuffer at count m n
  long_buffer e = record {
    load = ap (λ t. t && allows_all Load m at count) e ∙ sym (ap (λ t. t && allows_all Load n at count) e);
    store = ap (λ t. t && allows_all Store m at count) e ∙ sym (ap (λ t. t && allows_all Store n at count) e);
    bytes = λ p. let z : false ≡ true = sym (ap (λ t. t && allows_all Load m at count) e) ∙ p in cc;
  }

  pub same_buffer : CallLaws → Away low high at → SameBuffer at count m n
  same_buffer laws away = elim (leb_tells (at + count) 4294967296) [
    | inr past ↦ long_buffer past.0
    | inl fits ↦ elim away [
      | inr p ↦ apart laws fits.1 (inr p)
      | inl p ↦ elim (leb_tells (at + count) low) [ inl q ↦ apart laws fits.1 (inl q.1) | inr q ↦ edge_buffer p q.1 fits.1 ]
    ]
  ]

-- so a call whose buffer, where it is known, begins outside the range has the same outcome over both memories
pub same_call : CallLaws → (low high : ℕ) (m n : Memory) → HasMore low high m n → (q : Request) (left : Environment) → IsAway low high q.at → system_call q m left ≡ system_call q n left
same_call laws low high m n h q left away = laws.by_buffer q m n left (λ at count e f. same_buffer low high m n h at count laws (away at e))
