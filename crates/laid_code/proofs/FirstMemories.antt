-- The memory of the processor at the beginning, while esp is stored.
use Rattle.std.proofs.Common.{◌≡◌, ◌≢◌, ℕ, zero, suc, ◌+◌, ◌*◌, ◌/◌, ◌%◌, ◌<◌, ◌≤◌, ◌&&◌, Bool, true, false, not, cond, leb, ltb, List, length, Option, Some, None, refl, sym, ap, ap₂, ◌∙◌, subst, arith}
use Rattle.std.proofs.lemmas.Bool.{and_parts, leb-true, ltb-true, ltb-false, lt-ltb}
use Rattle.x86_values.specs.declared.byte.Byte.{Byte}
use Rattle.x86_values.specs.declared.byte.Byte.TheVariants.{Unspecified}
use Rattle.memory.specs.Memory.{Place, Memory, AccessKind, wrapped, allows_all, kind_of, put_all, forgotten, forget_below, stack_start, stack_place, with_stack}
use Rattle.memory.specs.MemoryLaws.{MemoryLaws}
use Rattle.x86_meaning.specs.Run.{IsStart}
use Rattle.laid_code.specs.Beginning.{is_off_stack}
use Rattle.laid_code.proofs.Memories.{free_allows}

-- ---- the stack
abbrev pub is_in_stack : ℕ → List ℕ → ℕ → Bool
is_in_stack esp0 stack a = leb (stack_start esp0) a && ltb a (esp0 + length stack)

module _ (esp0 : ℕ) (stack : List ℕ) where
  pub in_stack : (m : Memory) (a : ℕ) → is_in_stack esp0 stack a ≡ true → with_stack esp0 stack m a ≡ Some (stack_place esp0 stack a)
  unfolding with_stack
  in_stack m a h = ap (λ b. cond b (Some (stack_place esp0 stack a)) (m a)) h

  pub off_stack : (m : Memory) (a : ℕ) → is_in_stack esp0 stack a ≡ false → with_stack esp0 stack m a ≡ m a
  unfolding with_stack
  off_stack m a h = ap (λ b. cond b (Some (stack_place esp0 stack a)) (m a)) h

  -- it lies above the private area
  pub stack_high : IsStart esp0 stack → (a : ℕ) → is_in_stack esp0 stack a ≡ true → 0x7F000000 ≤ a
  stack_high start a h =
      let from : stack_start esp0 ≤ a = leb-true (stack_start esp0) a (and_parts (leb (stack_start esp0) a) (ltb a (esp0 + length stack)) h).0 in
      let high = start.high in
      let page : 0x80000000 ≤ 4096 * (esp0 / 4096) = omega (arith, high) in
      omega (arith, from, page)

-- ---- an address that isn't one of a word below the stack
module _ (at : ℕ) (bs : List Byte) (four : length bs ≡ 4) (low : at + 4 ≤ 0x7F000000) where
  not_above : (a : ℕ) → 0x7F000000 ≤ a → (k : ℕ) → k < length bs → a ≢ wrapped (at + k)
  not_above a h k less e =
      let few : k < 4 = subst (λ n. k < n) four less in
      let is : a ≡ (at + k) % 4294967296 = e in
      absurd (omega (arith, h, low, few, is))

  module _ (laws : MemoryLaws) (esp0 : ℕ) (stack : List ℕ) (start : IsStart esp0 stack) where
    -- what is stored there is stored beside the stack
    pub put_beside : (m : Memory) (a : ℕ) → put_all at bs (with_stack esp0 stack m) a ≡ with_stack esp0 stack (put_all at bs m) a
    put_beside m a = cases (is_in_stack esp0 stack a) refl
      where
        cases : (b : Bool) → is_in_stack esp0 stack a ≡ b → put_all at bs (with_stack esp0 stack m) a ≡ with_stack esp0 stack (put_all at bs m) a
        cases true e = laws.put_all_elsewhere at bs (with_stack esp0 stack m) a (not_above a (stack_high esp0 stack start a e)) ∙ (in_stack esp0 stack m a e ∙ sym (in_stack esp0 stack (put_all at bs m) a e))
        cases false e = laws.put_all_by_place at bs (with_stack esp0 stack m) m a (off_stack esp0 stack m a e) ∙ sym (off_stack esp0 stack (put_all at bs m) a e)

-- ---- below esp nothing is known that could be forgotten
abbrev pub IsOffStack : Memory → Type 0
IsOffStack m = (a : ℕ) → is_off_stack (kind_of (m a)) ≡ true

forgotten_off : (o : Option Place) → is_off_stack (kind_of o) ≡ true → forgotten o ≡ o
forgotten_off None h = refl
forgotten_off (Some p) h = ap (λ b. Some (record p { byte = cond b Unspecified p.byte })) (is_false p.on_stack h)
  where
    is_false : (b : Bool) → not b ≡ true → b ≡ false
    is_false false h = refl
    is_false true h = absurd (cc h)

module _ (laws : MemoryLaws) (esp0 : ℕ) (stack : List ℕ) where
  stack_forgotten : (a : ℕ) → a < esp0 → forgotten (Some (stack_place esp0 stack a)) ≡ Some (stack_place esp0 stack a)
  stack_forgotten a h = rw (lt-ltb a esp0 h) refl

  pub forgets_nothing : (m : Memory) → IsOffStack m → (a : ℕ) → forget_below esp0 (with_stack esp0 stack m) a ≡ with_stack esp0 stack m a
  forgets_nothing m off a = cases (ltb a esp0) refl
    where
      below : (b : Bool) → is_in_stack esp0 stack a ≡ b → a < esp0 → forgotten (with_stack esp0 stack m a) ≡ with_stack esp0 stack m a
      below true e h = ap forgotten (in_stack esp0 stack m a e) ∙ (stack_forgotten a h ∙ sym (in_stack esp0 stack m a e))
      below false e h = ap forgotten (off_stack esp0 stack m a e) ∙ (forgotten_off (m a) (off a) ∙ sym (off_stack esp0 stack m a e))

      cases : (b : Bool) → ltb a esp0 ≡ b → forget_below esp0 (with_stack esp0 stack m) a ≡ with_stack esp0 stack m a
      cases true e = let h = ltb-true a esp0 e in laws.forget_below esp0 (with_stack esp0 stack m) a h ∙ below (is_in_stack esp0 stack a) refl h
      cases false e = laws.forget_above esp0 (with_stack esp0 stack m) a (ltb-false a esp0 e)

  pub put_off_stack : (at : ℕ) (bs : List Byte) (m : Memory) → IsOffStack m → IsOffStack (put_all at bs m)
  put_off_stack at bs m h a = ap is_off_stack (laws.put_all_keeps_kinds at bs m a) ∙ h a

-- ---- a store to places that can be written is allowed
pub allows_by_kinds : (kind : AccessKind) (m : Memory) (at n : ℕ) → ((j : ℕ) → j < n → kind_of (m (wrapped (at + j))) ≡ Some (true, false)) → allows_all kind m at n ≡ true
unfolding allows_all
allows_by_kinds kind m at zero h = refl
allows_by_kinds kind m at (suc n) h =
    let first : at + 0 ≡ at = omega arith in
    ap₂ (λ b c. b && c) (free_allows kind (m (wrapped at)) (subst (λ a. kind_of (m (wrapped a)) ≡ Some (true, false)) first (h 0 (omega arith))))
    (allows_by_kinds kind m (at + 1) n (λ j less. let same : at + suc j ≡ at + 1 + j = omega arith in subst (λ a. kind_of (m (wrapped a)) ≡ Some (true, false)) same (h (suc j) (omega (arith, less)))))
