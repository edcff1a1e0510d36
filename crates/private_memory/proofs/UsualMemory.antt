-- Usual memories, and what is left of memories without the area.
use Rattle.std.proofs.Common.{◌≡◌, ℕ, zero, suc, ◌+◌, ◌-◌, ◌<◌, ◌≤◌, ◌&&◌, ◌||◌, Bool, true, false, cond, leb, ltb, List, length, slice_index_or, Some, None, refl, sym, ap, ◌∙◌, subst, arith}
use Rattle.std.proofs.lemmas.List.{get_or_past}
use Rattle.std.proofs.lemmas.Bool.{le-leb, lt-leb, leb-true, ltb-true, and_parts, cond-true}
use Rattle.x86_values.specs.declared.byte.Byte.{Byte}
use Rattle.x86_values.specs.declared.byte.Byte.TheVariants.{Known}
use Rattle.x86_values.specs.Words.{IsByte, word_of, word_list}
use Rattle.memory.specs.Memory.{Place, Memory, put_all, byte_of, bytes_at, stack_start, stack_place, with_stack, kind_of, HasBytes}
use Rattle.memory.specs.MemoryLaws.{MemoryLaws}
use Rattle.x86_meaning.specs.Run.{IsStart}
use Rattle.private_memory.specs.PrivateArea.{is_private, without_private, IsUsual, IsOfProgram, private_byte, private_place, with_private}
use Rattle.private_memory.specs.PrivateAreaLaws.{UsualLaws}
use Rattle.private_memory.proofs.Places.{in_area, is_in, is_below, hidden_in, shown_outside_area, no_kind}

-- ---- the usual memory of a program's
with_outside : (esp0 : ℕ) (m : Memory) (a : ℕ) → is_private a ≡ false → with_private esp0 m a ≡ m a
unfolding with_private
with_outside esp0 m a h = ap (λ b. cond b (Some (private_place esp0 a)) (m a)) h

with_inside : (esp0 : ℕ) (m : Memory) (a : ℕ) → is_private a ≡ true → with_private esp0 m a ≡ Some (private_place esp0 a)
unfolding with_private
with_inside esp0 m a h = ap (λ b. cond b (Some (private_place esp0 a)) (m a)) h

bool_or : (b c : Bool) → (b || c) ≡ true → (P : Type 0) → (b ≡ true → P) → (c ≡ true → P) → P
bool_or true c h P f g = f refl
bool_or false c h P f g = g h

past_the_word : (esp0 k : ℕ) → 4 ≤ k → slice_index_or (word_list (word_of esp0)) k (Known 0) ≡ Known 0
past_the_word esp0 k h = get_or_past (word_list (word_of esp0)) k (Known 0) h

zero_byte : (esp0 a : ℕ) → 0x75000004 ≤ a → private_byte esp0 a ≡ Known 0
zero_byte esp0 a h = cond-true (leb 0x75000000 a) _ _ (le-leb 0x75000000 a (omega arith)) ∙ past_the_word esp0 (a - 0x75000000) (omega arith)

at_first : (esp0 : ℕ) (m : Memory) (a : ℕ) → 0x75000004 ≤ a → a < 0x7C000000 → byte_of (with_private esp0 m a) ≡ Known 0
at_first esp0 m a low high = ap byte_of (with_inside esp0 m a (is_in a (omega arith) high)) ∙ zero_byte esp0 a low

esp_there : (esp0 : ℕ) (m : Memory) → bytes_at (with_private esp0 m) 0x75000000 4 ≡ word_list (word_of esp0)
unfolding bytes_at with_private is_private
esp_there esp0 m = refl

is_usual : (esp0 : ℕ) (m : Memory) → IsOfProgram m → IsUsual esp0 (with_private esp0 m)
is_usual esp0 m h = record {
  first_page = λ a l. with_outside esp0 m a (is_below a (omega arith)) ∙ h.first_page a l;
  gap = λ a l k. with_outside esp0 m a (is_below a k) ∙ h.gap a l (omega arith);
  area = λ a p. ap kind_of (with_inside esp0 m a p);
  zeros = λ a z.
      bool_or (leb 0x75000004 a && ltb a 0x75220000) (leb 0x76000000 a && ltb a 0x7C000000) z (byte_of (with_private esp0 m a) ≡ Known 0)
      (λ cells. let parts = and_parts (leb 0x75000004 a) (ltb a 0x75220000) cells in at_first esp0 m a (leb-true 0x75000004 a parts.0) (let l : a < 0x75220000 = ltb-true a 0x75220000 parts.1 in omega arith))
      (λ images. let parts = and_parts (leb 0x76000000 a) (ltb a 0x7C000000) images in at_first esp0 m a (let l : 0x76000000 ≤ a = leb-true 0x76000000 a parts.0 in omega arith) (ltb-true a 0x7C000000 parts.1));
  esp = esp_there esp0 m;
}

without_is : (esp0 : ℕ) (m : Memory) → IsOfProgram m → (a : ℕ) → without_private (with_private esp0 m) a ≡ m a
without_is esp0 m h a = cases (is_private a) refl
  where
    cases : (b : Bool) → is_private a ≡ b → without_private (with_private esp0 m) a ≡ m a
    cases true e = let i = in_area a e in hidden_in (with_private esp0 m) a e ∙ sym (h.gap a (let l : 0x60000000 ≤ a = i.low in omega arith) i.high)
    cases false e = shown_outside_area (with_private esp0 m) a e ∙ with_outside esp0 m a e

-- ---- known bytes
word_byte : (esp0 k : ℕ) → IsByte (slice_index_or (word_list (word_of esp0)) k (Known 0))
unfolding word_of
word_byte esp0 zero = omega arith
word_byte esp0 (suc zero) = omega arith
word_byte esp0 (suc (suc zero)) = omega arith
word_byte esp0 (suc (suc (suc zero))) = omega arith
word_byte esp0 (suc (suc (suc (suc k)))) = omega arith

private_is_byte : (esp0 a : ℕ) → IsByte (private_byte esp0 a)
private_is_byte esp0 a = elim (leb 0x75000000 a) as (λ b. IsByte (cond b (slice_index_or (word_list (word_of esp0)) (a - 0x75000000) (Known 0)) (Known 0))) [ true ↦ word_byte esp0 (a - 0x75000000) | false ↦ omega arith ]

with_bytes : (esp0 : ℕ) (m : Memory) → HasBytes m → HasBytes (with_private esp0 m)
with_bytes esp0 m h = record { bytes = λ a p e. cases a p (is_private a) refl e }
  where
    some_is : (p q : Place) → Some p ≡ Some q → p ≡ q
    some_is p q e = cc

    cases : (a : ℕ) (p : Place) (b : Bool) → is_private a ≡ b → with_private esp0 m a ≡ Some p → IsByte p.byte
    cases a p true e is = let same : private_place esp0 a ≡ p = some_is _ p (sym (with_inside esp0 m a e) ∙ is) in subst (λ (q : Place). IsByte q.byte) same (private_is_byte esp0 a)
    cases a p false e is = h.bytes a p (sym (with_outside esp0 m a e) ∙ is)

without_bytes : (m : Memory) → HasBytes m → HasBytes (without_private m)
without_bytes m h = record { bytes = λ a p e. cases a p (is_private a) refl e }
  where
    cases : (a : ℕ) (p : Place) (b : Bool) → is_private a ≡ b → without_private m a ≡ Some p → IsByte p.byte
    cases a p true e is = let no : None ≡ Some p = sym (hidden_in m a e) ∙ is in absurd cc
    cases a p false e is = h.bytes a p (sym (shown_outside_area m a e) ∙ is)

-- ---- the stack
pub stack_above : (esp0 : ℕ) (stack : List ℕ) → IsStart esp0 stack → (a : ℕ) → a < 0x7C000000 → (m : Memory) → with_stack esp0 stack m a ≡ m a
unfolding with_stack
stack_above esp0 stack start a low m =
    let high : 0x80000000 ≤ esp0 = start.high in
    ap (λ b. cond (b && ltb a (esp0 + length stack)) (Some (stack_place esp0 stack a)) (m a)) (lt-leb (stack_start esp0) a (omega arith))

module _ (laws : MemoryLaws) where
  stack_without : (esp0 : ℕ) (stack : List ℕ) (m : Memory) → IsStart esp0 stack → (a : ℕ) → without_private (with_stack esp0 stack m) a ≡ with_stack esp0 stack (without_private m) a
  stack_without esp0 stack m start a = cases (is_private a) refl
    where
      cases : (b : Bool) → is_private a ≡ b → without_private (with_stack esp0 stack m) a ≡ with_stack esp0 stack (without_private m) a
      cases true e = hidden_in (with_stack esp0 stack m) a e ∙ sym (stack_above esp0 stack start a (in_area a e).high (without_private m) ∙ hidden_in m a e)
      cases false e = shown_outside_area (with_stack esp0 stack m) a e ∙ laws.stack_by_place esp0 stack m (without_private m) a (sym (shown_outside_area m a e))

  put_without : (at : ℕ) (bs : List Byte) (m : Memory) (a : ℕ) → without_private (put_all at bs m) a ≡ put_all at bs (without_private m) a
  put_without at bs m a = cases (is_private a) refl
    where
      cases : (b : Bool) → is_private a ≡ b → without_private (put_all at bs m) a ≡ put_all at bs (without_private m) a
      cases true e = hidden_in (put_all at bs m) a e ∙ sym (no_kind (put_all at bs (without_private m) a) (laws.put_all_keeps_kinds at bs (without_private m) a ∙ ap kind_of (hidden_in m a e)))
      cases false e = shown_outside_area (put_all at bs m) a e ∙ laws.put_all_by_place at bs m (without_private m) a (sym (shown_outside_area m a e))

  pub usual_laws : UsualLaws
  usual_laws = record {
    usual = is_usual;
    without = without_is;
    bytes = with_bytes;
    bytes_without = without_bytes;
    stack = stack_without;
    store = put_without;
  }
