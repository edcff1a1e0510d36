-- Memory that is filled with bytes.
use Rattle.std.proofs.Common.{◌≡◌, ◌≢◌, ◌⊎◌, inl, inr, ℕ, zero, suc, ◌+◌, ◌-◌, ◌^◌, ◌<◌, ◌≤◌, ◌&&◌, Bool, true, false, cond, leb, ltb, List, [], ◌∷◌, map, length, get_or, Option, Some, Result, Ok, Err, OnOk, refl, sym, ap, ◌∙◌, subst, arith}
use Rattle.std.proofs.lemmas.Bool.{cases_lt, and_from, and_left, and_right, le-leb, lt-leb, lt-ltb, le-ltb}
use Rattle.x86_values.specs.declared.byte.Byte.{Byte}
use Rattle.x86_values.specs.declared.byte.Byte.TheVariants.{Known, Unspecified}
use Rattle.image.specs.declared.image.Segment.{Segment}
use Rattle.image.specs.Addresses.{has}
use Rattle.memory.specs.Memory.{Place, Memory, wrapped, with_byte, put_all, place_in, stack_place, stack_start, with_stack}
use Rattle.memory.specs.MemoryLaws.{MemoryLaws}
use Rattle.mem_pages.specs.Regions.{with_region, region_place}
use Rattle.x86_machine.specs.Loading.{filled_region, with_segment}

-- ---- bytes that are put below 2^32
known-get : (bytes : List ℕ) (k : ℕ) → k < length bytes → get_or (map Known bytes) k Unspecified ≡ Known (get_or bytes k 0)
known-get [] k h = absurd (omega (arith, h))
known-get (b ∷ bs) zero h = refl
known-get (b ∷ bs) (suc k) h = known-get bs k (omega arith)

length-known : (bytes : List ℕ) → length (map Known bytes) ≡ length bytes
length-known [] = refl
length-known (b ∷ bs) = ap suc (length-known bs)

wrapped_small : (a : ℕ) → a < 2 ^ 32 → wrapped a ≡ a
wrapped_small a h = omega arith

module _ (laws : MemoryLaws) (at : ℕ) (bytes : List ℕ) (m : Memory) (within : at + length bytes ≤ 2 ^ 32) where
  put_there : (k : ℕ) → k < length bytes → put_all at (map Known bytes) m (at + k) ≡ with_byte (Known (get_or bytes k 0)) (m (at + k))
  put_there k h =
      let len : length (map Known bytes) ≡ length bytes = length-known bytes in
      let few : length (map Known bytes) ≤ 2 ^ 32 = omega (arith, len, within) in
      let inside : k < length (map Known bytes) = omega (arith, len, h) in
      let w : wrapped (at + k) ≡ at + k = wrapped_small (at + k) (omega (arith, within, h)) in
      subst (λ (a : ℕ). put_all at (map Known bytes) m a ≡ with_byte (Known (get_or bytes k 0)) (m a)) w
      (laws.put_all_there at (map Known bytes) m k few inside ∙ ap (λ (b : Byte). with_byte b (m (wrapped (at + k)))) (known-get bytes k h))

  apart_of : (a k : ℕ) → (a < at) ⊎ (at + length bytes ≤ a) → k < length (map Known bytes) → a ≢ wrapped (at + k)
  apart_of a k o h same =
      let len : length (map Known bytes) ≡ length bytes = length-known bytes in
      let w : wrapped (at + k) ≡ at + k = wrapped_small (at + k) (omega (arith, within, len, h)) in
      let e : a ≡ at + k = same ∙ w in
      elim o [ inl below ↦ omega (arith, e, below) | inr above ↦ omega (arith, e, above, len, h) ]

  put_elsewhere : (a : ℕ) → (a < at) ⊎ (at + length bytes ≤ a) → put_all at (map Known bytes) m a ≡ m a
  put_elsewhere a o = laws.put_all_elsewhere at (map Known bytes) m a (λ k h. apart_of a k o h)

-- ---- a region
inside : (start end a : ℕ) → start ≤ a → a < end → (leb start a && ltb a end) ≡ true
inside start end a l h = and_from (leb start a) (ltb a end) (le-leb start a l) (lt-ltb a end h)

outside : (start end a : ℕ) → (a < start) ⊎ (end ≤ a) → (leb start a && ltb a end) ≡ false
outside start end a o = elim o [ inl below ↦ and_left (leb start a) (ltb a end) (lt-leb start a below) | inr above ↦ and_right (leb start a) (ltb a end) (le-ltb a end above) ]

module _ (start end : ℕ) (w : Bool) (unset : Byte) (m : Memory) where
  region_there : (a : ℕ) → start ≤ a → a < end → with_region start end w unset m a ≡ Some (region_place w unset)
  unfolding with_region
  region_there a l h = ap (λ b. cond b (Some (region_place w unset)) (m a)) (inside start end a l h)

  region_elsewhere : (a : ℕ) → (a < start) ⊎ (end ≤ a) → with_region start end w unset m a ≡ m a
  unfolding with_region
  region_elsewhere a o = ap (λ b. cond b (Some (region_place w unset)) (m a)) (outside start end a o)

-- ---- a segment that is filled
past : (xs : List ℕ) (k : ℕ) → length xs ≤ k → get_or xs k 0 ≡ 0
past [] k h = refl
past (x ∷ xs) zero h = absurd (omega (arith, h))
past (x ∷ xs) (suc k) h = past xs k (omega arith)

module _ (laws : MemoryLaws) (s : Segment) (m : Memory) (small : length s.bytes ≤ s.size) (fits : s.start + s.size ≤ 2 ^ 32) where
  region : Memory
  region = with_region s.start (s.start + s.size) (has s.perm.0 2) (Known 0) m

  bytes_fit : s.start + length s.bytes ≤ 2 ^ 32
  bytes_fit = omega (arith, small, fits)

  segment_outside : (a : ℕ) → (a < s.start) ⊎ (s.start + s.size ≤ a) → put_all s.start (map Known s.bytes) region a ≡ with_segment s m a
  unfolding region
  segment_outside a o =
      let far : (a < s.start) ⊎ (s.start + length s.bytes ≤ a) = elim o [ inl below ↦ inl below | inr above ↦ inr (omega (arith, above, small)) ] in
      put_elsewhere laws s.start s.bytes region bytes_fit a far ∙ region_elsewhere s.start (s.start + s.size) (has s.perm.0 2) (Known 0) m a o ∙ sym (ap (λ b. cond b (Some (place_in a s)) (m a)) (outside s.start (s.start + s.size) a o))

  segment_front : (k : ℕ) → k < length s.bytes → put_all s.start (map Known s.bytes) region (s.start + k) ≡ with_segment s m (s.start + k)
  unfolding region
  segment_front k h =
      let a : ℕ = s.start + k in
      let above : s.start ≤ a = omega arith in
      let below : a < s.start + s.size = omega (arith, h, small) in
      let same : k ≡ a - s.start = omega arith in
      put_there laws s.start s.bytes region bytes_fit k h ∙ ap (with_byte (Known (get_or s.bytes k 0))) (region_there s.start (s.start + s.size) (has s.perm.0 2) (Known 0) m a above below)
      ∙ ap (λ (j : ℕ). Some (record { byte = Known (get_or s.bytes j 0); can_write = has s.perm.0 2; on_stack = false })) same ∙ sym (ap (λ b. cond b (Some (place_in a s)) (m a)) (inside s.start (s.start + s.size) a above below))

  segment_rest : (a : ℕ) → s.start + length s.bytes ≤ a → a < s.start + s.size → put_all s.start (map Known s.bytes) region a ≡ with_segment s m a
  unfolding region
  segment_rest a above below =
      let from : s.start ≤ a = omega (arith, above) in
      let zero_there : get_or s.bytes (a - s.start) 0 ≡ 0 = past s.bytes (a - s.start) (omega (arith, above)) in
      put_elsewhere laws s.start s.bytes region bytes_fit a (inr above) ∙ region_there s.start (s.start + s.size) (has s.perm.0 2) (Known 0) m a from below
      ∙ ap (λ (b : ℕ). Some (record { byte = Known b; can_write = has s.perm.0 2; on_stack = false })) (sym zero_there) ∙ sym (ap (λ b. cond b (Some (place_in a s)) (m a)) (inside s.start (s.start + s.size) a from below))

  segment_at_place : (a : ℕ) → put_all s.start (map Known s.bytes) region a ≡ with_segment s m a
  segment_at_place a = elim (cases_lt a s.start) [
    | inl below ↦ segment_outside a (inl below)
    | inr from ↦ elim (cases_lt a (s.start + length s.bytes)) [
      | inl front ↦ (let e : s.start + (a - s.start) ≡ a = omega (arith, from) in subst (λ (x : ℕ). put_all s.start (map Known s.bytes) region x ≡ with_segment s m x) e (segment_front (a - s.start) (omega (arith, from, front))))
      | inr behind ↦ elim (cases_lt a (s.start + s.size)) [ inl rest ↦ segment_rest a behind rest | inr above ↦ segment_outside a (inr above) ]
    ]
  ]

  pub segment_filled : filled_region s.start (s.start + s.size) (has s.perm.0 2) (Known 0) s.start s.bytes m ≡ with_segment s m
  unfolding region
  segment_filled = λ i a. segment_at_place a i

-- ---- the stack
module _ (laws : MemoryLaws) (start esp0 : ℕ) (bytes : List ℕ) (m : Memory) (is_start : start ≡ stack_start esp0) (below_esp : start ≤ esp0) (fits : esp0 + length bytes ≤ 2 ^ 32) where
  stack_region : Memory
  stack_region = with_region start (esp0 + length bytes) true Unspecified m

  as_stack : Bool → ℕ → Option Place
  as_stack b a = cond b (Some (stack_place esp0 bytes a)) (m a)

  stack_by : (a : ℕ) (b : Bool) → (leb start a && ltb a (esp0 + length bytes)) ≡ b → with_stack esp0 bytes m a ≡ as_stack b a
  unfolding with_stack as_stack
  stack_by a b h = ap (λ (x : ℕ). cond (leb x a && ltb a (esp0 + length bytes)) (Some (stack_place esp0 bytes a)) (m a)) (sym is_start) ∙ ap (λ (x : Bool). cond x (Some (stack_place esp0 bytes a)) (m a)) h

  stack_outside : (a : ℕ) → (a < start) ⊎ (esp0 + length bytes ≤ a) → put_all esp0 (map Known bytes) stack_region a ≡ with_stack esp0 bytes m a
  unfolding stack_region as_stack
  stack_outside a o =
      let far : (a < esp0) ⊎ (esp0 + length bytes ≤ a) = elim o [ inl below ↦ inl (omega (arith, below, below_esp)) | inr above ↦ inr above ] in
      put_elsewhere laws esp0 bytes stack_region fits a far ∙ region_elsewhere start (esp0 + length bytes) true Unspecified m a o ∙ sym (stack_by a false (outside start (esp0 + length bytes) a o))

  stack_below : (a : ℕ) → start ≤ a → a < esp0 → put_all esp0 (map Known bytes) stack_region a ≡ with_stack esp0 bytes m a
  unfolding stack_region as_stack
  stack_below a from below =
      let under : a < esp0 + length bytes = omega (arith, below) in
      put_elsewhere laws esp0 bytes stack_region fits a (inl below) ∙ region_there start (esp0 + length bytes) true Unspecified m a from under
      ∙ ap (λ (b : Bool). Some (record { byte = cond b Unspecified (Known (get_or bytes (a - esp0) 0)); can_write = true; on_stack = true })) (sym (lt-ltb a esp0 below)) ∙ sym (stack_by a true (inside start (esp0 + length bytes) a from under))

  stack_above : (k : ℕ) → k < length bytes → put_all esp0 (map Known bytes) stack_region (esp0 + k) ≡ with_stack esp0 bytes m (esp0 + k)
  unfolding stack_region as_stack
  stack_above k h =
      let a : ℕ = esp0 + k in
      let from : start ≤ a = omega (arith, below_esp) in
      let under : a < esp0 + length bytes = omega (arith, h) in
      let same : k ≡ a - esp0 = omega arith in
      let not_below : ltb a esp0 ≡ false = le-ltb a esp0 (omega arith) in
      put_there laws esp0 bytes stack_region fits k h ∙ ap (with_byte (Known (get_or bytes k 0))) (region_there start (esp0 + length bytes) true Unspecified m a from under)
      ∙ ap (λ (j : ℕ). Some (record { byte = Known (get_or bytes j 0); can_write = true; on_stack = true })) same
      ∙ ap (λ (b : Bool). Some (record { byte = cond b Unspecified (Known (get_or bytes (a - esp0) 0)); can_write = true; on_stack = true })) (sym not_below) ∙ sym (stack_by a true (inside start (esp0 + length bytes) a from under))

  stack_at_place : (a : ℕ) → put_all esp0 (map Known bytes) stack_region a ≡ with_stack esp0 bytes m a
  stack_at_place a = elim (cases_lt a start) [
    | inl under ↦ stack_outside a (inl under)
    | inr from ↦ elim (cases_lt a esp0) [
      | inl below ↦ stack_below a from below
      | inr above ↦ elim (cases_lt a (esp0 + length bytes)) [
        | inl within ↦ (let e : esp0 + (a - esp0) ≡ a = omega (arith, above) in subst (λ (x : ℕ). put_all esp0 (map Known bytes) stack_region x ≡ with_stack esp0 bytes m x) e (stack_above (a - esp0) (omega (arith, above, within))))
        | inr behind ↦ stack_outside a (inr behind)
      ]
    ]
  ]

  pub stack_filled : filled_region start (esp0 + length bytes) true Unspecified esp0 bytes m ≡ with_stack esp0 bytes m
  unfolding stack_region
  stack_filled = λ i a. stack_at_place a i

-- what holds of a memory after an Ok holds of one that is the same
pub on_ok : {T E : Type 0} (r : Result T E) (k m n : Memory) → m ≡ n → OnOk r (k ≡ m) → OnOk r (k ≡ n)
on_ok (Ok x) k m n e h = h ∙ e
on_ok (Err x) k m n e h = h

pub segment_loaded : MemoryLaws → (s t : Segment) (w : Bool) (bytes : List ℕ) (m : Memory) → t ≡ s → w ≡ has s.perm.0 2 → bytes ≡ t.bytes → length s.bytes ≤ s.size → s.start + s.size ≤ 2 ^ 32 → filled_region t.start (t.start + t.size) w (Known 0) t.start bytes m ≡ with_segment s m
segment_loaded laws s t w bytes m same wis bis small fits =
    ap (λ (x : Segment). filled_region x.start (x.start + x.size) w (Known 0) x.start bytes m) same
    ∙ ap (λ (b : Bool). filled_region s.start (s.start + s.size) b (Known 0) s.start bytes m) wis
    ∙ ap (λ (ys : List ℕ). filled_region s.start (s.start + s.size) (has s.perm.0 2) (Known 0) s.start ys m) (bis ∙ ap (λ (x : Segment). x.bytes) same)
    ∙ segment_filled laws s m small fits
