-- What a call looks at of memory.
use Rattle.std.proofs.Common.{◌≡◌, ◌⊎◌, ℕ, zero, suc, ◌+◌, ◌<◌, ◌==◌, ◌&&◌, ◌||◌, Bool, true, false, not, cond, List, [], ◌∷◌, find, is_some, Option, Some, None, refl, ap, subst, inl, inr, arith}
use Rattle.std.proofs.lemmas.Bool.{eqb-true}
use Rattle.x86_values.specs.Words.{known}
use Rattle.outside.specs.Environment.{Environment}
use Rattle.memory.specs.Memory.{Memory, wrapped, Load, Store, SameIn, SameOutside, AreApart}
use Rattle.memory.specs.SystemCall.{Request, Called, Plan, reads, writes, read_call, write_call, transfer_call, call_by, system_call}
use Rattle.memory.specs.CallLaws.{CallLaws, SameBuffer}
use Rattle.x86_meaning.specs.AccessLaws.{AllApart}
use Rattle.flag_ir.specs.Storage.{Frame}
use Rattle.flag_ir.specs.Frames.{covers, all_covered, seen_place, seen_memory}
use Rattle.flag_ir.specs.Operations.{has_buffer}
use Rattle.flag_ir.specs.Accesses.{buffer_accessed}
use Rattle.flag_ir.proofs.BareFrames.{covered_first, covered_rest}

-- ---- memories that differ in a range that is apart
pub same_in : (from n at count : ℕ) (l m : Memory) → AreApart from n at count → SameOutside at count l m → SameIn from n l m
same_in from n at count l m h k = record { places = λ j less. k.places (wrapped (from + j)) (λ i small. h.apart j i less small) }

-- ---- a call without a buffer looks at nothing
plan_same : {A : Type 0} (s t : Bool) (a b c d : A) → (not t && s) ≡ false → cond s (cond t a b) d ≡ cond s (cond t a c) d
plan_same true true a b c d h = refl
plan_same true false a b c d h = absurd cc
plan_same false t a b c d h = refl

or_false : (s t : Bool) → (not t && (s || false)) ≡ false → (not t && s) ≡ false
or_false true t h = h
or_false false t h = h

read_same : (fd at count : ℕ) (m n : Memory) (left : Environment) → has_buffer 3 fd count ≡ false → read_call fd at count m left ≡ read_call fd at count n left
unfolding read_call
read_same fd at count m n left h = ap (λ (p : Plan ℕ). reads p fd at left) (plan_same (fd == 0) (count == 0) _ _ _ _ (or_false (fd == 0) (count == 0) h))

write_same : (fd at count : ℕ) (m n : Memory) (left : Environment) → has_buffer 4 fd count ≡ false → write_call fd at count m left ≡ write_call fd at count n left
unfolding write_call
write_same fd at count m n left h = ap (λ (p : Plan (List ℕ)). writes p fd left) (plan_same (fd == 1 || fd == 2) (count == 0) _ _ _ _ h)

transfer_same : (call : ℕ → ℕ → ℕ → Memory → Environment → Called) (o p q : Option ℕ) (m n : Memory) (left : Environment) → ((fd at count : ℕ) → o ≡ Some fd → p ≡ Some at → q ≡ Some count → call fd at count m left ≡ call fd at count n left) → transfer_call call o p q m left ≡ transfer_call call o p q n left
transfer_same call (Some fd) (Some at) (Some count) m n left h = h fd at count refl refl refl
transfer_same call (Some fd) (Some at) None m n left h = refl
transfer_same call (Some fd) None q m n left h = refl
transfer_same call None p q m n left h = refl

-- what is asked, where it is known, has no buffer
abbrev HasNone : Option ℕ → Option ℕ → Option ℕ → Option ℕ → Type 0
HasNone (Some number) (Some fd) (Some at) (Some n) = has_buffer number fd n ≡ false
HasNone _ _ _ _ = Unit {0}

choice_same : {A : Type 0} (a b c : Bool) (x y z w p q : A) → (b ≡ true → y ≡ p) → (c ≡ true → z ≡ q) → cond a x (cond b y (cond c z w)) ≡ cond a x (cond b p (cond c q w))
choice_same true b c x y z w p q h k = refl
choice_same false true c x y z w p q h k = h refl
choice_same false false true x y z w p q h k = k refl
choice_same false false false x y z w p q h k = refl

none_at : (number n : ℕ) (o p q : Option ℕ) (fd at count : ℕ) → HasNone (Some number) o p q → o ≡ Some fd → p ≡ Some at → q ≡ Some count → number ≡ n → has_buffer n fd count ≡ false
none_at number n o p q fd at count h e f g i =
    let first : HasNone (Some number) (Some fd) p q = subst (λ (x : Option ℕ). HasNone (Some number) x p q) e h in
    let second : HasNone (Some number) (Some fd) (Some at) q = subst (λ (x : Option ℕ). HasNone (Some number) (Some fd) x q) f first in
    let third : HasNone (Some number) (Some fd) (Some at) (Some count) = subst (λ (x : Option ℕ). HasNone (Some number) (Some fd) (Some at) x) g second in
    subst (λ (x : ℕ). has_buffer x fd count ≡ false) i third

number_same : (q : Request) (number : ℕ) (m l : Memory) (left : Environment) → HasNone (Some number) (known q.fd) (known q.at) (known q.count) → call_by (Some number) q m left ≡ call_by (Some number) q l left
number_same q number m l left h =
    choice_same (number == 1) (number == 3) (number == 4) _ _ _ _ _ _
    (λ b. transfer_same read_call (known q.fd) (known q.at) (known q.count) m l left (λ fd at count e f g. read_same fd at count m l left (none_at number 3 (known q.fd) (known q.at) (known q.count) fd at count h e f g (eqb-true number 3 b))))
    (λ c. transfer_same write_call (known q.fd) (known q.at) (known q.count) m l left (λ fd at count e f g. write_same fd at count m l left (none_at number 4 (known q.fd) (known q.at) (known q.count) fd at count h e f g (eqb-true number 4 c))))

call_without : (q : Request) (m l : Memory) (left : Environment) → HasNone (known q.number) (known q.fd) (known q.at) (known q.count) → system_call q m left ≡ system_call q l left
unfolding system_call
call_without q m l left h = go (known q.number) h
  where
    go : (o : Option ℕ) → HasNone o (known q.fd) (known q.at) (known q.count) → call_by o q m left ≡ call_by o q l left
    go None h = refl
    go (Some number) h = number_same q number m l left h

-- ---- a buffer that is apart
record IsApartBuffer (o p : Option ℕ) (at count : ℕ) : Type 0 where
  from : ℕ
  size : ℕ
  starts : o ≡ Some from
  counts : p ≡ Some size
  apart : AreApart from size at count

buffer_by : (t : Bool) (number fd from n at count : ℕ) → has_buffer number fd n ≡ t → AllApart (cond t (record { kind = cond (number == 3) Store Load; at = from; size = n } ∷ []) []) at count → (has_buffer number fd n ≡ false) ⊎ IsApartBuffer (Some from) (Some n) at count
buffer_by true number fd from n at count is h = inr (record { from = from; size = n; starts = refl; counts = refl; apart = h.0 })
buffer_by false number fd from n at count is h = inl is

buffer_cases : (m o p q : Option ℕ) (at count : ℕ) → AllApart (buffer_accessed m o p q) at count → HasNone m o p q ⊎ IsApartBuffer p q at count
buffer_cases (Some number) (Some fd) (Some from) (Some n) at count h = buffer_by (has_buffer number fd n) number fd from n at count refl h
buffer_cases (Some number) (Some fd) (Some from) None at count h = inl tt
buffer_cases (Some number) (Some fd) None q at count h = inl tt
buffer_cases (Some number) None p q at count h = inl tt
buffer_cases None o p q at count h = inl tt

module _ (calls : CallLaws) where
  -- a call over memories that are the same in its buffer
  by_range : (q : Request) (from n : ℕ) (m l : Memory) (left : Environment) → known q.at ≡ Some from → known q.count ≡ Some n → SameIn from n m l → system_call q m left ≡ system_call q l left
  by_range q from n m l left e f same = calls.by_buffer q m l left here
    where
      here : (at count : ℕ) → known q.at ≡ Some at → known q.count ≡ Some count → SameBuffer at count m l
      here at count g h =
          let first : from ≡ at = cc in
          let second : n ≡ count = cc in
          let moved : SameIn at n m l = subst (λ (x : ℕ). SameIn x n m l) first same in
          calls.same_in_is_buffer at count m l (subst (λ (x : ℕ). SameIn at x m l) second moved)

  pub call_outside : (q : Request) (at count : ℕ) (m l : Memory) (left : Environment) → AllApart (buffer_accessed (known q.number) (known q.fd) (known q.at) (known q.count)) at count → SameOutside at count m l → system_call q m left ≡ system_call q l left
  call_outside q at count m l left h k = go (buffer_cases (known q.number) (known q.fd) (known q.at) (known q.count) at count h)
    where
      go : HasNone (known q.number) (known q.fd) (known q.at) (known q.count) ⊎ IsApartBuffer (known q.at) (known q.count) at count → system_call q m left ≡ system_call q l left
      go (inl none) = call_without q m l left none
      go (inr b) = by_range q b.from b.size m l left b.starts b.counts (same_in b.from b.size at count m l b.apart k)

  -- ---- a buffer in the frames
  covered_at : (fs : List Frame) (n at k : ℕ) → all_covered fs at n ≡ true → k < n → is_some (find (covers (wrapped (at + k))) fs) ≡ true
  unfolding all_covered
  covered_at fs zero at k h less = absurd (omega (arith, less))
  covered_at fs (suc n) at zero h less = let e : at + 0 ≡ at = omega arith in rw e (covered_first _ _ h)
  covered_at fs (suc n) at (suc k) h less = let e : at + suc k ≡ at + 1 + k = omega arith in rw e (covered_at fs n (at + 1) k (covered_rest (is_some (find (covers (wrapped at)) fs)) _ h) (omega (arith, less)))

  seen_alike : (o : Option Frame) (a : ℕ) (m l : Memory) → is_some o ≡ true → seen_place o a m ≡ seen_place o a l
  seen_alike None a m l h = absurd cc
  seen_alike (Some f) a m l h = refl

  pub near_outside : (q : Request) (fs : List Frame) (from n : ℕ) (m l : Memory) (left : Environment) → known q.at ≡ Some from → known q.count ≡ Some n → all_covered fs from n ≡ true → system_call q (seen_memory fs m) left ≡ system_call q (seen_memory fs l) left
  unfolding seen_memory
  near_outside q fs from n m l left e f covered = by_range q from n (seen_memory fs m) (seen_memory fs l) left e f (record { places = λ k less. seen_alike (find (covers (wrapped (from + k))) fs) (wrapped (from + k)) m l (covered_at fs n from k covered less) })
