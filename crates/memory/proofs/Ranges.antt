-- Ranges of memory: what stays beside a store, memories that are the same outside a range, and what is forgotten.
use Rattle.std.proofs.Common.{◌≡◌, ◌≢◌, ℕ, ◌+◌, ◌-◌, ◌^◌, ◌<◌, Bool, true, false, cond, ltb, Option, Some, None, refl, sym, ◌∙◌, ap, arith}
use Rattle.std.proofs.lemmas.Bool.{cond-true}
use Rattle.x86_values.specs.declared.byte.Byte.{Byte}
use Rattle.x86_values.specs.declared.byte.Byte.TheVariants.{Unspecified}
use Rattle.memory.specs.Memory.{Place, Memory, wrapped, put_all, byte_of, forgotten, forget_below, SameIn, SameOutside, AreApart}
use Rattle.memory.specs.MemoryLaws.{BytesElsewhere, AllowsAfter, ApartInOrder, ApartSymmetric, WithinInOrder, SameOutsidePut, SameOutsidePutWithin, SameOutsideForget, SameOutsideSymmetric, AllowsOutside, BytesOutside, ForgetIsForgotten, ForgetAsInvariant, StoreExposes}
use Rattle.memory.proofs.Memories.{put_all_elsewhere, put_all_keeps_kinds, put_all_by_place, forget_by_place, forget_at_below, allows_by_kinds, allows_in_same, bytes_in_same}

pub bytes_elsewhere : BytesElsewhere
bytes_elsewhere at bs m from n h = bytes_in_same (put_all at bs m) m from n (record { places = λ j l. put_all_elsewhere at bs m (wrapped (from + j)) (λ k less. h.apart j k l less) })

pub allows_after : AllowsAfter
allows_after kind at bs m from n = allows_by_kinds kind (put_all at bs m) m (put_all_keeps_kinds at bs m) from n

-- ---- ranges
different : (a b : ℕ) → a < b → b < a + 2 ^ 32 → wrapped a ≢ wrapped b
different a b l k e = absurd (omega (arith, e))

pub apart_in_order : ApartInOrder
apart_in_order from n at count l k = record { apart = λ i j p q. different (from + i) (at + j) (omega arith) (omega arith) }

pub apart_symmetric : ApartSymmetric
apart_symmetric from n at count h = record { apart = λ i j p q e. h.apart j i q p (sym e) }

pub within_in_order : WithinInOrder
within_in_order from n at count l k = record { within = λ j p. let e : from + j ≡ at + (from + j - at) = omega arith in (from + j - at, omega arith, ap wrapped e) }

-- ---- memories that are the same outside a range
pub same_outside_put : SameOutsidePut
same_outside_put at count from bs m n h = record { places = λ a out. put_all_by_place from bs m n a (h.places a out) }

pub same_outside_put_within : SameOutsidePutWithin
same_outside_put_within at count from bs m n w h = record { places = λ a out. put_all_elsewhere from bs m a (λ j l e. out (w.within j l).0 (w.within j l).1 (e ∙ (w.within j l).2)) ∙ h.places a out }

pub same_outside_forget : SameOutsideForget
same_outside_forget at count esp m n h = record { places = λ a out. forget_by_place esp m n a (h.places a out) }

pub same_outside_symmetric : SameOutsideSymmetric
same_outside_symmetric at count m n h = record { places = λ a out. sym (h.places a out) }

same_apart : (at count from size : ℕ) (m n : Memory) → AreApart from size at count → SameOutside at count m n → SameIn from size m n
same_apart at count from size m n ranges h = record { places = λ j l. h.places (wrapped (from + j)) (λ k less. ranges.apart j k l less) }

pub allows_outside : AllowsOutside
allows_outside kind at count from size m n ranges h = allows_in_same kind m n from size (same_apart at count from size m n ranges h)

pub bytes_outside : BytesOutside
bytes_outside at count from size m n ranges h = bytes_in_same m n from size (same_apart at count from size m n ranges h)

-- ---- what is forgotten
on_stack_of : Option Place → Bool
on_stack_of None = false
on_stack_of (Some p) = p.on_stack

none_known : (o : Option Place) (p : Place) → forgotten o ≡ Some p → p.on_stack ≡ true → p.byte ≡ Unspecified
unfolding on_stack_of
none_known None p e s = absurd cc
none_known (Some q) p e s =
    let same : q.on_stack ≡ p.on_stack = ap on_stack_of e in
    let byte : cond q.on_stack Unspecified q.byte ≡ p.byte = ap byte_of e in
    sym byte ∙ cond-true q.on_stack _ _ (same ∙ s)

pub forget_is_forgotten : ForgetIsForgotten
forget_is_forgotten esp m = record { bytes = λ a p l e s. none_known (m a) p (sym (forget_at_below esp m a l) ∙ e) s }

byte_stays : (t : Bool) (b : Byte) → (t ≡ true → b ≡ Unspecified) → cond t Unspecified b ≡ b
byte_stays true b h = sym (h refl)
byte_stays false b h = refl

place_stays : (t : Bool) (o : Option Place) → ((p : Place) → o ≡ Some p → p.on_stack ≡ true → p.byte ≡ Unspecified) → cond t (forgotten o) o ≡ o
place_stays false o h = refl
place_stays true None h = refl
place_stays true (Some p) h = ap (λ b. Some (record p { byte = b })) (byte_stays p.on_stack p.byte (h p refl))

pub forget_as_invariant : ForgetAsInvariant
unfolding forget_below
forget_as_invariant low high m a h l = place_stays (ltb a high) (m a) (λ p e s. h.bytes a p l e s)

pub store_exposes : StoreExposes
store_exposes low at bs m a p h out l e s = h.bytes a p l (sym (put_all_elsewhere at bs m a out) ∙ e) s
