-- Worked rows of ranges, and of what is forgotten.
use Rattle.std.proofs.Common.{◌≡◌, ℕ, ◌<◌, true, [], ◌∷◌, refl, ap, arith}
use Rattle.x86_values.specs.declared.byte.Byte.TheVariants.{Known, Unspecified}
use Rattle.memory.specs.Memory.{Memory, put, put_all, byte_of, forget_below, SameOutside}
use Rattle.memory.specs.Rows.{half_open, small, ApartRows, WithinRows, OutsideRows, ForgottenRows}
use Rattle.memory.proofs.Ranges.{apart_in_order, apart_symmetric, within_in_order, same_outside_put_within, forget_is_forgotten}

pub apart : ApartRows
apart = record {
  ends_before = apart_in_order 8 2 10 1 (omega arith) (omega arith);
  ends_in_it = λ h. h.apart 2 0 (omega arith) (omega arith) refl;
  begins_behind = apart_symmetric 8 2 10 1 (apart_in_order 8 2 10 1 (omega arith) (omega arith));
  begins_in_it = λ h. h.apart 0 2 (omega arith) (omega arith) refl;
  empty = apart_in_order 8 0 8 1 (omega arith) (omega arith);
  last_and_first = record { apart = λ j k p q e. absurd (omega (arith, p, q, e)) };
  first_wraps = λ h. h.apart 1 0 (omega arith) (omega arith) refl;
  second_wraps = λ h. h.apart 0 1 (omega arith) (omega arith) refl;
}

pub within : WithinRows
within = record {
  whole = within_in_order 8 3 8 3 (omega arith) (omega arith);
  begins_before = λ h. let w = h.within 0 (omega arith) in omega (arith, w.1, w.2);
  ends_behind = λ h. let w = h.within 2 (omega arith) in omega (arith, w.1, w.2);
  empty = record { within = λ j l. absurd (omega (arith, l)) };
  both_wrap = within_in_order 0xFFFFFFFF 2 0xFFFFFFFF 2 (omega arith) (omega arith);
  second_wraps = record { within = λ j l. (1, omega arith, omega (arith, l)) };
}

same : (at count : ℕ) (m : Memory) → SameOutside at count m m
same at count m = record { places = λ a out. refl }

distinct : (a b : ℕ) → a < b → Known a ≡ Known b → ⊥
distinct a b l e = let same : a ≡ b = cc in omega arith

pub outside : OutsideRows
unfolding put put_all
outside = record {
  there = same_outside_put_within 8 2 8 (Known 1 ∷ Known 2 ∷ []) small small (within_in_order 8 2 8 2 (omega arith) (omega arith)) (same 8 2 small);
  without_first = λ h. distinct 1 7 (omega arith) (ap byte_of (h.places 8 (λ k l e. omega (arith, l, e))));
  without_last = λ h. distinct 2 7 (omega arith) (ap byte_of (h.places 9 (λ k l e. omega (arith, l, e))));
  wraps = same_outside_put_within 0xFFFFFFFF 2 0 (Known 1 ∷ []) half_open half_open within.second_wraps (same 0xFFFFFFFF 2 half_open);
}

no_known : (a : ℕ) → Known a ≡ Unspecified → ⊥
no_known a e = cc

pub forgotten : ForgottenRows
unfolding forget_below
forgotten = record {
  below = forget_is_forgotten 9 small;
  known = λ h. no_known 7 (h.bytes 9 (record { byte = Known 7; can_write = true; on_stack = true }) (omega arith) refl refl);
  off_stack = forget_is_forgotten 11 small;
}
