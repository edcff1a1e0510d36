-- Worked rows of what is less specified.
use Rattle.std.proofs.Common.{◌≡◌, ℕ, ◌<◌, ◌==◌, ◌||◌, true, false, List, [], ◌∷◌, refl, ap, arith}
use Rattle.x86_values.specs.declared.byte.Byte.{Byte}
use Rattle.x86_values.specs.declared.byte.Byte.TheVariants.{Known, Unspecified}
use Rattle.x86_values.specs.Words.{padded}
use Rattle.x86_values.specs.LessSpecified.{ByteLessSpecified, WordLessSpecified}
use Rattle.memory.specs.Memory.{forget_below}
use Rattle.memory.specs.SystemCall.{Called, Ends, Gives}
use Rattle.memory.specs.LessSpecified.{PlaceLessSpecified}
use Rattle.memory.specs.Rows.{small, PlaceRows, MemoryRows, StoreRows, RequestRows, CallRows}
use Rattle.memory.proofs.LessSpecified.{less_either, forget_left}
use Rattle.memory.proofs.LessSpecifiedCalls.{called_itself}

different : (a b : ℕ) → a < b → Known b ≡ Known a → ⊥
different a b l e = let same : b ≡ a = cc in omega arith

no_known : (a : ℕ) → Unspecified ≡ Known a → ⊥
no_known a e = cc

pub places : PlaceRows
places = record {
  known = record { byte = (refl, omega arith); can_write = refl; on_stack = refl };
  unspecified = record { byte = tt; can_write = refl; on_stack = refl };
  more_specified = λ h. no_known 7 h.byte.0;
  other_byte = λ h. different 7 8 (omega arith) h.byte.0;
  no_byte = λ h. omega (arith, h.byte.1);
  can_be_written = λ h. let e : false ≡ true = h.can_write in cc;
  cannot_be_written = λ h. let e : true ≡ false = h.can_write in cc;
  on_stack = λ h. let e : false ≡ true = h.on_stack in cc;
  off_stack = λ h. let e : true ≡ false = h.on_stack in cc;
  unmapped = tt;
  mapped_on_left = λ h. h;
  mapped_on_right = λ h. h;
}

small_itself : (a : ℕ) → PlaceLessSpecified (small a) (small a)
small_itself a =
    less_either (a == 8 || a == 9) _ _ _ _ (record { byte = (refl, omega arith); can_write = refl; on_stack = refl })
    (less_either (a == 10) _ _ _ _ (record { byte = (refl, omega arith); can_write = refl; on_stack = refl }) tt)

pub memories : MemoryRows
unfolding forget_below
memories = record {
  forgotten = forget_left small small 9 (record { places = small_itself });
  known_again = λ h. no_known 7 (h.places 8).byte.0;
}

pub stores : StoreRows
stores = record {
  none = refl;
  two = (refl, (tt, refl), (refl, ((refl, omega arith), refl), refl));
  other_order = λ h. omega (arith, h.0);
  other_bytes = λ h. different 1 2 (omega arith) h.2.1.0.0;
  other_length = λ h. let e = h.1.1 in cc;
  one_more = λ h. cc;
  one_fewer = λ h. h;
}

lowest : (x y : Byte) → ByteLessSpecified x y → WordLessSpecified (padded (x ∷ [])) (padded (y ∷ []))
lowest x y h = record { b0 = h; b1 = (refl, omega arith); b2 = (refl, omega arith); b3 = (refl, omega arith) }

pub requests : RequestRows
requests = record {
  known = record { number = lowest _ _ (refl, omega arith); fd = lowest _ _ (refl, omega arith); at = lowest _ _ (refl, omega arith); count = lowest _ _ (refl, omega arith) };
  unspecified = record { number = lowest Unspecified _ tt; fd = lowest Unspecified _ tt; at = lowest Unspecified _ tt; count = lowest Unspecified _ tt };
  other_number = λ h. let e : Known 3 ≡ Known 4 = h.number.b0.0 in absurd cc;
  other_fd = λ h. let e : Known 0 ≡ Known 1 = h.fd.b0.0 in absurd cc;
  other_at = λ h. let e : Known 8 ≡ Known 9 = h.at.b0.0 in absurd cc;
  other_count = λ h. different 1 2 (omega arith) h.count.b0.0;
}

abbrev input_of : Called → List ℕ
input_of (Ends e) = []
input_of (Gives ls result stores left) = left.input

pub calls : CallRows
calls = record {
  unspecified = tt;
  same_end = λ e. called_itself (Ends e);
  exited = λ h. cc;
  memory_fault = λ h. cc;
  divide_fault = λ h. cc;
  outside = λ h. cc;
  other_call = λ h. cc;
  guard = λ h. cc;
  stopped = λ h. cc;
  same_result = refl;
  ends_on_right = λ h. cc;
  other_result = λ h. cc;
  other_labels = λ h. cc;
  other_stores = λ h. cc;
  other_outside = λ h. let e : 1 ∷ [] ≡ [] = ap input_of h in cc;
}
