-- Places in and outside the private area.
use Rattle.std.proofs.Common.{◌≡◌, ℕ, ◌<◌, ◌≤◌, ◌&&◌, Bool, true, false, cond, leb, ltb, Option, Some, None, refl, ap, ap₂}
use Rattle.std.proofs.lemmas.Bool.{le-leb, lt-leb, lt-ltb, le-ltb, leb-true, ltb-true, and_parts}
use Rattle.memory.specs.Memory.{Place, Memory, kind_of}
use Rattle.private_memory.specs.PrivateArea.{is_private, without_private}

pub record IsInArea (a : ℕ) : Type 0 where
  pub low : 0x60000000 ≤ a
  pub high : a < 0x7C000000

pub in_area : (a : ℕ) → is_private a ≡ true → IsInArea a
unfolding is_private
in_area a h = let parts = and_parts (leb 0x60000000 a) (ltb a 0x7C000000) h in record { low = leb-true 0x60000000 a parts.0; high = ltb-true a 0x7C000000 parts.1 }

pub is_in : (a : ℕ) → 0x60000000 ≤ a → a < 0x7C000000 → is_private a ≡ true
unfolding is_private
is_in a low high = ap₂ (λ b c. b && c) (le-leb 0x60000000 a low) (lt-ltb a 0x7C000000 high)

pub is_below : (a : ℕ) → a < 0x60000000 → is_private a ≡ false
unfolding is_private
is_below a h = ap (λ b. b && ltb a 0x7C000000) (lt-leb 0x60000000 a h)

pub is_above : (a : ℕ) → 0x7C000000 ≤ a → is_private a ≡ false
unfolding is_private
is_above a h = and_false (leb 0x60000000 a) (ltb a 0x7C000000) (le-ltb a 0x7C000000 h)
  where
    and_false : (b c : Bool) → c ≡ false → (b && c) ≡ false
    and_false true c e = e
    and_false false c e = refl

-- ---- places
pub hidden_in : (m : Memory) (a : ℕ) → is_private a ≡ true → without_private m a ≡ None
unfolding without_private
hidden_in m a h = ap (λ b. cond b None (m a)) h

pub shown_outside_area : (m : Memory) (a : ℕ) → is_private a ≡ false → without_private m a ≡ m a
unfolding without_private
shown_outside_area m a h = ap (λ b. cond b None (m a)) h

-- nothing is mapped where a place of no kind is
pub no_kind : (o : Option Place) → kind_of o ≡ None → o ≡ None
no_kind None h = refl
no_kind (Some p) h = cc
