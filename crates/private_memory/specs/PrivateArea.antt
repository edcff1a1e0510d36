-- The private area of a written file: its own code, the address table, the cells and the images of frames stand there, and the program never
-- reaches it. All of this is own.
use Rattle.std.specs.Prelude.{◌≡◌, ℕ, zero, suc, ◌+◌, ◌-◌, ◌<◌, ◌≤◌, ◌&&◌, ◌||◌, Bool, true, false, not, cond, leb, ltb, slice_index_or, Some, None}
use Rattle.x86_values.specs.declared.byte.Byte.{Byte}
use Rattle.x86_values.specs.declared.byte.Byte.TheVariants.{Known}
use Rattle.x86_values.specs.Words.{word_of, word_list}
use Rattle.memory.specs.Memory.{Place, Memory, wrapped, byte_of, bytes_at, allows_all, kind_of, AreApart}
use Rattle.x86_meaning.specs.Operands.{Access}

unfoldable pub is_private : ℕ → Bool
is_private a = leb 0x60000000 a && ltb a 0x7C000000

-- the memory as the program knew it: nothing is mapped there
unfoldable pub without_private : Memory → Memory
without_private m a = cond (is_private a) None (m a)

-- ---- the memory with which a written file begins
-- the new code and the address table aside, the area begins with zeros, but for the word of esp at its first cell
abbrev pub is_zero_at_first : ℕ → Bool
is_zero_at_first a = (leb 0x75000004 a && ltb a 0x75220000) || (leb 0x76000000 a && ltb a 0x7C000000)

-- the first page isn't mapped, nor are the 256 MiB before the area; each place of the area can be written and isn't on the stack
pub record IsUsual (esp0 : ℕ) (m : Memory) : Type 0 where
  pub first_page : (a : ℕ) → a < 0x1000 → m a ≡ None
  pub gap : (a : ℕ) → 0x50000000 ≤ a → a < 0x60000000 → m a ≡ None
  pub area : (a : ℕ) → is_private a ≡ true → kind_of (m a) ≡ Some (true, false)
  pub zeros : (a : ℕ) → is_zero_at_first a ≡ true → byte_of (m a) ≡ Known 0
  pub esp : bytes_at m 0x75000000 4 ≡ word_list (word_of esp0)

-- ---- there is one for each memory of a program
-- neither the first page is mapped, nor anything from 256 MiB before the area up to its end
pub record IsOfProgram (m : Memory) : Type 0 where
  pub first_page : (a : ℕ) → a < 0x1000 → m a ≡ None
  pub gap : (a : ℕ) → 0x50000000 ≤ a → a < 0x7C000000 → m a ≡ None

abbrev pub private_byte : ℕ → ℕ → Byte
private_byte esp0 a = cond (leb 0x75000000 a) (slice_index_or (word_list (word_of esp0)) (a - 0x75000000) (Known 0)) (Known 0)

abbrev pub private_place : ℕ → ℕ → Place
private_place esp0 a = record { byte = private_byte esp0 a; can_write = true; on_stack = false }

unfoldable pub with_private : ℕ → Memory → Memory
with_private esp0 m a = cond (is_private a) (Some (private_place esp0 a)) (m a)

-- ---- accesses
-- where an access is allowed it reaches neither the new code and the address table nor what stands between the cells and the images
pub record AreElsewhere (from n : ℕ) : Type 0 where
  pub code : AreApart from n 0x60000000 0x15000000
  pub names : AreApart from n 0x75220000 0xDE0000

pub record IsApartAccess (m : Memory) (a : Access) : Type 0 where
  pub elsewhere : allows_all a.kind m a.at a.size ≡ true → AreElsewhere a.at a.size

-- the same as a test: each address lies below or above both ranges
unfoldable pub each_address : (ℕ → Bool) → ℕ → ℕ → Bool
each_address test from zero = true
each_address test from (suc n) = test (wrapped from) && each_address test (from + 1) n

abbrev pub lies_beside : ℕ → ℕ → ℕ → Bool
lies_beside low high a = ltb a low || leb high a

abbrev pub is_elsewhere : ℕ → Bool
is_elsewhere a = lies_beside 0x60000000 0x75000000 a && lies_beside 0x75220000 0x76000000 a

unfoldable pub is_apart_access : Memory → Access → Bool
is_apart_access m a = not (allows_all a.kind m a.at a.size) || each_address is_elsewhere a.at a.size

-- ---- the same where the names' cells, up to 0x75800000, may be reached
pub record AreUnreserved (from n : ℕ) : Type 0 where
  pub code : AreApart from n 0x60000000 0x15000000
  pub behind_names : AreApart from n 0x75800000 0x800000

pub record IsClearAccess (m : Memory) (a : Access) : Type 0 where
  pub unreserved : allows_all a.kind m a.at a.size ≡ true → AreUnreserved a.at a.size

abbrev pub is_unreserved : ℕ → Bool
is_unreserved a = lies_beside 0x60000000 0x75000000 a && lies_beside 0x75800000 0x76000000 a

unfoldable pub is_clear_access : Memory → Access → Bool
is_clear_access m a = not (allows_all a.kind m a.at a.size) || each_address is_unreserved a.at a.size

-- what accesses rest on: the area can be read and written, and neither the last address before it nor address 0 is mapped
pub record HasPrivateArea (m : Memory) : Type 0 where
  pub zero : m 0 ≡ None
  pub before : m 0x5FFFFFFF ≡ None
  pub area : (a : ℕ) → is_private a ≡ true → kind_of (m a) ≡ Some (true, false)
