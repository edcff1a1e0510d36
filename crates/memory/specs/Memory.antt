-- The memory of the machine: at each address a byte that is mapped, known or unspecified, or nothing.
use Rattle.std.specs.Prelude.{◌≡◌, ◌≢◌, ℕ, zero, suc, ◌+◌, ◌-◌, ◌*◌, ◌/◌, ◌%◌, ◌<◌, ◌==◌, ◌&&◌, Bool, true, false, cond, leb, ltb, List, [], ◌∷◌, length, slice_index, Option, Some, None}
use Rattle.std.specs.Option.{option_map}
use Rattle.x86_values.specs.declared.byte.Byte.{Byte}
use Rattle.x86_values.specs.declared.byte.Byte.TheVariants.{Known, Unspecified}
use Rattle.x86_values.specs.Words.{IsByte}
use Rattle.image.specs.declared.image.Segment.{Segment}
use Rattle.image.specs.declared.image.Image.{Image}
use Rattle.image.specs.Addresses.{has, segment_at, segment_byte}

-- a mapped byte can be read; a byte of the stack becomes unspecified where esp rises past it
pub record Place : Type 0 where
  pub byte : Byte
  pub can_write : Bool
  pub on_stack : Bool

abbrev pub Memory : Type 0
Memory = ℕ → Option Place

-- addresses wrap at 2^32
abbrev pub wrapped : ℕ → ℕ
wrapped a = a % 4294967296

-- a mapped place with another byte
abbrev pub with_byte : Byte → Option Place → Option Place
with_byte b None = None
with_byte b (Some p) = Some (record p { byte = b })

-- one byte is another, where it is mapped
unfoldable pub put : ℕ → Byte → Memory → Memory
put at b m a = cond (a == at) (with_byte b (m a)) (m a)

-- the bytes from an address on are others; each may be unspecified
unfoldable pub put_all : ℕ → List Byte → Memory → Memory
put_all at [] m = m
put_all at (b ∷ bs) m = put_all (at + 1) bs (put (wrapped at) b m)

-- bytes that are stored from an address on
pub record Stored : Type 0 where
  pub at : ℕ
  pub bytes : List Byte

-- the memory after some are stored, in order
abbrev pub store_all : List Stored → Memory → Memory
store_all [] m = m
store_all (s ∷ ss) m = store_all ss (put_all s.at s.bytes m)

-- an access loads bytes or stores them
pub data AccessKind : Type 0 where
  Load : AccessKind
  Store : AccessKind

-- whether a place allows it: it is mapped, and for a store it can be written
abbrev pub allows : AccessKind → Option Place → Bool
allows kind None = false
allows Load (Some p) = true
allows Store (Some p) = p.can_write

-- so does each of n places from an address on
unfoldable pub allows_all : AccessKind → Memory → ℕ → ℕ → Bool
allows_all kind m at zero = true
allows_all kind m at (suc n) = allows kind (m (wrapped at)) && allows_all kind m (at + 1) n

-- the byte of a place. Where nothing is mapped no byte is read, since each access is judged first; it counts as unspecified.
abbrev pub byte_of : Option Place → Byte
byte_of None = Unspecified
byte_of (Some p) = p.byte

-- n bytes from an address on
unfoldable pub bytes_at : Memory → ℕ → ℕ → List Byte
bytes_at m at zero = []
bytes_at m at (suc n) = byte_of (m (wrapped at)) ∷ bytes_at m (at + 1) n

-- a byte of the stack is unspecified
abbrev pub forgotten : Option Place → Option Place
forgotten None = None
forgotten (Some p) = Some (record p { byte = cond p.on_stack Unspecified p.byte })

-- each byte of the stack below an address is (psABI: there is no red zone; that they are unspecified is own)
unfoldable pub forget_below : ℕ → Memory → Memory
forget_below esp m a = cond (ltb a esp) (forgotten (m a)) (m a)

-- the pages of an image
abbrev pub place_in : ℕ → Segment → Place
place_in a s = record { byte = Known (segment_byte a s); can_write = has s.perm.0 2; on_stack = false }

unfoldable pub memory_of : Image → Memory
memory_of image a = option_map (place_in a) (segment_at image a)

-- the first address of the stack region: esp at the start, rounded down to a page, less 8 MiB (own)
abbrev pub stack_start : ℕ → ℕ
stack_start esp0 = 4096 * (esp0 / 4096) - 8388608

-- a byte of the stack at the start: the given bytes stand from esp on, and those below it are unspecified (own)
abbrev pub stack_place : ℕ → List ℕ → ℕ → Place
stack_place esp0 bytes a = record { byte = cond (ltb a esp0) Unspecified (Known (slice_index bytes (a - esp0))); can_write = true; on_stack = true }

-- the stack region beside other memory
unfoldable pub with_stack : ℕ → List ℕ → Memory → Memory
with_stack esp0 bytes m a = cond (leb (stack_start esp0) a && ltb a (esp0 + length bytes)) (Some (stack_place esp0 bytes a)) (m a)

-- what an access is judged by, and what is forgotten: whether a place is mapped, can be written, is on the stack
abbrev pub kind_of : Option Place → Option (Bool × Bool)
kind_of None = None
kind_of (Some p) = Some (p.can_write, p.on_stack)

-- each byte that is known is below 256
pub record HasBytes (m : Memory) : Type 0 where
  pub bytes : (a : ℕ) (p : Place) → m a ≡ Some p → IsByte p.byte

-- two memories have the same places from an address on
pub record SameIn (at count : ℕ) (m n : Memory) : Type 0 where
  pub places : (k : ℕ) → k < count → m (wrapped (at + k)) ≡ n (wrapped (at + k))

-- two memories have the same places at each address that is none of a range
pub record SameOutside (at count : ℕ) (m n : Memory) : Type 0 where
  pub places : (a : ℕ) → ((k : ℕ) → k < count → a ≢ wrapped (at + k)) → m a ≡ n a

-- no address of a range of n is one of a range of count
pub record AreApart (from n at count : ℕ) : Type 0 where
  pub apart : (j k : ℕ) → j < n → k < count → wrapped (from + j) ≢ wrapped (at + k)

-- each address of a range of n is one of a range of count
pub record IsWithin (from n at count : ℕ) : Type 0 where
  pub within : (j : ℕ) → j < n → (k : ℕ) × (k < count) × (wrapped (from + j) ≡ wrapped (at + k))

-- no byte of the stack below an address is known
pub record IsForgottenBelow (low : ℕ) (m : Memory) : Type 0 where
  pub bytes : (a : ℕ) (p : Place) → a < low → m a ≡ Some p → p.on_stack ≡ true → p.byte ≡ Unspecified
