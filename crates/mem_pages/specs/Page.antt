-- What a page holds.
use Rattle.std.specs.Prelude.{◌≡◌, ℕ, ◌+◌, ◌-◌, ◌/◌, ◌<◌, ◌&&◌, ◌||◌, Bool, true, false, not, cond, leb, ltb, length, slice_index_or, List, Option, Some, None}
use Rattle.std.specs.Option.{option_map}
use Rattle.x86_values.specs.declared.byte.Byte.{Byte}
use Rattle.x86_values.specs.declared.byte.Byte.TheVariants.{Unspecified}
use Rattle.x86_values.specs.declared.word.Word.{Word}
use Rattle.x86_values.specs.Words.{known_byte}
use Rattle.memory.specs.Memory.{Place, Memory, AccessKind, Load, Store, allows, byte_of, with_byte, forgotten}
use Rattle.mem_pages.specs.declared.page.Page.{Page}
use Rattle.mem_pages.specs.Regions.{is_unspecified}

-- the byte at an offset: on the stack none below `low` is known, and a byte that isn't kept is the unset one
abbrev pub byte_in : Page → ℕ → Byte
byte_in g at = cond (is_unspecified g.unset && ltb at g.low) Unspecified (slice_index_or g.bytes.items at g.unset)

-- whether the place at an offset is mapped
abbrev pub maps : Page → ℕ → Bool
maps g at = leb g.from at && ltb at g.to

-- the places of a page, by their offsets
unfoldable pub place_in : Page → Memory
place_in g at = cond (maps g at) (Some (record { byte = byte_in g at; can_write = g.can_write; on_stack = is_unspecified g.unset })) None

-- whether some places are mapped and their bytes are read as they are kept; on the stack not where they are hidden
abbrev pub is_plain : Page → Bool → ℕ → ℕ → Bool
is_plain g hidden at count = leb g.from at && (leb (at + count) g.to && (leb 4096 (length g.bytes.items) && not (is_unspecified g.unset && (hidden || ltb at g.low))))

-- whether a place is mapped and the bytes of its page are kept
unfoldable pub kept_in : Page → ℕ → Bool
kept_in g at = maps g at && leb 4096 (length g.bytes.items)

-- places that have a byte of their own keep it
pub record KeepsBytes (g h : Page) : Type 0 where
  pub kept : (at : ℕ) → kept_in g at ≡ true → kept_in h at ≡ true

-- a place, forgotten where it is hidden
abbrev pub shown : Bool → Option Place → Option Place
shown hidden o = cond hidden (forgotten o) o

-- some bytes from an address on are others, where they are mapped
unfoldable pub put_part : ℕ → List Byte → Memory → Memory
put_part at bs m a = cond (leb at a && ltb a (at + length bs)) (with_byte (slice_index_or bs (a - at) Unspecified) (m a)) (m a)

-- the byte of a place, where it is mapped
abbrev pub seen : Option Place → Option Byte
seen = option_map (λ p. p.byte)

-- an access for a store or for a load
abbrev pub kind_of_access : Bool → AccessKind
kind_of_access store = cond store Store Load

-- the judgement of an access of some places, from an address on: each allows it, or one doesn't
abbrev pub Judges : Bool → AccessKind → Memory → ℕ → ℕ → Type 0
Judges true kind m at count = (k : ℕ) → k < count → allows kind (m (at + k)) ≡ true
Judges false kind m at count = (k : ℕ) × (k < count) × (allows kind (m (at + k)) ≡ false)

-- no place of the page of an address is one of the stack
pub record IsOffStack (at : ℕ) (m : Memory) : Type 0 where
  pub off : (a : ℕ) (p : Place) → a / 4096 ≡ at / 4096 → m a ≡ Some p → p.on_stack ≡ false

-- the word of four bytes, the lowest first, where each is there
abbrev pub joined : Option Byte → Option Byte → Option Byte → Option Byte → Option Word
joined (Some a) (Some b) (Some c) (Some d) = Some (record { b0 = a; b1 = b; b2 = c; b3 = d })
joined _ _ _ _ = None

-- the number of a byte, where it is there and known
abbrev pub known_there : Option Byte → Option ℕ
known_there None = None
known_there (Some b) = known_byte b

-- bytes are those of some mapped places from an address on
pub record ShowsBytes (m : Memory) (at count : ℕ) (bytes : List Byte) : Type 0 where
  pub len : length bytes ≡ count
  pub shown : (k : ℕ) → k < count → allows Load (m (at + k)) ≡ true → byte_of (m (at + k)) ≡ slice_index_or bytes k Unspecified
