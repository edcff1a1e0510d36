-- What an access of pages comes to, by its answer.
use Rattle.std.specs.Prelude.{◌≡◌, ℕ, ◌+◌, ◌<◌, true, false, cond, List, map, length, take, Option, Some, None, Result, Ok, Err}
use Rattle.x86_values.specs.declared.byte.Byte.{Byte}
use Rattle.x86_values.specs.declared.byte.Byte.TheVariants.{Known}
use Rattle.x86_values.specs.declared.word.Word.{Word}
use Rattle.x86_values.specs.Words.{padded, word_list}
use Rattle.memory.specs.Memory.{Place, Memory, Load, Store, allows, allows_all, bytes_at, put, put_all, wrapped}
use Rattle.mem_pages.specs.declared.pages.Pages.{Pages}
use Rattle.mem_pages.specs.declared.fault.PageFault.{PageFault}
use Rattle.mem_pages.specs.declared.fault.PageFault.TheVariants as fault
use Rattle.mem_pages.specs.Contents.{memory_in, is_kept}

-- the byte of a place, where it is mapped
abbrev pub byte_read : Option Place → Result Byte PageFault
byte_read None = Err fault.NotMapped
byte_read (Some p) = Ok p.byte

-- what is loaded: `size` bytes, the lowest first, and zeros above them; none where one of them isn't mapped
abbrev pub loaded : Memory → ℕ → ℕ → Option Word
loaded m at size = cond (allows_all Load m at size) (Some (padded (bytes_at m at size))) None

-- pages that were kept are kept
pub record KeepsPages (p q : Pages) : Type 0 where
  pub kept : (a : ℕ) → is_kept p a ≡ true → is_kept q a ≡ true

-- the memory is as it was
pub record SameMemory (p q : Pages) : Type 0 where
  pub memory : memory_in q ≡ memory_in p

-- some address of a range isn't kept; addresses wrap at 2^32
pub record IsNotAllKept (at count : ℕ) (p : Pages) : Type 0 where
  pub offset : ℕ
  pub within : offset < count
  pub not_kept : is_kept p (wrapped (at + offset)) ≡ false

-- each address of a range is kept; addresses wrap at 2^32
pub record IsAllKept (at count : ℕ) (p : Pages) : Type 0 where
  pub kept : (k : ℕ) → k < count → is_kept p (wrapped (at + k)) ≡ true

-- each mapped address of a range is kept afterwards
abbrev pub IsKept : ℕ → ℕ → Pages → Pages → Type 0
IsKept at count p q = (k : ℕ) → k < count → allows Load (memory_in p (wrapped (at + k))) ≡ true → is_kept q (wrapped (at + k)) ≡ true

-- bytes were stored from an address on, past the end of the addresses at 0
pub record IsStored (at : ℕ) (bytes : List Byte) (p q : Pages) : Type 0 where
  pub allowed : allows_all Store (memory_in p) at (length bytes) ≡ true
  pub memory : memory_in q ≡ put_all at bytes (memory_in p)

-- The store of a word's lowest bytes. A fault changes nothing, and comes only where the store isn't allowed; want of memory
-- comes only
-- where a page isn't kept, and leaves the memory as it was.
abbrev pub Stores : ℕ → ℕ → Word → Result (Unit {0}) PageFault → Pages → Pages → Type 0
Stores at size w (Ok _) p q = IsStored at (take size (word_list w)) p q
Stores at size w (Err fault.NotMapped) p q = (allows_all Load (memory_in p) at size ≡ false) × SameMemory p q
Stores at size w (Err fault.NotWritable) p q = (allows_all Load (memory_in p) at size ≡ true) × (allows_all Store (memory_in p) at size ≡ false) × SameMemory p q
Stores at size w (Err fault.Memory) p q = IsNotAllKept at size p × SameMemory p q

-- The write of one byte: it is mapped and can be written; or it isn't mapped; or it is mapped and can't be written; or its page
-- isn't kept and memory is wanting.
abbrev pub Writes : ℕ → Byte → Result (Unit {0}) PageFault → Pages → Pages → Type 0
Writes at byte (Ok _) p q = (allows Store (memory_in p at) ≡ true) × (memory_in q ≡ put at byte (memory_in p)) × (is_kept q at ≡ true)
Writes at byte (Err fault.NotMapped) p q = (allows Load (memory_in p at) ≡ false) × SameMemory p q
Writes at byte (Err fault.NotWritable) p q = (allows Load (memory_in p at) ≡ true) × (allows Store (memory_in p at) ≡ false) × SameMemory p q
Writes at byte (Err fault.Memory) p q = (is_kept p at ≡ false) × SameMemory p q

-- A fill of known bytes, whatever can be written: each place is mapped, and all are filled; or one isn't mapped; or a page isn't
-- kept and memory is wanting.
abbrev pub Fills : ℕ → List ℕ → Result (Unit {0}) PageFault → Pages → Pages → Type 0
Fills at bytes (Ok _) p q = (allows_all Load (memory_in p) at (length bytes) ≡ true) × (memory_in q ≡ put_all at (map Known bytes) (memory_in p))
Fills at bytes (Err fault.NotMapped) p q = (allows_all Load (memory_in p) at (length bytes) ≡ false) × SameMemory p q
Fills at bytes (Err fault.NotWritable) p q = ⊥
Fills at bytes (Err fault.Memory) p q = IsNotAllKept at (length bytes) p × SameMemory p q

-- The lending of a part of a page: its very bytes, where each is mapped.
abbrev pub Lent : Memory → ℕ → ℕ → Result (List Byte) PageFault → Type 0
Lent m at count (Ok bytes) = (allows_all Load m at count ≡ true) × (bytes ≡ bytes_at m at count)
Lent m at count (Err fault.NotMapped) = allows_all Load m at count ≡ false
Lent m at count (Err fault.NotWritable) = ⊥
Lent m at count (Err fault.Memory) = ⊥

-- The same, or want of memory where the page isn't kept or has bytes of the stack that are forgotten only in name: then `read`
-- gives the bytes one by one.
abbrev pub LentWhereKept : Memory → ℕ → ℕ → Result (List Byte) PageFault → Type 0
LentWhereKept m at count (Err fault.Memory) = allows_all Load m at count ≡ true
LentWhereKept m at count r = Lent m at count r
