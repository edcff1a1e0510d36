-- Regions of memory: what is added to it, and what of it is forgotten.
use Rattle.std.specs.Prelude.{◌≡◌, ℕ, ◌/◌, ◌<◌, ◌≤◌, ◌&&◌, Bool, true, false, cond, leb, ltb, Some, None}
use Rattle.x86_values.specs.declared.byte.Byte.{Byte}
use Rattle.x86_values.specs.declared.byte.Byte.TheVariants.{Known, Unspecified}
use Rattle.memory.specs.Memory.{Place, Memory, forgotten}

-- no address is mapped
abbrev pub unmapped : Memory
unmapped a = None

abbrev pub is_unspecified : Byte → Bool
is_unspecified (Known b) = false
is_unspecified Unspecified = true

-- A region whose bytes are unspecified at first is the stack: it alone forgets.
abbrev pub region_place : Bool → Byte → Place
region_place can_write unset = record { byte = unset; can_write = can_write; on_stack = is_unspecified unset }

-- the addresses from `start` up to but not with `end` are mapped, each with the same byte
unfoldable pub with_region : ℕ → ℕ → Bool → Byte → Memory → Memory
with_region start end can_write unset m a = cond (leb start a && ltb a end) (Some (region_place can_write unset)) (m a)

-- no address of a page, of 4,096 bytes, in which the region has an address is mapped
pub record HasRoom (start end : ℕ) (m : Memory) : Type 0 where
  pub free : (a b : ℕ) → start ≤ b → b < end → a / 4096 ≡ b / 4096 → m a ≡ None

-- each byte of the stack from `start` up to but not with `end` is unspecified
unfoldable pub forget_between : ℕ → ℕ → Memory → Memory
forget_between start end m a = cond (leb start a && ltb a end) (forgotten (m a)) (m a)
