-- How the places of blocks are kept: a map of numbers, and a word for each old address of the span. All of this is own.
use Rattle.std.specs.Prelude.{◌≡◌, ℕ, ◌+◌, ◌-◌, ◌<◌, ◌||◌, ◌==◌, ◌&&◌, not, cond, leb, ltb, List, length, slice_index, Option, Some, None}
use Rattle.std.specs.Option.{unwrap_or}
use Rattle.std.specs.Ordering.{nat_cmp}
use Rattle.std.specs.BTreeMap.{get}
use Rattle.named_code.specs.declared.placed.Placed.{Placed}
use Rattle.named_code.specs.Items.{CodeBlock, placed_blocks}
use Rattle.named_code.specs.PlacedForm.{IsPlacedInForm}
use Rattle.laid_code.specs.Laid.{Places}
use Rattle.code_text.specs.declared.places.CodePlaces.{CodePlaces}
use Rattle.code_text.specs.Placing.{PlacesFrom, AreSpelled, numbered_from, addressed_from}

-- where new code begins, and where the address table does
abbrev pub code_start : ℕ
code_start = 0x60000000

abbrev pub table_start : ℕ
table_start = 0x74000000

abbrev pub places_in : CodePlaces → Places
places_in p = record {
  by_number = λ n. unwrap_or (get nat_cmp p.numbers n) 0;
  by_address = λ a. cond (ltb a p.span || leb (p.span + length p.words.items) a) 0 (slice_index p.words.items (a - p.span));
  stop = p.stop;
  table = table_start;
  span = p.span;
  count = length p.words.items;
}

-- the places of blocks that stand from the beginning of new code on, where old addresses lie in a span
pub record ArePlacesOf (blocks : List CodeBlock) (cell from many : ℕ) (l : Places) : Type 0 where
  pub places : PlacesFrom l code_start cell blocks
  pub span : l.span ≡ from
  pub count : l.count ≡ many
  pub table : l.table ≡ table_start

-- the words of the address table
pub record AreTableWords (l : Places) (table : List ℕ) : Type 0 where
  pub all : length table ≡ l.count
  pub words : (k : ℕ) → k < l.count → slice_index table k ≡ l.by_address (l.span + k)

-- placed code in form has spellings
abbrev pub FormIsSpelled : Type 0
FormIsSpelled = (p : Placed) → IsPlacedInForm p → AreSpelled (placed_blocks p)

-- ---- as they are added, one block after the other
-- the place that was there, or else this; 0 is none
abbrev pub first_place : ℕ → ℕ → ℕ
first_place p q = cond (p == 0) q p

pub record HasNoPlaces (from many place : ℕ) (p : CodePlaces) : Type 0 where
  pub numbers : (n : ℕ) → (places_in p).by_number n ≡ 0
  pub addresses : (a : ℕ) → (places_in p).by_address a ≡ 0
  pub span : p.span ≡ from
  pub count : length p.words.items ≡ many
  pub stop : p.stop ≡ place

-- a block is added
pub record AddsPlace (old new : Places) (number at place : ℕ) : Type 0 where
  pub numbers : (n : ℕ) → new.by_number n ≡ first_place (old.by_number n) (cond (number == n) place 0)
  pub addresses : (a : ℕ) → new.by_address a ≡ first_place (old.by_address a) (cond (not (a == 0) && (at == a)) place 0)
  pub span : new.span ≡ old.span
  pub count : new.count ≡ old.count
  pub stop : new.stop ≡ old.stop

-- ---- what sizes hang on: the span and the table
abbrev pub sized : ℕ → ℕ → Places
sized span count = record { by_number = λ n. 0; by_address = λ a. 0; stop = 0; table = table_start; span = span; count = count }

-- blocks are added, from a place on
pub record GoesOn (old new : Places) (q : ℕ) (blocks : List CodeBlock) : Type 0 where
  pub numbers : (n : ℕ) → new.by_number n ≡ first_place (old.by_number n) (numbered_from (sized old.span old.count) q n blocks)
  pub addresses : (a : ℕ) → new.by_address a ≡ first_place (old.by_address a) (addressed_from (sized old.span old.count) q a blocks)
  pub span : new.span ≡ old.span
  pub count : new.count ≡ old.count
  pub stop : new.stop ≡ old.stop

-- what is left of room for some bytes, where it is enough
abbrev pub room_left : ℕ → ℕ → Option ℕ
room_left n room = cond (leb n room) (Some (room - n)) None

-- the place behind a text that stands at the beginning of new code
abbrev pub place_behind : List ℕ → ℕ
place_behind text = code_start + length text
