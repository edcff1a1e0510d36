-- What the pages of a directory hold.
use Rattle.std.specs.Prelude.{◌≡◌, ◌≢◌, ℕ, zero, suc, ◌/◌, ◌%◌, ◌<◌, ◌≤◌, Bool, true, false, List, [], ◌∷◌, length, Option, Some, None}
use Rattle.std.specs.List.{slice_get}
use Rattle.std.specs.Option.{is_some}
use Rattle.memory.specs.Memory.{Place, Memory}
use Rattle.mem_pages.specs.declared.page.Page.{Page}
use Rattle.mem_pages.specs.declared.directory.Table.{Table}
use Rattle.mem_pages.specs.declared.directory.Directory.{Directory}
use Rattle.mem_pages.specs.Page.{place_in, kept_in}

-- the pages of a table, by its number
abbrev pub pages_of : List Table → ℕ → List Page
pages_of [] i = []
pages_of (t ∷ ts) zero = t.pages.items
pages_of (t ∷ ts) (suc i) = pages_of ts i

-- the page with a number, 1,024 of them a table
unfoldable pub page_at : Directory → ℕ → Option Page
page_at d n = slice_get (pages_of d.tables.items (n / 1024)) (n % 1024)

-- the place at an offset of a page, where there is one
abbrev pub place_on : Option Page → ℕ → Option Place
place_on None at = None
place_on (Some g) at = place_in g at

-- whether it has a byte of its own
abbrev pub kept_on : Option Page → ℕ → Bool
kept_on None at = false
kept_on (Some g) at = kept_in g at

-- the places of all pages, by their addresses
unfoldable pub contents : Directory → Memory
contents d a = place_on (page_at d (a / 4096)) (a % 4096)

-- whether the place at an address has a byte of its own
unfoldable pub keeps : Directory → ℕ → Bool
keeps d a = kept_on (page_at d (a / 4096)) (a % 4096)

-- places that have a byte of their own keep it
pub record KeepsPlaces (d e : Directory) : Type 0 where
  pub kept : (a : ℕ) → keeps d a ≡ true → keeps e a ≡ true

-- the page with a number is another, and no other page is
pub record IsWithPage (d e : Directory) (n : ℕ) (g : Page) : Type 0 where
  pub there : page_at e n ≡ Some g
  pub elsewhere : (m : ℕ) → m ≢ n → page_at e m ≡ page_at d m

-- pages were added in which no place is mapped
pub record IsGrown (old new : List Page) : Type 0 where
  pub same : (i : ℕ) → i < length old → slice_get new i ≡ slice_get old i
  pub added : (i : ℕ) (g : Page) → length old ≤ i → slice_get new i ≡ Some g → (at : ℕ) → place_in g at ≡ None
  pub longer : length old ≤ length new

-- so it was in each table
pub record HasGrown (d e : Directory) : Type 0 where
  pub tables : (i : ℕ) → IsGrown (pages_of d.tables.items i) (pages_of e.tables.items i)

-- there is a page for each address of a range
pub record HasPages (start end : ℕ) (d : Directory) : Type 0 where
  pub there : (a : ℕ) → start ≤ a → a < end → is_some (page_at d (a / 4096)) ≡ true
