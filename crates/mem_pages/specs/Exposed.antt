-- Which pages may have a byte of the stack that isn't unspecified.
use Rattle.std.specs.Prelude.{◌≡◌, ◌≢◌, ℕ, ◌+◌, ◌-◌, ◌/◌, ◌<◌, ◌||◌, Bool, true, false, not, leb, Option, Some, None}
use Rattle.std.specs.Ordering.{nat_cmp}
use Rattle.std.specs.BTreeSet.{contains, btree_set_len}
use Rattle.memory.specs.Memory.{Place}
use Rattle.mem_pages.specs.declared.exposed.Exposed.{Exposed}
use Rattle.mem_pages.specs.declared.directory.Directory.{Directory}
use Rattle.mem_pages.specs.Regions.{is_unspecified}
use Rattle.mem_pages.specs.Directory.{contents}

-- whether the page with a number is listed
unfoldable pub lists : Exposed → ℕ → Bool
lists e n = contains nat_cmp e.numbers n || leb e.rest n

-- how many numbers can still be taken out that are below `end`
unfoldable pub size_below : ℕ → Exposed → ℕ
size_below end e = btree_set_len e.numbers + (end - e.rest)

-- the page with a number is listed, and each that was
pub record Adds (n : ℕ) (e f : Exposed) : Type 0 where
  pub there : lists f n ≡ true
  pub others : (m : ℕ) → lists f m ≡ false → lists e m ≡ false

-- a number below `end` is taken out, and no other
pub record TakesOut (end n : ℕ) (e f : Exposed) : Type 0 where
  pub below : n < end
  pub others : (m : ℕ) → m ≢ n → lists f m ≡ false → lists e m ≡ false
  pub fewer : size_below end f < size_below end e

-- no page below `end` is listed
pub record ListsNoneBelow (end : ℕ) (e : Exposed) : Type 0 where
  pub none : (n : ℕ) → n < end → lists e n ≡ false

-- whether a place is as if it were forgotten
abbrev pub is_forgotten : Option Place → Bool
is_forgotten None = true
is_forgotten (Some p) = not p.on_stack || is_unspecified p.byte

-- each place of a page that isn't listed is as if it were forgotten
abbrev pub IsQuiet : Exposed → Directory → Type 0
IsQuiet e d = (a : ℕ) → lists e (a / 4096) ≡ false → is_forgotten (contents d a) ≡ true
