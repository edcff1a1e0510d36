-- What a page, a table and a directory end as, where some bytes of a page are lent.
use Rattle.std.specs.Prelude.{◌≡◌, ℕ, ◌/◌, ◌%◌, ◌≤◌, ◌&&◌, false, ltb, length, List, Option, Some, None}
use Rattle.std.specs.List.{slice_get}
use Rattle.std.specs.Borrow.{Lends, MutBor, Fml, Array}
use Rattle.std.specs.Vec.{with_items_from}
use Rattle.x86_values.specs.declared.byte.Byte.{Byte}
use Rattle.x86_values.specs.contracts.byte.Byte as byte
use Rattle.mem_pages.specs.declared.page.Page.{Page}
use Rattle.mem_pages.specs.declared.directory.Table.{Table}
use Rattle.mem_pages.specs.declared.directory.Directory.{Directory}
use Rattle.mem_pages.specs.contracts.page.Page as page
use Rattle.mem_pages.specs.contracts.directory.Table as table
use Rattle.mem_pages.specs.contracts.directory.Directory as directory
use Rattle.mem_pages.specs.Regions.{is_unspecified}
use Rattle.mem_pages.specs.Lending.{with_page, with_table}

-- the bytes of a page can be lent from an offset on: they are kept, and none from there on is hidden
abbrev pub CanLend : Option Page → ℕ → Type 0
CanLend None at = ⊥
CanLend (Some g) at = (4096 ≤ length g.bytes.items) × ((is_unspecified g.unset && ltb at g.low) ≡ false)

-- a page with other bytes from an offset on
abbrev pub with_bytes : Page → ℕ → List Byte → Page
with_bytes g at bs = record g { bytes = with_items_from g.bytes at bs }

abbrev pub LendsBytes : MutBor Page → ℕ → MutBor (List Byte) → Fml
LendsBytes g at r = Lends page.the_row (Array byte.the_row 0) g r (with_bytes g.now at)

-- a table with other bytes in a page, where there is one
abbrev pub table_with_bytes : Table → ℕ → ℕ → List Byte → Option Page → Table
table_with_bytes t i at bs None = t
table_with_bytes t i at bs (Some g) = with_page t i (with_bytes g at bs)

abbrev pub table_with_part : Table → ℕ → ℕ → List Byte → Table
table_with_part t i at bs = table_with_bytes t i at bs (slice_get t.pages.items i)

abbrev pub LendsPartOf : MutBor Table → ℕ → ℕ → MutBor (List Byte) → Fml
LendsPartOf t i at r = Lends table.the_row (Array byte.the_row 0) t r (table_with_part t.now i at)

-- a directory with other bytes in a page of a table, where there is one
abbrev pub directory_with_part : Directory → ℕ → ℕ → ℕ → List Byte → Option Table → Directory
directory_with_part d i j at bs None = d
directory_with_part d i j at bs (Some t) = with_table d i (table_with_part t j at bs)

-- a directory with other bytes from an address on, in its page
abbrev pub with_part : Directory → ℕ → List Byte → Directory
with_part d at bs = directory_with_part d (at / 4096 / 1024) (at / 4096 % 1024) (at % 4096) bs (slice_get d.tables.items (at / 4096 / 1024))

abbrev pub LendsPart : MutBor Directory → ℕ → MutBor (List Byte) → Fml
LendsPart d at r = Lends directory.the_row (Array byte.the_row 0) d r (with_part d.now at)
