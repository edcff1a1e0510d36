-- What a table and a directory end as, where a page of theirs is lent.
use Rattle.std.specs.Prelude.{◌≡◌, ℕ, Option}
use Rattle.std.specs.Option.{OnSome}
use Rattle.std.specs.Borrow.{LendsIf, LendsSo, MutBor, Fml}
use Rattle.std.specs.Vec.{with_item}
use Rattle.mem_pages.specs.declared.page.Page.{Page}
use Rattle.mem_pages.specs.declared.directory.Table.{Table}
use Rattle.mem_pages.specs.declared.directory.Directory.{Directory}
use Rattle.mem_pages.specs.contracts.page.Page as page
use Rattle.mem_pages.specs.contracts.directory.Table as table
use Rattle.mem_pages.specs.contracts.directory.Directory as directory
use Rattle.mem_pages.specs.Directory.{page_at, IsWithPage}

-- a table with another page
abbrev pub with_page : Table → ℕ → Page → Table
with_page t i g = record t { pages = with_item t.pages i g }

-- once the borrow ends, the page is what is left there
abbrev pub LendsPage : MutBor Table → ℕ → Option (MutBor Page) → Fml
LendsPage t i r = LendsIf table.the_row page.the_row t r (with_page t.now i) t.now

-- a directory with another table
abbrev pub with_table : Directory → ℕ → Table → Directory
with_table d i t = record d { tables = with_item d.tables i t }

abbrev pub LendsTable : MutBor Directory → ℕ → Option (MutBor Table) → Fml
LendsTable d i r = LendsIf directory.the_row table.the_row d r (with_table d.now i) d.now

-- the same of a directory, for the page with a number
abbrev pub LendsPageAt : MutBor Directory → ℕ → Option (MutBor Page) → Fml
LendsPageAt d n r = LendsSo directory.the_row page.the_row d r (λ e g. OnSome r (IsWithPage d.now e n g)) (λ e. (m : ℕ) → page_at e m ≡ page_at d.now m)
