-- What pages hold.
use Rattle.std.specs.Prelude.{◌≡◌, ℕ, ◌/◌, ◌<◌, Bool, false}
use Rattle.memory.specs.Memory.{Memory, forget_below}
use Rattle.mem_pages.specs.declared.pages.Pages.{Pages}
use Rattle.mem_pages.specs.Page.{IsOffStack}
use Rattle.mem_pages.specs.Directory.{contents, keeps}
use Rattle.mem_pages.specs.Exposed.{lists}

-- the memory that the pages are: that of the directory, of which the stack is forgotten below `lowest`
unfoldable pub memory_in : Pages → Memory
memory_in p = forget_below p.lowest (contents p.directory)

-- whether the page of an address is kept, so that no access of it fails for want of memory
unfoldable pub is_kept : Pages → ℕ → Bool
is_kept p a = keeps p.directory a

-- a place of the stack isn't below `lowest`
pub record IsReady (at : ℕ) (p : Pages) : Type 0 where
  pub off : at < p.lowest → IsOffStack at (contents p.directory)

-- the page of a place of the stack is listed
pub record IsListed (at : ℕ) (p : Pages) : Type 0 where
  pub off : lists p.exposed (at / 4096) ≡ false → IsOffStack at (contents p.directory)
