-- What pages end as, where a part of a page is lent.
use Rattle.std.specs.Prelude.{◌≡◌, ◌≢◌, ℕ, zero, suc, ◌+◌, ◌*◌, ◌/◌, ◌%◌, ◌<◌, ◌≤◌, Bool, true, false, List, [], ◌∷◌, Option, Some, None, Result, Ok, Err}
use Rattle.std.proofs.Common.{refl, sym, ◌∙◌, ap, inl, inr}
use Rattle.std.proofs.Math.ListN.{set}
use Rattle.std.proofs.Math.Nat.{div-add-mod}
use Rattle.std.proofs.lemmas.Bool.{cases_eq, false≢true}
use Rattle.std.proofs.lemmas.Option.{none-some}
use Rattle.std.specs.List.{slice_get}
use Rattle.std.specs.Borrow.{Lends, MutBor, Fml, Array}
use Rattle.x86_values.specs.declared.byte.Byte.{Byte}
use Rattle.x86_values.specs.contracts.byte.Byte as byte
use Rattle.memory.specs.Memory.{Load, Store, allows_all}
use Rattle.mem_pages.specs.declared.page.Page.{Page}
use Rattle.mem_pages.specs.declared.directory.Table.{Table}
use Rattle.mem_pages.specs.declared.directory.Directory.{Directory}
use Rattle.mem_pages.specs.declared.exposed.Exposed.{Exposed}
use Rattle.mem_pages.specs.declared.pages.Pages.{Pages}
use Rattle.mem_pages.specs.declared.fault.PageFault.{PageFault}
use Rattle.mem_pages.specs.declared.fault.PageFault.TheVariants as fault
use Rattle.mem_pages.specs.contracts.pages.Pages as pages
use Rattle.mem_pages.specs.LentPart.{CanLend, with_bytes, table_with_bytes, table_with_part, directory_with_part, with_part}
use Rattle.mem_pages.specs.Directory.{pages_of, page_at, place_on, contents}
use Rattle.mem_pages.specs.Exposed.{lists, is_forgotten, IsQuiet}
use Rattle.mem_pages.specs.Contents.{memory_in, is_kept, IsReady}

-- ---- the other pages
pub other_item : {X : Type 0} (xs : List X) (i j : ℕ) (x : X) → j ≢ i → slice_get (set xs i x) j ≡ slice_get xs j
other_item [] i j x n = refl
other_item (y ∷ ys) zero zero x n = absurd (n refl)
other_item (y ∷ ys) zero (suc j) x n = refl
other_item (y ∷ ys) (suc i) zero x n = refl
other_item (y ∷ ys) (suc i) (suc j) x n = other_item ys i j x (λ e. n (ap suc e))

pub other_table : (ts : List Table) (i j : ℕ) (t : Table) → j ≢ i → pages_of (set ts i t) j ≡ pages_of ts j
other_table [] i j t n = refl
other_table (u ∷ us) zero zero t n = absurd (n refl)
other_table (u ∷ us) zero (suc j) t n = refl
other_table (u ∷ us) (suc i) zero t n = refl
other_table (u ∷ us) (suc i) (suc j) t n = other_table us i j t (λ e. n (ap suc e))

abbrev pub pages_if : Option Table → List Page
pages_if None = []
pages_if (Some t) = t.pages.items

-- the pages of a table, and of the one that is put in its place
pub this_table : (ts : List Table) (i : ℕ) (t u : Table) → Some u ≡ slice_get ts i → (pages_of ts i ≡ u.pages.items) × (pages_of (set ts i t) i ≡ t.pages.items)
this_table [] i t u e = absurd (none-some u (sym e))
this_table (v ∷ vs) zero t u e = (ap pages_if (sym e), refl)
this_table (v ∷ vs) (suc i) t u e = this_table vs i t u e

pub other_page_of : (t : Table) (j at k : ℕ) (bs : List Byte) (o : Option Page) → k ≢ j → slice_get (table_with_bytes t j at bs o).pages.items k ≡ slice_get t.pages.items k
other_page_of t j at k bs None n = refl
other_page_of t j at k bs (Some g) n = other_item t.pages.items j k (with_bytes g at bs) n

pub other_page_in : (d : Directory) (i j at m : ℕ) (bs : List Byte) (o : Option Table) → o ≡ slice_get d.tables.items i → (m / 1024 ≡ i → m % 1024 ≢ j) → page_at (directory_with_part d i j at bs o) m ≡ page_at d m
unfolding page_at
other_page_in d i j at m bs None e n = refl
other_page_in d i j at m bs (Some t) e n =
    let w = table_with_part t j at bs in
    elim (cases_eq (m / 1024) i) as (λ _. slice_get (pages_of (set d.tables.items i w) (m / 1024)) (m % 1024) ≡ slice_get (pages_of d.tables.items (m / 1024)) (m % 1024)) [
      | inl s ↦
          let h = this_table d.tables.items i w t e in
          ap (λ k. slice_get (pages_of (set d.tables.items i w) k) (m % 1024)) s
          ∙ ap (λ gs. slice_get gs (m % 1024)) h.1
          ∙ other_page_of t j at (m % 1024) bs (slice_get t.pages.items j) (n s)
          ∙ ap (λ gs. slice_get gs (m % 1024)) (sym h.0)
          ∙ ap (λ k. slice_get (pages_of d.tables.items k) (m % 1024)) (sym s)
      | inr o ↦ ap (λ gs. slice_get gs (m % 1024)) (other_table d.tables.items i (m / 1024) w o)
    ]

pub same_number : (m n : ℕ) → m / 1024 ≡ n / 1024 → m % 1024 ≡ n % 1024 → m ≡ n
same_number m n e f = sym (div-add-mod m 1024) ∙ ap (λ k. 1024 * k + m % 1024) e ∙ ap (λ k. 1024 * (n / 1024) + k) f ∙ div-add-mod n 1024

pub other_page : (d : Directory) (at m : ℕ) (bs : List Byte) → m ≢ at / 4096 → page_at (with_part d at bs) m ≡ page_at d m
other_page d at m bs n = other_page_in d (at / 4096 / 1024) (at / 4096 % 1024) (at % 4096) m bs (slice_get d.tables.items (at / 4096 / 1024)) refl (λ e f. n (same_number m (at / 4096) e f))

-- ---- the pages
-- what is quiet stays so, where the page is listed
pub quiet_lent : (e : Exposed) (d : Directory) (at : ℕ) (bs : List Byte) → lists e (at / 4096) ≡ true → IsQuiet e d → IsQuiet e (with_part d at bs)
unfolding contents
quiet_lent e d at bs there h = λ a l. ap (λ o. is_forgotten (place_on o (a % 4096))) (other_page d at (a / 4096) bs (λ s. false≢true (sym l ∙ ap (lists e) s ∙ there))) ∙ h a l

-- pages with other bytes from an address on, in its page, where that is listed
abbrev pub lent_if : (p : Pages) (at : ℕ) → List Byte → (t : Bool) → lists p.exposed (at / 4096) ≡ t → Pages
lent_if p at bs true e = record p { directory = with_part p.directory at bs; quiet = quiet_lent p.exposed p.directory at bs e p.quiet }
lent_if p at bs false e = p

abbrev pub lent : Pages → ℕ → List Byte → Pages
lent p at bs = lent_if p at bs (lists p.exposed (at / 4096)) refl

-- the part that is lent is `bytes` at last
abbrev pub LendsPages : MutBor Pages → ℕ → MutBor (List Byte) → Fml
LendsPages p at r = Lends pages.the_row (Array byte.the_row 0) p r (lent p.now at)

-- A part of a page can be lent: each of its places is mapped and can be written, its page is kept, and no byte there is
-- forgotten in name alone.
pub record IsLendable (at count : ℕ) (p : Pages) : Type 0 where
  pub some : 0 < count
  pub in_page : at % 4096 + count ≤ 4096
  pub allowed : allows_all Store (memory_in p) at count ≡ true
  pub kept : is_kept p at ≡ true
  pub ready : IsReady at p
  pub listed : lists p.exposed (at / 4096) ≡ true
  pub shown : CanLend (page_at p.directory (at / 4096)) (at % 4096)

-- the judgement of a part of a page
abbrev pub JudgesLending : ℕ → ℕ → Result (Unit {0}) PageFault → Pages → Pages → Type 0
JudgesLending at count (Ok _) p q = (allows_all Store (memory_in p) at count ≡ true) × (0 < count → IsLendable at count q)
JudgesLending at count (Err fault.NotMapped) p q = allows_all Load (memory_in p) at count ≡ false
JudgesLending at count (Err fault.NotWritable) p q = (allows_all Load (memory_in p) at count ≡ true) × (allows_all Store (memory_in p) at count ≡ false)
JudgesLending at count (Err fault.Memory) p q = (allows_all Store (memory_in p) at count ≡ true) × (is_kept p at ≡ false)
