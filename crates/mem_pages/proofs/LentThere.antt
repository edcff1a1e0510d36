-- A part of a page that is lent: the page and the table that it is in, and what the places are once it is back.
use Rattle.std.proofs.Common.{◌≡◌, ℕ, ◌+◌, ◌-◌, ◌/◌, ◌%◌, ◌<◌, ◌≤◌, ◌&&◌, Bool, true, false, cond, leb, ltb, List, ◌++◌, length, take, drop, get_or, Option, Some, None, arith, refl, sym, ◌∙◌, ap, inl, inr}
use Rattle.std.specs.List.{slice_get}
use Rattle.std.specs.Option.{unwrap_or, IfSome}
use Rattle.std.proofs.lemmas.Option.{unwrap_or-slice_get, slice_get_within, none-some}
use Rattle.x86_values.specs.declared.byte.Byte.{Byte}
use Rattle.x86_values.specs.declared.byte.Byte.TheVariants.{Unspecified}
use Rattle.mem_pages.specs.declared.page.Page.{Page}
use Rattle.mem_pages.specs.declared.directory.Table.{Table}
use Rattle.mem_pages.specs.declared.directory.Directory.{Directory}
use Rattle.mem_pages.specs.Directory.{pages_of, page_at, contents, keeps, KeepsPlaces, IsWithPage}
use Rattle.mem_pages.specs.Lending.{with_page, with_table}
use Rattle.mem_pages.specs.LentPart.{CanLend, with_bytes, table_with_part, with_part}
use Rattle.mem_pages.specs.Regions.{is_unspecified}
use Rattle.memory.specs.Memory.{with_byte}
use Rattle.mem_pages.specs.Page.{maps, place_in, kept_in, put_part, ShowsBytes}
use Rattle.mem_pages.proofs.Tables.{pages_of_is, page_lent, page_found}
use Rattle.mem_pages.proofs.PageSteps.{same_kept}
use Rattle.mem_pages.proofs.StoredThere.{part_lifted}
use Rattle.mem_pages.proofs.Lifting.{shows_there, kept_there, keeps_lifted}
use Rattle.std.specs.Vec.{with_items_from}
use Rattle.std.proofs.lemmas.List.{with_items_is, length-take, length-drop, get_or-take, get_or-drop, get_or_default, get_or_append_left, get_or-append_right}
use Rattle.std.proofs.Math.ListN.{length-append}
use Rattle.std.proofs.lemmas.Bool.{cases_lt, cond-true, cond-false, leb-true, ltb-true, and_parts}
use Rattle.std.proofs.lemmas.Bool.Decides.{nat_tests}

there : (o : Option Page) (x : Page) (at : ℕ) → CanLend o at → o ≡ Some (unwrap_or o x)
there None x at h = absurd h
there (Some g) x at h = refl

pub page_there : (xs : List Page) (i at : ℕ) (d g : Page) → g ≡ get_or xs i d → CanLend (slice_get xs i) at → slice_get xs i ≡ Some g
page_there xs i at d g e h = there (slice_get xs i) d at h ∙ ap Some (unwrap_or-slice_get xs i d ∙ sym e)

pub page_within : (xs : List Page) (i at : ℕ) → CanLend (slice_get xs i) at → i < length xs
page_within xs i at h = within (slice_get xs i) refl h
  where
    within : (o : Option Page) → slice_get xs i ≡ o → CanLend o at → i < length xs
    within None e h = absurd h
    within (Some g) e h = slice_get_within xs i g e

pub can_lend_there : (o : Option Page) (g : Page) (at : ℕ) → o ≡ Some g → CanLend o at → CanLend (Some g) at
can_lend_there o g at e h = rw e at h

table_is : (ts : List Table) (i j at : ℕ) (o : Option Table) → o ≡ slice_get ts i → CanLend (slice_get (pages_of ts i) j) at → (t : Table) × (slice_get ts i ≡ Some t)
table_is ts i j at None e h = absurd (let f = pages_of_is ts i None e in rw f at h)
table_is ts i j at (Some t) e h = (t, sym e)

pub table_there : (ts : List Table) (i j at : ℕ) (d t : Table) → t ≡ get_or ts i d → CanLend (slice_get (pages_of ts i) j) at → slice_get ts i ≡ Some t
table_there ts i j at d t e h =
    let p = table_is ts i j at (slice_get ts i) refl h in
    p.1 ∙ ap Some (sym (e ∙ sym (unwrap_or-slice_get ts i d) ∙ ap (λ o. unwrap_or o d) p.1))

pub table_within : (ts : List Table) (i j at : ℕ) → CanLend (slice_get (pages_of ts i) j) at → i < length ts
table_within ts i j at h = let p = table_is ts i j at (slice_get ts i) refl h in slice_get_within ts i p.0 p.1

pub page_in_table : (ts : List Table) (i j at : ℕ) (t : Table) → slice_get ts i ≡ Some t → CanLend (slice_get (pages_of ts i) j) at → CanLend (slice_get t.pages.items j) at
page_in_table ts i j at t e h = let f = pages_of_is ts i (Some t) (sym e) in rw f at h

pub table_with_part_is : (t : Table) (i at : ℕ) (bs : List Byte) (g : Page) → slice_get t.pages.items i ≡ Some g → with_page t i (with_bytes g at bs) ≡ table_with_part t i at bs
table_with_part_is t i at bs g e = rw e refl

pub with_part_is : (d : Directory) (at : ℕ) (bs : List Byte) (t : Table) → slice_get d.tables.items (at / 4096 / 1024) ≡ Some t → with_table d (at / 4096 / 1024) (table_with_part t (at / 4096 % 1024) (at % 4096) bs) ≡ with_part d at bs
with_part_is d at bs t e = rw e refl

pub shown_there : (o : Option Page) (g : Page) (at count : ℕ) (bs : List Byte) → o ≡ Some g → ShowsBytes (place_in g) at count bs → IfSome o (λ h. ShowsBytes (place_in h) at count bs)
shown_there o g at count bs e h = rw e h

-- ---- the table of an address
pub table_found : (d : Directory) (at : ℕ) (x t : Table) → t ≡ get_or d.tables.items (at / 4096 / 1024) x → CanLend (page_at d (at / 4096)) (at % 4096) → slice_get d.tables.items (at / 4096 / 1024) ≡ Some t
unfolding page_at
table_found d at x t e h = table_there d.tables.items (at / 4096 / 1024) (at / 4096 % 1024) (at % 4096) x t e h

pub table_in : (d : Directory) (at : ℕ) → CanLend (page_at d (at / 4096)) (at % 4096) → at / 4096 / 1024 < length d.tables.items
unfolding page_at
table_in d at h = table_within d.tables.items (at / 4096 / 1024) (at / 4096 % 1024) (at % 4096) h

pub can_lend_in : (d : Directory) (at : ℕ) (t : Table) → slice_get d.tables.items (at / 4096 / 1024) ≡ Some t → CanLend (page_at d (at / 4096)) (at % 4096) → CanLend (slice_get t.pages.items (at / 4096 % 1024)) (at % 4096)
unfolding page_at
can_lend_in d at t e h = page_in_table d.tables.items (at / 4096 / 1024) (at / 4096 % 1024) (at % 4096) t e h

page_is : (o : Option Page) (at : ℕ) → CanLend o at → (g : Page) × (o ≡ Some g)
page_is None at h = absurd h
page_is (Some g) at h = (g, refl)

pub shown_in : (d : Directory) (at count : ℕ) (t : Table) (bs : List Byte) → at % 4096 + count ≤ 4096 → slice_get d.tables.items (at / 4096 / 1024) ≡ Some t → CanLend (page_at d (at / 4096)) (at % 4096) → IfSome (slice_get t.pages.items (at / 4096 % 1024)) (λ g. ShowsBytes (place_in g) (at % 4096) count bs) → ShowsBytes (contents d) at count bs
shown_in d at count t bs l e can h =
    let f : slice_get t.pages.items (at / 4096 % 1024) ≡ page_at d (at / 4096) = page_found d (at / 4096) t (sym e) in
    let p = page_is (page_at d (at / 4096)) (at % 4096) can in
    let g : IfSome (slice_get t.pages.items (at / 4096 % 1024)) (λ g. ShowsBytes (place_in g) (at % 4096) count bs) = h in
    shows_there d at count p.0 bs l (sym p.1) (rw (f ∙ p.1) at g)

-- ---- a page that was exposed
open_page : (g w : Page) (at : ℕ) → kept_in w at ≡ true → (is_unspecified w.unset ≡ true → w.low ≤ at) → CanLend (Some w) at
unfolding kept_in
open_page g w at h low = (grind (arith, nat_tests), grind (arith, nat_tests))

pub exposed_there : (d e : Directory) (at : ℕ) (g w : Page) → IsWithPage d e (at / 4096) w → Some g ≡ page_at d (at / 4096) → keeps d at ≡ true → ((k : ℕ) → kept_in w k ≡ kept_in g k) → (is_unspecified w.unset ≡ true → w.low ≤ at % 4096) → CanLend (page_at e (at / 4096)) (at % 4096)
exposed_there d e at g w h there kept same low = rw h.there (open_page g w (at % 4096) (same (at % 4096) ∙ kept_there d at g there kept) low)

-- ---- the bytes that were put
-- bytes with others written over them from an index on
abbrev over : List Byte → ℕ → List Byte → List Byte
over xs at ws = take at xs ++ (ws ++ drop (length ws) (drop at xs))

length-over : (xs ws : List Byte) (at : ℕ) → at + length ws ≤ length xs → length (over xs at ws) ≡ length xs
length-over xs ws at l = omega (arith, length-append (take at xs) (ws ++ drop (length ws) (drop at xs)), length-take at xs, length-append ws (drop (length ws) (drop at xs)), length-drop (length ws) (drop at xs), length-drop at xs)

before : (xs ws : List Byte) (at k : ℕ) (d : Byte) → at ≤ length xs → k < at → get_or (over xs at ws) k d ≡ get_or xs k d
before xs ws at k d l m = get_or_append_left (take at xs) _ d k (omega (arith, length-take at xs)) ∙ get_or-take at xs k d m

from : (xs ws : List Byte) (at k : ℕ) (d : Byte) → at ≤ length xs → at ≤ k → get_or (over xs at ws) k d ≡ get_or (ws ++ drop (length ws) (drop at xs)) (k - at) d
from xs ws at k d l m =
    get_or-append_right (take at xs) _ at k d (omega (arith, length-take at xs)) m

past : (xs ws : List Byte) (at k : ℕ) (d : Byte) → at ≤ k → length ws ≤ k - at → get_or (ws ++ drop (length ws) (drop at xs)) (k - at) d ≡ get_or xs k d
past xs ws at k d m n =
    let e : at + (length ws + (k - at - length ws)) ≡ k = omega arith in
    get_or-append_right ws _ (length ws) (k - at) d refl n ∙ get_or-drop (length ws) (drop at xs) (k - at - length ws) d ∙ get_or-drop at xs (length ws + (k - at - length ws)) d ∙ ap (λ i. get_or xs i d) e

range_before : (at k n : ℕ) → k < at → (leb at k && ltb k (at + n)) ≡ false
range_before at k n l = grind (arith, nat_tests)

range_in : (at k n : ℕ) → at ≤ k → k - at < n → (leb at k && ltb k (at + n)) ≡ true
range_in at k n l m = let z : k < at + n = omega arith in grind (arith, nat_tests)

range_past : (at k n : ℕ) → at ≤ k → n ≤ k - at → (leb at k && ltb k (at + n)) ≡ false
range_past at k n l m = let z : at + n ≤ k = omega arith in grind (arith, nat_tests)

bytes_over : (xs ws : List Byte) (at k : ℕ) (d : Byte) → at + length ws ≤ length xs → get_or (over xs at ws) k d ≡ cond (leb at k && ltb k (at + length ws)) (get_or ws (k - at) d) (get_or xs k d)
bytes_over xs ws at k d l = elim (cases_lt k at) as (λ _. get_or (over xs at ws) k d ≡ cond (leb at k && ltb k (at + length ws)) (get_or ws (k - at) d) (get_or xs k d)) [
  | inl m ↦ before xs ws at k d (omega (arith, l)) m ∙ sym (cond-false _ _ _ (range_before at k (length ws) m))
  | inr m ↦ from xs ws at k d (omega (arith, l)) m ∙ elim (cases_lt (k - at) (length ws)) as (λ _. get_or (ws ++ drop (length ws) (drop at xs)) (k - at) d ≡ cond (leb at k && ltb k (at + length ws)) (get_or ws (k - at) d) (get_or xs k d)) [
    | inl n ↦ get_or_append_left ws _ d (k - at) n ∙ sym (cond-true _ _ _ (range_in at k (length ws) m n))
    | inr n ↦ past xs ws at k d m n ∙ sym (cond-false _ _ _ (range_past at k (length ws) m n))
  ]
]

-- a place whose byte is another in a range
put_over : (t m s w : Bool) (b x y : Byte) → x ≡ cond t b y → cond m (Some (record { byte = x; can_write = w; on_stack = s })) None ≡ cond t (with_byte b (cond m (Some (record { byte = y; can_write = w; on_stack = s })) None)) (cond m (Some (record { byte = y; can_write = w; on_stack = s })) None)
put_over true true s w b x y e = ap (λ b. Some (record { byte = b; can_write = w; on_stack = s })) e
put_over true false s w b x y e = refl
put_over false true s w b x y e = ap (λ b. Some (record { byte = b; can_write = w; on_stack = s })) e
put_over false false s w b x y e = refl

not_hidden : (s : Bool) (k at low n : ℕ) (b x y : Byte) → (s && ltb at low) ≡ false → x ≡ cond (leb at k && ltb k (at + n)) b y → cond (s && ltb k low) Unspecified x ≡ cond (leb at k && ltb k (at + n)) b (cond (s && ltb k low) Unspecified y)
not_hidden s k at low n b x y h e = grind (arith, nat_tests)

-- the byte there is the one that was put, whatever stands for one that isn't there
there_or : (bs : List Byte) (at k : ℕ) (c d y : Byte) → cond (leb at k && ltb k (at + length bs)) (get_or bs (k - at) c) y ≡ cond (leb at k && ltb k (at + length bs)) (get_or bs (k - at) d) y
there_or bs at k c d y = within (leb at k && ltb k (at + length bs)) refl
  where
    within : (t : Bool) → (leb at k && ltb k (at + length bs)) ≡ t → cond t (get_or bs (k - at) c) y ≡ cond t (get_or bs (k - at) d) y
    within true e = get_or_default bs (k - at) c d (let p = and_parts _ _ e in omega (arith, leb-true at k p.0, ltb-true k (at + length bs) p.1))
    within false e = refl

pub with_bytes_places : (g : Page) (at : ℕ) (bs : List Byte) (k : ℕ) → CanLend (Some g) at → at + length bs ≤ 4096 → place_in (with_bytes g at bs) k ≡ put_part at bs (place_in g) k
unfolding place_in put_part
with_bytes_places g at bs k h l =
    let kept = h.0 in
    let n : at + length bs ≤ length g.bytes.items = omega (arith, kept) in
    let items : (with_items_from g.bytes at bs).items ≡ over g.bytes.items at bs = with_items_is g.bytes (over g.bytes.items at bs) (length-over g.bytes.items bs at n ∙ sym g.bytes.ok.0) in
    let e : get_or (with_items_from g.bytes at bs).items k g.unset ≡ cond (leb at k && ltb k (at + length bs)) (get_or bs (k - at) Unspecified) (get_or g.bytes.items k g.unset) = ap (λ xs. get_or xs k g.unset) items ∙ bytes_over g.bytes.items bs at k g.unset n ∙ there_or bs at k g.unset Unspecified _ in
    put_over (leb at k && ltb k (at + length bs)) (maps g k) (is_unspecified g.unset) g.can_write (get_or bs (k - at) Unspecified) _ _ (not_hidden (is_unspecified g.unset) k at g.low (length bs) _ _ _ h.1 e)

pub with_bytes_kept : (g : Page) (at : ℕ) (bs : List Byte) (k : ℕ) → CanLend (Some g) at → at + length bs ≤ 4096 → kept_in (with_bytes g at bs) k ≡ kept_in g k
with_bytes_kept g at bs k h l =
    let kept = h.0 in
    let n : at + length bs ≤ length g.bytes.items = omega (arith, kept) in
    same_kept g (with_items_from g.bytes at bs) g.low k (ap length (with_items_is g.bytes (over g.bytes.items at bs) (length-over g.bytes.items bs at n ∙ sym g.bytes.ok.0)) ∙ length-over g.bytes.items bs at n)

-- ---- in the directory
pub is_with_part : (d : Directory) (at : ℕ) (bs : List Byte) (g : Page) → page_at d (at / 4096) ≡ Some g → IsWithPage d (with_part d at bs) (at / 4096) (with_bytes g (at % 4096) bs)
unfolding page_at
is_with_part d at bs g e = in_tables (slice_get d.tables.items (at / 4096 / 1024)) refl
  where
    in_tables : (o : Option Table) → o ≡ slice_get d.tables.items (at / 4096 / 1024) → IsWithPage d (with_part d at bs) (at / 4096) (with_bytes g (at % 4096) bs)
    in_tables None f = absurd (none-some g (let h = pages_of_is d.tables.items (at / 4096 / 1024) None f in rw h at e))
    in_tables (Some t) f =
        let h : slice_get t.pages.items (at / 4096 % 1024) ≡ Some g = (let h = pages_of_is d.tables.items (at / 4096 / 1024) (Some t) f in rw h at e) in
        rw (sym (with_part_is d at bs t (sym f)), sym (table_with_part_is t (at / 4096 % 1024) (at % 4096) bs g h)) (page_lent d (at / 4096) t g (with_bytes g (at % 4096) bs) f (sym h))

pub part_contents : (d : Directory) (at : ℕ) (bs : List Byte) → CanLend (page_at d (at / 4096)) (at % 4096) → at % 4096 + length bs ≤ 4096 → (a : ℕ) → contents (with_part d at bs) a ≡ put_part at bs (contents d) a
part_contents d at bs h l =
    let p = page_is (page_at d (at / 4096)) (at % 4096) h in
    let can : CanLend (Some p.0) (at % 4096) = rw p.1 at h in
    part_lifted d (with_part d at bs) at bs p.0 (with_bytes p.0 (at % 4096) bs) l (is_with_part d at bs p.0 p.1) (sym p.1) (λ k. with_bytes_places p.0 (at % 4096) bs k can l)

pub part_keeps : (d : Directory) (at : ℕ) (bs : List Byte) → CanLend (page_at d (at / 4096)) (at % 4096) → at % 4096 + length bs ≤ 4096 → KeepsPlaces d (with_part d at bs)
part_keeps d at bs h l =
    let p = page_is (page_at d (at / 4096)) (at % 4096) h in
    let can : CanLend (Some p.0) (at % 4096) = rw p.1 at h in
    keeps_lifted d (with_part d at bs) (at / 4096) p.0 (with_bytes p.0 (at % 4096) bs) (is_with_part d at bs p.0 p.1) (sym p.1) (λ k m x. with_bytes_kept p.0 (at % 4096) bs k can l ∙ x)
