-- A part of a page that is lent: what the memory is once it is back, and what its judgement comes to.
use Rattle.std.proofs.Common.{◌≡◌, ℕ, zero, suc, ◌+◌, ◌/◌, ◌%◌, ◌^◌, ◌<◌, ◌≤◌, Bool, true, false, List, length, Option, Some, None, Result, Ok, Err, arith, refl, sym, ◌∙◌, ap}
use Rattle.std.specs.Result.{OnOk, is_err}
use Rattle.std.proofs.Math.Bool.{Bool-set}
use Rattle.std.proofs.lemmas.Bool.{false≢true, and_parts}
use Rattle.x86_values.specs.declared.byte.Byte.{Byte}
use Rattle.memory.specs.Memory.{Place, Memory, Load, Store, allows, allows_all, bytes_at, wrapped}
use Rattle.mem_pages.specs.declared.pages.Pages.{Pages}
use Rattle.mem_pages.specs.Page.{ShowsBytes}
use Rattle.mem_pages.specs.Directory.{page_at, contents}
use Rattle.mem_pages.specs.Exposed.{lists, IsQuiet}
use Rattle.mem_pages.specs.Contents.{memory_in, is_kept, IsReady}
use Rattle.mem_pages.specs.Accesses.{KeepsPages, IsStored}
use Rattle.mem_pages.specs.LentPart.{CanLend, with_part}
use Rattle.mem_pages.specs.Lent.{lent, lent_if, quiet_lent, IsLendable}
use Rattle.mem_pages.proofs.LentThere.{part_contents, part_keeps}
use Rattle.mem_pages.proofs.Runs.{bytes_shown, all_allowed}
use Rattle.mem_pages.proofs.Shown.{shows_bytes, keeps_pages}
use Rattle.mem_pages.proofs.StoredWord.{all_as_part}
use Rattle.mem_pages.proofs.StoredThere.{part_shown}

-- pages with a listed part that is other bytes
abbrev pub with_lent : (p : Pages) (at : ℕ) (bs : List Byte) → IsQuiet p.exposed (with_part p.directory at bs) → Pages
with_lent p at bs q = record p { directory = with_part p.directory at bs; quiet = q }

is_lent_if : (p : Pages) (at : ℕ) (bs : List Byte) (t : Bool) (e : lists p.exposed (at / 4096) ≡ t) → t ≡ true → (q : IsQuiet p.exposed (with_part p.directory at bs)) → with_lent p at bs q ≡ lent_if p at bs t e
is_lent_if p at bs true e f q = λ i. with_lent p at bs (λ a l. Bool-set _ _ (q a l) (quiet_lent p.exposed p.directory at bs e p.quiet a l) i)
is_lent_if p at bs false e f q = absurd (false≢true f)

pub is_lent : (p : Pages) (at : ℕ) (bs : List Byte) → lists p.exposed (at / 4096) ≡ true → (q : IsQuiet p.exposed (with_part p.directory at bs)) → with_lent p at bs q ≡ lent p at bs
is_lent p at bs e q = is_lent_if p at bs (lists p.exposed (at / 4096)) refl e q

-- ---- what is lent
one_loads : (o : Option Place) → allows Store o ≡ true → allows Load o ≡ true
one_loads None h = h
one_loads (Some p) h = refl

loads_where_stores : (m : Memory) (at n : ℕ) → allows_all Store m at n ≡ true → allows_all Load m at n ≡ true
unfolding allows_all
loads_where_stores m at zero h = refl
loads_where_stores m at (suc n) h =
    let p = and_parts (allows Store (m (wrapped at))) (allows_all Store m (at + 1) n) h in
    rw (one_loads (m (wrapped at)) p.0, loads_where_stores m (at + 1) n p.1) refl

pub bytes_lent : (p : Pages) (at count : ℕ) (bs : List Byte) → at < 2 ^ 32 → IsLendable at count p → ShowsBytes (contents p.directory) at count bs → bs ≡ bytes_at (memory_in p) at count
bytes_lent p at count bs b can h = bytes_shown (memory_in p) at count bs b can.in_page (loads_where_stores (memory_in p) at count can.allowed) (shows_bytes p at count bs can.in_page can.ready h)

-- ---- what was put there
stored_with : (p : Pages) (at : ℕ) (bs : List Byte) (q : IsQuiet p.exposed (with_part p.directory at bs)) (count : ℕ) → at < 2 ^ 32 → length bs ≡ count → IsLendable at count p → IsStored at bs p (with_lent p at bs q)
stored_with p at bs q count b n can =
    let l = can.in_page in
    record {
      allowed = rw n can.allowed;
      memory = λ i a. (part_shown p (with_lent p at bs q) at bs (omega (arith, n, l)) refl can.ready (part_contents p.directory at bs can.shown (omega (arith, n, l))) a ∙ sym (all_as_part at bs (memory_in p) (omega (arith, n, l, b)) a)) i;
    }

keeps_with : (p : Pages) (at : ℕ) (bs : List Byte) (q : IsQuiet p.exposed (with_part p.directory at bs)) (count : ℕ) → length bs ≡ count → IsLendable at count p → KeepsPages p (with_lent p at bs q)
keeps_with p at bs q count n can = let l = can.in_page in keeps_pages p (with_lent p at bs q) (part_keeps p.directory at bs can.shown (omega (arith, n, l)))

pub stored_lent : (p : Pages) (at : ℕ) (bs : List Byte) (count : ℕ) → at < 2 ^ 32 → length bs ≡ count → IsLendable at count p → IsStored at bs p (lent p at bs)
stored_lent p at bs count b n can =
    let q = quiet_lent p.exposed p.directory at bs can.listed p.quiet in
    rw (sym (is_lent p at bs can.listed q)) (stored_with p at bs q count b n can)

pub keeps_lent : (p : Pages) (at : ℕ) (bs : List Byte) (count : ℕ) → length bs ≡ count → IsLendable at count p → KeepsPages p (lent p at bs)
keeps_lent p at bs count n can =
    let q = quiet_lent p.exposed p.directory at bs can.listed p.quiet in
    rw (sym (is_lent p at bs can.listed q)) (keeps_with p at bs q count n can)

-- ---- what is judged
pub kept_first : {A E : Type 0} (r : Result A E) (p q : Pages) (at count : ℕ) → at < 2 ^ 32 → is_err r ≡ false → 0 < count → allows_all Load (memory_in p) at count ≡ true → OnOk r ((a : ℕ) → a / 4096 ≡ at / 4096 → allows Load (memory_in p a) ≡ true → is_kept q a ≡ true) → is_kept q at ≡ true
kept_first (Err e) p q at count b ok l all h = absurd (false≢true (sym ok))
kept_first (Ok x) p q at count b ok l all h =
    let z : wrapped (at + 0) ≡ at = omega arith in
    h at refl (rw z at (all_allowed Load (memory_in p) at count 0 all l))

pub lendable : (p q : Pages) (at count : ℕ) → memory_in q ≡ memory_in p → at % 4096 + count ≤ 4096 → allows_all Store (memory_in p) at count ≡ true → is_kept q at ≡ true → IsReady at q → lists q.exposed (at / 4096) ≡ true → CanLend (page_at q.directory (at / 4096)) (at % 4096) → 0 < count → IsLendable at count q
lendable p q at count same l all kept ready listed shown some = record {
  some = some;
  in_page = l;
  allowed = ap (λ m. allows_all Store m at count) same ∙ all;
  kept = kept;
  ready = ready;
  listed = listed;
  shown = shown;
}
