-- The pages of tables.
use Rattle.std.proofs.Common.{◌≡◌, ◌≢◌, ℕ, zero, suc, ◌/◌, ◌%◌, ◌<◌, ◌≤◌, ◌==◌, ◌&&◌, Bool, true, false, cond, List, [], ◌∷◌, ◌++◌, length, Option, Some, None, Result, Ok, Err, arith, refl, sym, ◌∙◌, ap, inl, inr}
use Rattle.std.proofs.Math.ListN.{set, length-append}
use Rattle.std.specs.List.{slice_get}
use Rattle.std.proofs.lemmas.Option.{slice_get_within}
use Rattle.std.proofs.lemmas.Bool.{cases_eq, cases_lt, cases_Bool, eq-eqb, ne_eqb, eqb-true, and_parts}
use Rattle.std.proofs.lemmas.Bool.Decides.{nat_tests}
use Rattle.std.specs.Option.{option_map, OnSome, is_some}
use Rattle.std.specs.Result.{OnOk}
use Rattle.mem_pages.specs.declared.page.Page.{Page}
use Rattle.mem_pages.specs.declared.directory.Table.{Table}
use Rattle.mem_pages.specs.declared.directory.Directory.{Directory}
use Rattle.mem_pages.specs.Page.{place_in}
use Rattle.mem_pages.specs.Directory.{pages_of, page_at, IsWithPage, IsGrown, HasGrown}
use Rattle.mem_pages.specs.Lending.{with_page, with_table}

abbrev pub pages_of_option : Option Table → List Page
pages_of_option None = []
pages_of_option (Some t) = t.pages.items

pub pages_of_is : (ts : List Table) (i : ℕ) (o : Option Table) → o ≡ slice_get ts i → pages_of ts i ≡ pages_of_option o
pages_of_is [] i o e = ap pages_of_option (sym e)
pages_of_is (t ∷ ts) zero o e = ap pages_of_option (sym e)
pages_of_is (t ∷ ts) (suc i) o e = pages_of_is ts i o e

later : (i j : ℕ) {X : Type 0} (x y z : X) → z ≡ cond (j == i) x y → z ≡ cond (suc j == suc i) x y
later i j x y z e = grind (arith, nat_tests, e)

pub slice_get_set : {X : Type 0} (xs : List X) (i j : ℕ) (x : X) → i < length xs → slice_get (set xs i x) j ≡ cond (j == i) (Some x) (slice_get xs j)
slice_get_set [] i j x l = absurd (omega arith)
slice_get_set (y ∷ ys) zero zero x l = refl
slice_get_set (y ∷ ys) zero (suc j) x l = rw (ne_eqb (suc j) 0 (λ e. omega (arith, e))) refl
slice_get_set (y ∷ ys) (suc i) zero x l = rw (ne_eqb 0 (suc i) (λ e. omega (arith, e))) refl
slice_get_set (y ∷ ys) (suc i) (suc j) x l = later i j _ _ _ (slice_get_set ys i j x (omega arith))

pub pages_of_set : (ts : List Table) (i j : ℕ) (t : Table) → i < length ts → pages_of (set ts i t) j ≡ cond (j == i) t.pages.items (pages_of ts j)
pages_of_set [] i j x l = absurd (omega arith)
pages_of_set (y ∷ ys) zero zero x l = refl
pages_of_set (y ∷ ys) zero (suc j) x l = rw (ne_eqb (suc j) 0 (λ e. omega (arith, e))) refl
pages_of_set (y ∷ ys) (suc i) zero x l = rw (ne_eqb 0 (suc i) (λ e. omega (arith, e))) refl
pages_of_set (y ∷ ys) (suc i) (suc j) x l = later i j _ _ _ (pages_of_set ys i j x (omega arith))

-- the pages after a page of a table is another
pub pages_put : (ts : List Table) (t : Table) (i j m k : ℕ) (w g : Page) → Some t ≡ slice_get ts i → Some g ≡ slice_get t.pages.items j → slice_get (pages_of (set ts i (with_page t j w)) m) k ≡ cond ((m == i) && (k == j)) (Some w) (slice_get (pages_of ts m) k)
pages_put ts t i j m k w g e f =
    let l : i < length ts = slice_get_within ts i t (sym e) in
    let n : j < length t.pages.items = slice_get_within t.pages.items j g (sym f) in
    let here : pages_of ts i ≡ t.pages.items = pages_of_is ts i (Some t) e in
    rw (pages_of_set ts i m (with_page t j w) l)
    ((elim (cases_eq m i) as (λ _. slice_get (cond (m == i) (set t.pages.items j w) (pages_of ts m)) k ≡ cond ((m == i) && (k == j)) (Some w) (slice_get (pages_of ts m) k)) [
      | inl same ↦ rw (same, eq-eqb i i refl, here) (slice_get_set t.pages.items j k w n)
      | inr other ↦ rw (ne_eqb m i other) refl
    ]))

number_parts : (m n : ℕ) → m ≢ n → ((m / 1024 == n / 1024) && (m % 1024 == n % 1024)) ≡ false
number_parts m n h = elim (cases_Bool ((m / 1024 == n / 1024) && (m % 1024 == n % 1024))) as (λ _. ((m / 1024 == n / 1024) && (m % 1024 == n % 1024)) ≡ false) [
  | inl t ↦ let p = and_parts _ _ t in absurd (h (omega (arith, eqb-true (m / 1024) (n / 1024) p.0, eqb-true (m % 1024) (n % 1024) p.1)))
  | inr f ↦ f
]

pub page_lent : (d : Directory) (n : ℕ) (t : Table) (g w : Page) → Some t ≡ slice_get d.tables.items (n / 1024) → Some g ≡ slice_get t.pages.items (n % 1024) → IsWithPage d (with_table d (n / 1024) (with_page t (n % 1024) w)) n w
unfolding page_at
page_lent d n t g w e f = record {
  there = pages_put d.tables.items t (n / 1024) (n % 1024) (n / 1024) (n % 1024) w g e f ∙ rw (eq-eqb (n / 1024) (n / 1024) refl, eq-eqb (n % 1024) (n % 1024) refl) refl;
  elsewhere = λ m h. pages_put d.tables.items t (n / 1024) (n % 1024) (m / 1024) (m % 1024) w g e f ∙ rw (number_parts m n h) refl;
}

pub table_as_it_was : (d : Directory) (i : ℕ) (t : Table) → Some t ≡ slice_get d.tables.items i → (m : ℕ) → page_at (with_table d i t) m ≡ page_at d m
unfolding page_at
table_as_it_was d i t e m =
    let l : i < length d.tables.items = slice_get_within d.tables.items i t (sym e) in
    rw (pages_of_set d.tables.items i (m / 1024) t l)
    ((elim (cases_eq (m / 1024) i) as (λ _. slice_get (cond (m / 1024 == i) t.pages.items (pages_of d.tables.items (m / 1024))) (m % 1024) ≡ slice_get (pages_of d.tables.items (m / 1024)) (m % 1024)) [
      | inl same ↦ rw (same, eq-eqb i i refl, pages_of_is d.tables.items i (Some t) e) refl
      | inr other ↦ rw (ne_eqb (m / 1024) i other) refl
    ]))

pub page_found : (d : Directory) (n : ℕ) (t : Table) → Some t ≡ slice_get d.tables.items (n / 1024) → slice_get t.pages.items (n % 1024) ≡ page_at d n
unfolding page_at
page_found d n t e = rw (pages_of_is d.tables.items (n / 1024) (Some t) e) refl

pub no_page_found : (d : Directory) (n : ℕ) → None ≡ slice_get d.tables.items (n / 1024) → None ≡ page_at d n
unfolding page_at
no_page_found d n e = rw (pages_of_is d.tables.items (n / 1024) None e) refl

pub on_some : {A : Type 0} (o : Option A) (f : A → Page) (q : Option Page) (P : Type 0) → option_map f o ≡ q → ((g : Page) → Some g ≡ q → P) → OnSome o P
on_some None f q P e h = tt
on_some (Some x) f q P e h = h (f x) e

-- ---- more pages
pub pages_of_push : (ts : List Table) (t : Table) (i : ℕ) → t.pages.items ≡ [] → pages_of (ts ++ t ∷ []) i ≡ pages_of ts i
pages_of_push [] t zero e = e
pages_of_push [] t (suc i) e = refl
pages_of_push (s ∷ ts) t zero e = refl
pages_of_push (s ∷ ts) t (suc i) e = pages_of_push ts t i e

pub pages_of_pushed : (ts us : List Table) (t : Table) (i : ℕ) → us ≡ ts ++ t ∷ [] → t.pages.items ≡ [] → pages_of us i ≡ pages_of ts i
pages_of_pushed ts us t i e f = ap (λ x. pages_of x i) e ∙ pages_of_push ts t i f

get_front : {X : Type 0} (xs : List X) (x : X) (i : ℕ) → i < length xs → slice_get (xs ++ x ∷ []) i ≡ slice_get xs i
get_front [] x i l = absurd (omega arith)
get_front (y ∷ xs) x zero l = refl
get_front (y ∷ xs) x (suc i) l = get_front xs x i (omega arith)

get_last : {X : Type 0} (xs : List X) (x y : X) (i : ℕ) → length xs ≤ i → slice_get (xs ++ x ∷ []) i ≡ Some y → x ≡ y
get_last [] x y zero l e = cc
get_last [] x y (suc i) l e = cc
get_last (z ∷ xs) x y zero l e = absurd (omega arith)
get_last (z ∷ xs) x y (suc i) l e = get_last xs x y i (omega arith) e

pub same_pages : (gs : List Page) → IsGrown gs gs
same_pages gs = record {
  same = λ i l. refl;
  added = λ i g l e. absurd (omega (arith, slice_get_within gs i g e));
  longer = omega arith;
}

pub one_more_page : (old now then : List Page) (g : Page) → ((at : ℕ) → place_in g at ≡ None) → then ≡ now ++ g ∷ [] → IsGrown old now → IsGrown old then
one_more_page old now then g blank e h = rw e (record {
  same = λ i l. get_front now g i (omega (arith, h.longer)) ∙ h.same i l;
  added = λ i x l f.
      elim (cases_lt i (length now)) as (λ _. (at : ℕ) → place_in x at ≡ None) [
        | inl k ↦ h.added i x l (sym (get_front now g i k) ∙ f)
        | inr k ↦ λ at. ap (λ y. place_in y at) (sym (get_last now g x i k f)) ∙ blank at
      ];
  longer = omega (arith, h.longer, length-append now (g ∷ []));
})

pub grown_or_same : (t : Bool) (old now then : List Page) (g : Page) → ((at : ℕ) → place_in g at ≡ None) → then ≡ cond t (now ++ g ∷ []) now → IsGrown old now → IsGrown old then
grown_or_same true old now then g blank e h = one_more_page old now then g blank e h
grown_or_same false old now then g blank e h = rw e h

-- the pages of a table were added to
pub table_grown : (d : Directory) (i : ℕ) (t u : Table) → Some t ≡ slice_get d.tables.items i → IsGrown t.pages.items u.pages.items → (j : ℕ) → IsGrown (pages_of d.tables.items j) (pages_of (with_table d i u).tables.items j)
table_grown d i t u e h j =
    let l : i < length d.tables.items = slice_get_within d.tables.items i t (sym e) in
    rw (pages_of_set d.tables.items i j u l)
    ((elim (cases_eq j i) as (λ _. IsGrown (pages_of d.tables.items j) (cond (j == i) u.pages.items (pages_of d.tables.items j))) [
      | inl same ↦ rw (same, eq-eqb i i refl, pages_of_is d.tables.items i (Some t) e) h
      | inr other ↦ rw (ne_eqb j i other) (same_pages (pages_of d.tables.items j))
    ]))

pub has_grown : (d e : Directory) (i : ℕ) (t u : Table) → ((j : ℕ) → pages_of e.tables.items j ≡ pages_of d.tables.items j) → Some t ≡ slice_get e.tables.items i → IsGrown t.pages.items u.pages.items → HasGrown d (with_table e i u)
has_grown d e i t u same there h = record { tables = λ j. let x = table_grown e i t u there h j in rw same at x }

pub not_grown : (d e : Directory) → ((j : ℕ) → pages_of e.tables.items j ≡ pages_of d.tables.items j) → HasGrown d e
not_grown d e same = record { tables = λ j. rw same (same_pages (pages_of d.tables.items j)) }

some_there : {X : Type 0} (xs : List X) (i : ℕ) → i < length xs → is_some (slice_get xs i) ≡ true
some_there [] i l = absurd (omega arith)
some_there (x ∷ xs) zero l = refl
some_there (x ∷ xs) (suc i) l = some_there xs i (omega arith)

pub has_page : {A E : Type 0} (r : Result A E) (d : Directory) (n : ℕ) (t u : Table) → Some t ≡ slice_get d.tables.items (n / 1024) → OnOk r (n % 1024 < length u.pages.items) → OnOk r (is_some (page_at (with_table d (n / 1024) u) n) ≡ true)
unfolding page_at
has_page (Err e) d n t u there h = tt
has_page (Ok x) d n t u there h = rw (pages_of_set d.tables.items (n / 1024) (n / 1024) u (slice_get_within d.tables.items (n / 1024) t (sym there)), eq-eqb (n / 1024) (n / 1024) refl) (some_there u.pages.items (n % 1024) h)
