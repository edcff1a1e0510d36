-- From a page that is another to the places of the directory.
use Rattle.std.proofs.Common.{◌≡◌, ◌≢◌, ℕ, length, ◌+◌, ◌-◌, ◌*◌, ◌/◌, ◌%◌, ◌<◌, ◌≤◌, ◌==◌, ◌&&◌, Bool, true, false, cond, leb, ltb, List, Option, Some, None, Result, Ok, Err, arith, refl, sym, ◌∙◌, ap, inl, inr}
use Rattle.std.specs.Option.{OnSome, IfSome, is_some}
use Rattle.std.specs.Result.{OnOk, OnErr}
use Rattle.std.proofs.lemmas.Bool.{cases_eq, cases_Bool, eq-eqb, ne_eqb, cond-false, and_parts, ltb-true, leb-true, false≢true}
use Rattle.std.proofs.lemmas.Option.{none-some}
use Rattle.std.proofs.lemmas.Bool.Decides.{nat_tests}
use Rattle.x86_values.specs.declared.byte.Byte.{Byte}
use Rattle.memory.specs.Memory.{Place, AccessKind, Load, allows, byte_of, with_byte, put, forgotten}
use Rattle.mem_pages.specs.declared.page.Page.{Page}
use Rattle.mem_pages.specs.declared.directory.Directory.{Directory}
use Rattle.mem_pages.specs.Regions.{region_place, is_unspecified, with_region, forget_between}
use Rattle.mem_pages.specs.Page.{maps, place_in, kept_in, IsOffStack, Judges, ShowsBytes}
use Rattle.mem_pages.specs.Directory.{page_at, place_on, kept_on, contents, keeps, KeepsPlaces, IsWithPage}

pub holds : {A : Type 0} (o : Option A) (x : A) (P : Type 0) → o ≡ Some x → OnSome o P → P
holds None x P e h = absurd cc
holds (Some y) x P e h = h

pub contents_on : (d : Directory) (a n : ℕ) (o : Option Page) → o ≡ page_at d n → a / 4096 ≡ n → contents d a ≡ place_on o (a % 4096)
unfolding contents
contents_on d a n o e s = rw s (ap (λ x. place_on x (a % 4096)) (sym e))

pub keeps_on : (d : Directory) (a n : ℕ) (o : Option Page) → o ≡ page_at d n → a / 4096 ≡ n → keeps d a ≡ kept_on o (a % 4096)
unfolding keeps
keeps_on d a n o e s = rw s (ap (λ x. kept_on x (a % 4096)) (sym e))

pub contents_same_page : (d e : Directory) (a : ℕ) → page_at e (a / 4096) ≡ page_at d (a / 4096) → contents e a ≡ contents d a
unfolding contents
contents_same_page d e a h = ap (λ x. place_on x (a % 4096)) h

pub keeps_same_page : (d e : Directory) (a : ℕ) → page_at e (a / 4096) ≡ page_at d (a / 4096) → keeps e a ≡ keeps d a
unfolding keeps
keeps_same_page d e a h = ap (λ x. kept_on x (a % 4096)) h

pub same_pages_keep : (d e : Directory) → ((n : ℕ) → page_at e n ≡ page_at d n) → KeepsPlaces d e
same_pages_keep d e h = record { kept = λ a k. keeps_same_page d e a (h (a / 4096)) ∙ k }

-- a change of each place in a page, and of none elsewhere
pub lifted : (d e : Directory) (n : ℕ) (g w : Page) (F : ℕ → Option Place → Option Place) → IsWithPage d e n w → Some g ≡ page_at d n → ((a : ℕ) → a / 4096 ≡ n → place_in w (a % 4096) ≡ F a (place_in g (a % 4096))) → ((a : ℕ) (o : Option Place) → a / 4096 ≢ n → F a o ≡ o) → (a : ℕ) → contents e a ≡ F a (contents d a)
lifted d e n g w F h there places outside a = elim (cases_eq (a / 4096) n) as (λ _. contents e a ≡ F a (contents d a)) [
  | inl s ↦ contents_on e a n (Some w) (sym h.there) s ∙ places a s ∙ ap (F a) (sym (contents_on d a n (Some g) there s))
  | inr o ↦ contents_same_page d e a (h.elsewhere (a / 4096) o) ∙ sym (outside a (contents d a) o)
]

pub keeps_lifted : (d e : Directory) (n : ℕ) (g w : Page) → IsWithPage d e n w → Some g ≡ page_at d n → ((k : ℕ) → k < 4096 → kept_in g k ≡ true → kept_in w k ≡ true) → KeepsPlaces d e
keeps_lifted d e n g w h there kept = record {
  kept = λ a k. elim (cases_eq (a / 4096) n) as (λ _. keeps e a ≡ true) [
    | inl s ↦ keeps_on e a n (Some w) (sym h.there) s ∙ kept (a % 4096) (omega arith) (sym (keeps_on d a n (Some g) there s) ∙ k)
    | inr o ↦ keeps_same_page d e a (h.elsewhere (a / 4096) o) ∙ k
  ];
}

-- ---- one byte
pub kept_there : (d : Directory) (at : ℕ) (g : Page) → Some g ≡ page_at d (at / 4096) → keeps d at ≡ true → kept_in g (at % 4096) ≡ true
kept_there d at g there h = sym (keeps_on d at (at / 4096) (Some g) there refl) ∙ h

pub not_kept_there : (d : Directory) (at : ℕ) → None ≡ page_at d (at / 4096) → keeps d at ≡ true → ⊥
not_kept_there d at there h = false≢true (sym (keeps_on d at (at / 4096) None there refl) ∙ h)

same_test : (a at : ℕ) → a / 4096 ≡ at / 4096 → (a % 4096 == at % 4096) ≡ (a == at)
same_test a at h = elim (cases_eq a at) as (λ _. (a % 4096 == at % 4096) ≡ (a == at)) [
  | inl e ↦ eq-eqb (a % 4096) (at % 4096) (omega (arith, e)) ∙ sym (eq-eqb a at e)
  | inr n ↦ ne_eqb (a % 4096) (at % 4096) (λ e. n (omega (arith, e))) ∙ sym (ne_eqb a at n)
]

pub put_lifted : (d e : Directory) (at : ℕ) (b : Byte) (g w : Page) → IsWithPage d e (at / 4096) w → Some g ≡ page_at d (at / 4096) → ((k : ℕ) → place_in w k ≡ put (at % 4096) b (place_in g) k) → (a : ℕ) → contents e a ≡ put at b (contents d) a
unfolding put
put_lifted d e at b g w h there places = lifted d e (at / 4096) g w (λ a o. cond (a == at) (with_byte b o) o) h there (λ a s. places (a % 4096) ∙ ap (λ t. cond t (with_byte b (place_in g (a % 4096))) (place_in g (a % 4096))) (same_test a at s)) (λ a o n. cond-false (a == at) _ _ (ne_eqb a at (λ x. n (ap (λ y. y / 4096) x))))

-- ---- a range within a page
range_test : (a start end : ℕ) → start ≤ end → a / 4096 ≡ start / 4096 → (leb (start % 4096) (a % 4096) && ltb (a % 4096) (start % 4096 + (end - start))) ≡ (leb start a && ltb a end)
range_test a start end l h = grind (arith, nat_tests)

pub range_outside : (a start end : ℕ) → end ≤ 4096 * (start / 4096) + 4096 → a / 4096 ≢ start / 4096 → (leb start a && ltb a end) ≡ false
range_outside a start end l h = elim (cases_Bool (leb start a && ltb a end)) as (λ _. (leb start a && ltb a end) ≡ false) [
  | inl t ↦ let p = and_parts _ _ t in absurd (h (omega (arith, leb-true start a p.0, ltb-true a end p.1)))
  | inr f ↦ f
]

pub forget_lifted : (d e : Directory) (start end : ℕ) (g w : Page) → start ≤ end → end ≤ 4096 * (start / 4096) + 4096 → IsWithPage d e (start / 4096) w → Some g ≡ page_at d (start / 4096) → ((k : ℕ) → place_in w k ≡ forget_between (start % 4096) (start % 4096 + (end - start)) (place_in g) k) → (a : ℕ) → contents e a ≡ forget_between start end (contents d) a
unfolding forget_between
forget_lifted d e start end g w l m h there places = lifted d e (start / 4096) g w (λ a o. cond (leb start a && ltb a end) (forgotten o) o) h there (λ a s. places (a % 4096) ∙ ap (λ t. cond t (forgotten (place_in g (a % 4096))) (place_in g (a % 4096))) (range_test a start end l s)) (λ a o n. cond-false (leb start a && ltb a end) _ _ (range_outside a start end m n))

forgets_none : (t : Bool) (o : Option Place) → o ≡ None → o ≡ cond t (forgotten o) o
forgets_none true None h = refl
forgets_none true (Some p) h = absurd cc
forgets_none false o h = refl

pub forget_nothing : (d e : Directory) (start end : ℕ) → end ≤ 4096 * (start / 4096) + 4096 → None ≡ page_at d (start / 4096) → ((n : ℕ) → page_at e n ≡ page_at d n) → (a : ℕ) → contents e a ≡ forget_between start end (contents d) a
unfolding forget_between
forget_nothing d e start end m there same a = contents_same_page d e a (same (a / 4096)) ∙ elim (cases_eq (a / 4096) (start / 4096)) as (λ _. contents d a ≡ cond (leb start a && ltb a end) (forgotten (contents d a)) (contents d a)) [
  | inl s ↦ forgets_none _ _ (contents_on d a (start / 4096) None there s)
  | inr n ↦ sym (cond-false (leb start a && ltb a end) _ _ (range_outside a start end m n))
]

pub map_lifted : (d e : Directory) (start end : ℕ) (can_write : Bool) (unset : Byte) (g w : Page) → start ≤ end → end ≤ 4096 * (start / 4096) + 4096 → IsWithPage d e (start / 4096) w → Some g ≡ page_at d (start / 4096) → ((k : ℕ) → k < 4096 → place_in w k ≡ with_region (start % 4096) (start % 4096 + (end - start)) can_write unset (place_in g) k) → (a : ℕ) → contents e a ≡ with_region start end can_write unset (contents d) a
unfolding with_region
map_lifted d e start end can_write unset g w l m h there places = lifted d e (start / 4096) g w (λ a o. cond (leb start a && ltb a end) (Some (region_place can_write unset)) o) h there (λ a s. places (a % 4096) (omega arith) ∙ ap (λ t. cond t (Some (region_place can_write unset)) (place_in g (a % 4096))) (range_test a start end l s)) (λ a o n. cond-false (leb start a && ltb a end) _ _ (range_outside a start end m n))

-- ---- pages that are kept, and pages in which nothing is mapped
pub mapped : (g : Page) (k : ℕ) → allows Load (place_in g k) ≡ true → maps g k ≡ true
unfolding place_in
mapped g k h = elim (cases_Bool (maps g k)) as (λ _. maps g k ≡ true) [
  | inl t ↦ t
  | inr f ↦ let e = rw f at h in absurd (false≢true e)
]

pub kept_is_mapped : (g : Page) (k : ℕ) → kept_in g k ≡ true → allows Load (place_in g k) ≡ true
unfolding place_in kept_in
kept_is_mapped g k h = let p = and_parts (maps g k) (leb 4096 (length g.bytes.items)) h in rw p.0 refl

pub unmapped_is_not_kept : (g : Page) (k : ℕ) → place_in g k ≡ None → kept_in g k ≡ true → ⊥
unmapped_is_not_kept g k e h = false≢true (sym (ap (allows Load) e) ∙ kept_is_mapped g k h)

pub free_there : (d : Directory) (n : ℕ) (g : Page) → Some g ≡ page_at d n → ((a : ℕ) → a / 4096 ≡ n → contents d a ≡ None) → (k : ℕ) → k < 4096 → place_in g k ≡ None
free_there d n g there free k l =
    let q : (4096 * n + k) / 4096 ≡ n = omega arith in
    let r : (4096 * n + k) % 4096 ≡ k = omega arith in
    ap (λ x. place_in g x) (sym r) ∙ sym (contents_on d (4096 * n + k) n (Some g) there q) ∙ free (4096 * n + k) q

pub keep_lifted : {A E : Type 0} (r : Result A E) (d e : Directory) (at : ℕ) (g w : Page) → IsWithPage d e (at / 4096) w → Some g ≡ page_at d (at / 4096) → ((k : ℕ) → place_in w k ≡ place_in g k) → OnOk r ((k : ℕ) → kept_in w k ≡ maps w k) → OnOk r ((a : ℕ) → a / 4096 ≡ at / 4096 → allows Load (contents d a) ≡ true → keeps e a ≡ true)
keep_lifted (Err x) d e at g w h there same kept = tt
keep_lifted (Ok x) d e at g w h there same kept = λ a s l.
    let o : allows Load (place_in w (a % 4096)) ≡ true = ap (allows Load) (same (a % 4096) ∙ sym (contents_on d a (at / 4096) (Some g) there s)) ∙ l in
    keeps_on e a (at / 4096) (Some w) (sym h.there) s ∙ kept (a % 4096) ∙ mapped w (a % 4096) o

pub nothing_to_keep : (d e : Directory) (at : ℕ) → None ≡ page_at d (at / 4096) → (a : ℕ) → a / 4096 ≡ at / 4096 → allows Load (contents d a) ≡ true → keeps e a ≡ true
nothing_to_keep d e at there a s l = absurd (false≢true (sym (ap (allows Load) (contents_on d a (at / 4096) None there s)) ∙ l))

pub some_pages : (d e : Directory) (n : ℕ) (g w : Page) → IsWithPage d e n w → Some g ≡ page_at d n → (m : ℕ) → is_some (page_at e m) ≡ is_some (page_at d m)
some_pages d e n g w h there m = elim (cases_eq m n) as (λ _. is_some (page_at e m) ≡ is_some (page_at d m)) [
  | inl s ↦ ap (λ x. is_some (page_at e x)) s ∙ ap is_some h.there ∙ ap is_some there ∙ ap (λ x. is_some (page_at d x)) (sym s)
  | inr o ↦ ap is_some (h.elsewhere m o)
]

pub missing_lifted : {A E : Type 0} (r : Result A E) (d : Directory) (at : ℕ) (g : Page) → Some g ≡ page_at d (at / 4096) → OnErr r ((k : ℕ) → kept_in g k ≡ false) → OnErr r (keeps d at ≡ false)
missing_lifted (Ok x) d at g there h = tt
missing_lifted (Err e) d at g there h = keeps_on d at (at / 4096) (Some g) there refl ∙ h (at % 4096)

-- ---- judgements
abbrev stack_of : Option Place → Bool
stack_of None = false
stack_of (Some p) = p.on_stack

place_off_stack : (g : Page) (k : ℕ) (p : Place) → is_unspecified g.unset ≡ false → place_in g k ≡ Some p → p.on_stack ≡ false
unfolding place_in
place_off_stack g k p s e = elim (cases_Bool (maps g k)) as (λ _. p.on_stack ≡ false) [
  | inl t ↦ let f = rw t at e in sym (ap stack_of f) ∙ s
  | inr t ↦ let f = rw t at e in absurd (none-some p f)
]

pub off_stack_there : (d : Directory) (at : ℕ) (g : Page) (r : Bool) → Some g ≡ page_at d (at / 4096) → r ≡ is_unspecified g.unset → r ≡ false → IsOffStack at (contents d)
off_stack_there d at g r there e f = record { off = λ a p s h. place_off_stack g (a % 4096) p (sym e ∙ f) (sym (contents_on d a (at / 4096) (Some g) there s) ∙ h) }

pub off_stack_nowhere : (d : Directory) (at : ℕ) → None ≡ page_at d (at / 4096) → IsOffStack at (contents d)
off_stack_nowhere d at there = record { off = λ a p s h. absurd (none-some p (sym (contents_on d a (at / 4096) None there s) ∙ h)) }

pub in_page : (d : Directory) (at k count : ℕ) (o : Option Page) → at % 4096 + count ≤ 4096 → k < count → o ≡ page_at d (at / 4096) → contents d (at + k) ≡ place_on o (at % 4096 + k)
in_page d at k count o l m there =
    let r : (at + k) % 4096 ≡ at % 4096 + k = omega arith in
    contents_on d (at + k) (at / 4096) o there (omega arith) ∙ ap (place_on o) r

pub judged_there : (r : Bool) (kind : AccessKind) (d : Directory) (at count : ℕ) (g : Page) → at % 4096 + count ≤ 4096 → Some g ≡ page_at d (at / 4096) → Judges r kind (place_in g) (at % 4096) count → Judges r kind (contents d) at count
judged_there true kind d at count g l there h = λ k m. ap (allows kind) (in_page d at k count (Some g) l m there) ∙ h k m
judged_there false kind d at count g l there h = (h.0, h.1, ap (allows kind) (in_page d at h.0 count (Some g) l h.1 there) ∙ h.2)

pub judged_nowhere : (kind : AccessKind) (d : Directory) (at count : ℕ) → 0 < count → None ≡ page_at d (at / 4096) → (k : ℕ) × (k < count) × (allows kind (contents d (at + k)) ≡ false)
judged_nowhere kind d at count l there = (0, l, let z : at + 0 ≡ at = omega arith in rw z (ap (allows kind) (contents_on d at (at / 4096) None there refl)))

pub shows_there : (d : Directory) (at count : ℕ) (g : Page) (bytes : List Byte) → at % 4096 + count ≤ 4096 → Some g ≡ page_at d (at / 4096) → ShowsBytes (place_in g) (at % 4096) count bytes → ShowsBytes (contents d) at count bytes
shows_there d at count g bytes l there h = record {
  len = h.len;
  shown = λ k m x.
      let e = in_page d at k count (Some g) l m there in
      ap byte_of e ∙ h.shown k m (ap (allows Load) (sym e) ∙ x);
}

pub shows_part : {A : Type 0} (o : Option A) (f : A → List Byte) (d : Directory) (at count : ℕ) (g : Page) → at % 4096 + count ≤ 4096 → Some g ≡ page_at d (at / 4096) → IfSome o (λ x. ShowsBytes (place_in g) (at % 4096) count (f x)) → IfSome o (λ x. ShowsBytes (contents d) at count (f x))
shows_part None f d at count g l there h = tt
shows_part (Some x) f d at count g l there h = shows_there d at count g (f x) l there h
