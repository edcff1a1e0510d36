-- What was done to the parts of a range so far.
use Rattle.std.proofs.Common.{◌≡◌, ℕ, length, ◌+◌, ◌*◌, ◌/◌, ◌%◌, ◌<◌, ◌≤◌, ◌&&◌, ◌||◌, Bool, true, false, cond, leb, ltb, List, Option, Some, None, arith, refl, sym, ◌∙◌, ap, inl, inr}
use Rattle.std.specs.List.{slice_get}
use Rattle.std.specs.Option.{is_some}
use Rattle.std.proofs.lemmas.Option.{slice_get_past}
use Rattle.std.proofs.lemmas.Bool.{cases_lt, cond-false, false≢true}
use Rattle.std.proofs.lemmas.Bool.Decides.{nat_tests}
use Rattle.x86_values.specs.declared.byte.Byte.{Byte}
use Rattle.memory.specs.Memory.{Place, forgotten}
use Rattle.mem_pages.specs.declared.page.Page.{Page}
use Rattle.mem_pages.specs.declared.directory.Directory.{Directory}
use Rattle.mem_pages.specs.Regions.{region_place, with_region, forget_between, HasRoom}
use Rattle.mem_pages.specs.Directory.{page_at, place_on, kept_on, contents, keeps, KeepsPlaces, IsGrown, HasGrown, HasPages}

pub keeps_itself : (d : Directory) → KeepsPlaces d d
keeps_itself d = record { kept = λ a h. h }

pub keeps_then : (d e f : Directory) → KeepsPlaces d e → KeepsPlaces e f → KeepsPlaces d f
keeps_then d e f h k = record { kept = λ a x. k.kept a (h.kept a x) }

empty_range : (start a : ℕ) → (leb start a && ltb a start) ≡ false
empty_range start a = grind (arith, nat_tests)

-- ---- forgotten
-- the parts of a range up to `at` are forgotten
pub record IsForgotten (start at end : ℕ) (d e : Directory) : Type 0 where
  pub before : start ≤ at
  pub within : at ≤ end
  pub places : (a : ℕ) → contents e a ≡ forget_between start at (contents d) a
  pub keeps : KeepsPlaces d e

pub none_forgotten : (start end : ℕ) (d : Directory) → start ≤ end → IsForgotten start start end d d
unfolding forget_between
none_forgotten start end d l = record {
  before = omega arith;
  within = l;
  places = λ a. sym (cond-false (leb start a && ltb a start) _ _ (empty_range start a));
  keeps = keeps_itself d;
}

joined_tests : (a start at next : ℕ) → start ≤ at → at ≤ next → (leb start a && ltb a next) ≡ ((leb at a && ltb a next) || (leb start a && ltb a at))
joined_tests a start at next l k = grind (arith, nat_tests)

apart_tests : (a start at next : ℕ) → (leb at a && ltb a next) ≡ true → (leb start a && ltb a at) ≡ false
apart_tests a start at next h = grind (arith, nat_tests)

pub forget_joined : (t u : Bool) (o : Option Place) → (t ≡ true → u ≡ false) → cond t (forgotten (cond u (forgotten o) o)) (cond u (forgotten o) o) ≡ cond (t || u) (forgotten o) o
forget_joined true true o h = absurd (false≢true (sym (h refl)))
forget_joined true false o h = refl
forget_joined false u o h = refl

pub more_forgotten : (start at next end : ℕ) (d e f : Directory) → at < next → next ≤ end → ((a : ℕ) → contents f a ≡ forget_between at next (contents e) a) → KeepsPlaces e f → IsForgotten start at end d e → IsForgotten start next end d f
unfolding forget_between
more_forgotten start at next end d e f l k places kept h = record {
  before = omega (arith, h.before);
  within = k;
  places = λ a. places a ∙ ap (λ o. cond (leb at a && ltb a next) (forgotten o) o) (h.places a) ∙ forget_joined (leb at a && ltb a next) (leb start a && ltb a at) (contents d a) (apart_tests a start at next) ∙ ap (λ t. cond t (forgotten (contents d a)) (contents d a)) (sym (joined_tests a start at next h.before (omega arith)));
  keeps = keeps_then d e f h.keeps kept;
}

pub all_forgotten : (start at end : ℕ) (d e : Directory) → end ≤ at → IsForgotten start at end d e → (a : ℕ) → contents e a ≡ forget_between start end (contents d) a
unfolding forget_between
all_forgotten start at end d e l h a = let s : at ≡ end = omega (arith, h.within) in h.places a ∙ ap (λ x. cond (leb start a && ltb a x) (forgotten (contents d a)) (contents d a)) s

-- ---- more pages
added_place : (old new : List Page) (i k : ℕ) (o : Option Page) → slice_get new i ≡ o → length old ≤ i → IsGrown old new → place_on o k ≡ None
added_place old new i k None e l h = refl
added_place old new i k (Some g) e l h = h.added i g l e k

grown_page : (old new : List Page) (i k : ℕ) → IsGrown old new → place_on (slice_get new i) k ≡ place_on (slice_get old i) k
grown_page old new i k h = elim (cases_lt i (length old)) as (λ _. place_on (slice_get new i) k ≡ place_on (slice_get old i) k) [
  | inl l ↦ ap (λ o. place_on o k) (h.same i l)
  | inr l ↦ added_place old new i k (slice_get new i) refl l h ∙ ap (λ o. place_on o k) (sym (slice_get_past old i l))
]

pub grown_contents : (d e : Directory) → HasGrown d e → (a : ℕ) → contents e a ≡ contents d a
unfolding contents page_at
grown_contents d e h a = grown_page _ _ _ (a % 4096) (h.tables (a / 4096 / 1024))

grown_kept : (old new : List Page) (i k : ℕ) → IsGrown old new → kept_on (slice_get old i) k ≡ true → kept_on (slice_get new i) k ≡ true
grown_kept old new i k h x = elim (cases_lt i (length old)) as (λ _. kept_on (slice_get new i) k ≡ true) [
  | inl l ↦ ap (λ o. kept_on o k) (h.same i l) ∙ x
  | inr l ↦ absurd (false≢true (sym (ap (λ o. kept_on o k) (slice_get_past old i l)) ∙ x))
]

pub grown_keeps : (d e : Directory) → HasGrown d e → KeepsPlaces d e
unfolding keeps page_at
grown_keeps d e h = record { kept = λ a x. grown_kept _ _ _ (a % 4096) (h.tables (a / 4096 / 1024)) x }

grown_some : (old new : List Page) (i : ℕ) → IsGrown old new → is_some (slice_get old i) ≡ true → is_some (slice_get new i) ≡ true
grown_some old new i h x = elim (cases_lt i (length old)) as (λ _. is_some (slice_get new i) ≡ true) [
  | inl l ↦ ap is_some (h.same i l) ∙ x
  | inr l ↦ absurd (false≢true (sym (ap is_some (slice_get_past old i l)) ∙ x))
]

pub grown_pages : (d e : Directory) (n : ℕ) → HasGrown d e → is_some (page_at d n) ≡ true → is_some (page_at e n) ≡ true
unfolding page_at
grown_pages d e n h x = grown_some _ _ _ (h.tables (n / 1024)) x

-- the pages of the parts of a range up to `at` are there
pub record IsGrownTo (start at end : ℕ) (d e : Directory) : Type 0 where
  pub before : start ≤ at
  pub within : at ≤ end
  pub places : (a : ℕ) → contents e a ≡ contents d a
  pub keeps : KeepsPlaces d e
  pub has : HasPages start at e

pub none_grown : (start end : ℕ) (d : Directory) → start ≤ end → IsGrownTo start start end d d
none_grown start end d l = record { before = omega arith; within = l; places = λ a. refl; keeps = keeps_itself d; has = record { there = λ a x y. absurd (omega arith) } }

pub more_grown : (start at next end : ℕ) (d e f : Directory) → at < next → next ≤ end → next ≤ 4096 * (at / 4096) + 4096 → HasGrown e f → is_some (page_at f (at / 4096)) ≡ true → IsGrownTo start at end d e → IsGrownTo start next end d f
more_grown start at next end d e f l k m g there h = record {
  before = omega (arith, h.before);
  within = k;
  places = λ a. grown_contents e f g a ∙ h.places a;
  keeps = keeps_then d e f h.keeps (grown_keeps e f g);
  has = record {
    there = λ a x y. elim (cases_lt a at) as (λ _. is_some (page_at f (a / 4096)) ≡ true) [
      | inl z ↦ grown_pages e f (a / 4096) g (h.has.there a x z)
      | inr z ↦ let s : a / 4096 ≡ at / 4096 = omega arith in ap (λ n. is_some (page_at f n)) s ∙ there
    ];
  };
}

pub all_grown : (start at end : ℕ) (d e : Directory) → end ≤ at → IsGrownTo start at end d e → HasPages start end e
all_grown start at end d e l h = record { there = λ a x y. h.has.there a x (omega arith) }

-- ---- mapped
-- the parts of a range up to `at` are mapped
pub record IsMapped (start at end : ℕ) (can_write : Bool) (unset : Byte) (d e : Directory) : Type 0 where
  pub before : start ≤ at
  pub within : at ≤ end
  pub aligned : start < at → at < end → at % 4096 ≡ 0
  pub places : (a : ℕ) → contents e a ≡ with_region start at can_write unset (contents d) a
  pub keeps : KeepsPlaces d e
  pub pages : (n : ℕ) → is_some (page_at e n) ≡ is_some (page_at d n)

pub none_mapped : (start end : ℕ) (can_write : Bool) (unset : Byte) (d : Directory) → start ≤ end → IsMapped start start end can_write unset d d
unfolding with_region
none_mapped start end can_write unset d l = record {
  before = omega arith;
  within = l;
  aligned = λ x y. absurd (omega arith);
  places = λ a. sym (cond-false (leb start a && ltb a start) _ _ (empty_range start a));
  keeps = keeps_itself d;
  pages = λ n. refl;
}

not_before : (start at a : ℕ) → (start < at → at % 4096 ≡ 0) → start ≤ at → a / 4096 ≡ at / 4096 → (leb start a && ltb a at) ≡ false
not_before start at a h l s = elim (cases_lt start at) as (λ _. (leb start a && ltb a at) ≡ false) [
  | inl x ↦ let z = h x in let y : at ≤ a = omega (arith, z) in grind (arith, nat_tests)
  | inr x ↦ grind (arith, nat_tests)
]

pub still_free : (start at end : ℕ) (can_write : Bool) (unset : Byte) (d e : Directory) → at < end → HasRoom start end (contents d) → IsMapped start at end can_write unset d e → (a : ℕ) → a / 4096 ≡ at / 4096 → contents e a ≡ None
unfolding with_region
still_free start at end can_write unset d e l room h a s = h.places a ∙ cond-false (leb start a && ltb a at) _ _ (not_before start at a (λ x. h.aligned x l) h.before s) ∙ room.free a at h.before l s

region_joined : (t u : Bool) (x o : Option Place) → cond t x (cond u x o) ≡ cond (t || u) x o
region_joined true u x o = refl
region_joined false u x o = refl

pub more_mapped : (start at next end : ℕ) (can_write : Bool) (unset : Byte) (d e f : Directory) → at < next → next ≤ end → (next < end → next % 4096 ≡ 0) → ((a : ℕ) → contents f a ≡ with_region at next can_write unset (contents e) a) → KeepsPlaces e f → ((n : ℕ) → is_some (page_at f n) ≡ is_some (page_at e n)) → IsMapped start at end can_write unset d e → IsMapped start next end can_write unset d f
unfolding with_region
more_mapped start at next end can_write unset d e f l k aligned places kept pages h = record {
  before = omega (arith, h.before);
  within = k;
  aligned = λ x y. aligned y;
  places = λ a. places a ∙ ap (λ o. cond (leb at a && ltb a next) (Some (region_place can_write unset)) o) (h.places a) ∙ region_joined (leb at a && ltb a next) (leb start a && ltb a at) _ (contents d a) ∙ ap (λ t. cond t (Some (region_place can_write unset)) (contents d a)) (sym (joined_tests a start at next h.before (omega arith)));
  keeps = keeps_then d e f h.keeps kept;
  pages = λ n. pages n ∙ h.pages n;
}

pub all_mapped : (start at end : ℕ) (can_write : Bool) (unset : Byte) (d e : Directory) → end ≤ at → IsMapped start at end can_write unset d e → (a : ℕ) → contents e a ≡ with_region start end can_write unset (contents d) a
unfolding with_region
all_mapped start at end can_write unset d e l h a = let s : at ≡ end = omega (arith, h.within) in h.places a ∙ ap (λ x. cond (leb start a && ltb a x) (Some (region_place can_write unset)) (contents d a)) s
