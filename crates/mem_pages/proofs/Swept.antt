-- The pages that are forgotten whole, and what stays quiet.
use Rattle.std.proofs.Common.{◌≡◌, ℕ, ◌+◌, ◌*◌, ◌/◌, ◌%◌, ◌<◌, ◌≤◌, ◌==◌, ◌&&◌, ◌||◌, Bool, true, false, not, cond, leb, ltb, Option, Some, None, arith, refl, sym, ◌∙◌, ap, inl, inr}
use Rattle.std.proofs.lemmas.Bool.{cases_eq, cases_lt, cond-true, cond-false, eqb-true, false≢true}
use Rattle.std.proofs.lemmas.Bool.Decides.{nat_tests}
use Rattle.x86_values.specs.declared.byte.Byte.{Byte}
use Rattle.x86_values.specs.declared.byte.Byte.TheVariants.{Known, Unspecified}
use Rattle.memory.specs.Memory.{Place, with_byte, put, forgotten}
use Rattle.mem_pages.specs.declared.exposed.Exposed.{Exposed}
use Rattle.mem_pages.specs.declared.directory.Directory.{Directory}
use Rattle.mem_pages.specs.Regions.{is_unspecified, region_place, with_region, forget_between}
use Rattle.mem_pages.specs.Page.{IsOffStack}
use Rattle.mem_pages.specs.Directory.{contents, page_at, place_on, KeepsPlaces}
use Rattle.mem_pages.specs.Exposed.{lists, Adds, TakesOut, ListsNoneBelow, is_forgotten, IsQuiet}
use Rattle.mem_pages.proofs.Parts as parts

-- ---- a place that is as if it were forgotten
forgotten_is : (o : Option Place) → is_forgotten (forgotten o) ≡ true
forgotten_is None = refl
forgotten_is (Some p) = either p.on_stack p.byte
  where
    either : (s : Bool) (b : Byte) → (not s || is_unspecified (cond s Unspecified b)) ≡ true
    either true b = refl
    either false b = refl

pub forgotten_twice : (o : Option Place) → forgotten (forgotten o) ≡ forgotten o
forgotten_twice None = refl
forgotten_twice (Some p) = ap (λ b. Some (record p { byte = b })) (twice p.on_stack p.byte)
  where
    twice : (s : Bool) (b : Byte) → cond s Unspecified (cond s Unspecified b) ≡ cond s Unspecified b
    twice true b = refl
    twice false b = refl

as_forgotten : (o : Option Place) → is_forgotten o ≡ true → o ≡ forgotten o
as_forgotten None h = refl
as_forgotten (Some p) h = ap (λ b. Some (record p { byte = b })) (same p.on_stack p.byte h)
  where
    same : (s : Bool) (b : Byte) → (not s || is_unspecified b) ≡ true → b ≡ cond s Unspecified b
    same true (Known b) h = absurd (false≢true h)
    same true Unspecified h = refl
    same false b h = refl

quiet_after : (t : Bool) (o : Option Place) → (t ≡ false → is_forgotten o ≡ true) → is_forgotten (cond t (forgotten o) o) ≡ true
quiet_after true o h = forgotten_is o
quiet_after false o h = h refl

forgot_after : (t : Bool) (o : Option Place) → forgotten (cond t (forgotten o) o) ≡ forgotten o
forgot_after true o = forgotten_twice o
forgot_after false o = refl

-- ---- what stays quiet
pub quiet_places : (e : Exposed) (d d' : Directory) → ((a : ℕ) → contents d' a ≡ contents d a) → IsQuiet e d → IsQuiet e d'
quiet_places e d d' same h = λ a l. ap is_forgotten (same a) ∙ h a l

pub quiet_forgotten : (e : Exposed) (d d' : Directory) (start end : ℕ) → ((a : ℕ) → contents d' a ≡ forget_between start end (contents d) a) → IsQuiet e d → IsQuiet e d'
unfolding forget_between
quiet_forgotten e d d' start end places h = λ a l. ap is_forgotten (places a) ∙ quiet_after (leb start a && ltb a end) (contents d a) (λ t. h a l)

region_quiet : (t w : Bool) (b : Byte) (o : Option Place) → is_forgotten o ≡ true → is_forgotten (cond t (Some (region_place w b)) o) ≡ true
region_quiet true w (Known b) o h = refl
region_quiet true w Unspecified o h = refl
region_quiet false w b o h = h

pub quiet_mapped : (e : Exposed) (d d' : Directory) (start end : ℕ) (w : Bool) (b : Byte) → ((a : ℕ) → contents d' a ≡ with_region start end w b (contents d) a) → IsQuiet e d → IsQuiet e d'
unfolding with_region
quiet_mapped e d d' start end w b places h = λ a l. ap is_forgotten (places a) ∙ region_quiet (leb start a && ltb a end) w b (contents d a) (h a l)

pub quiet_nothing : (e : Exposed) (d : Directory) → ((n : ℕ) → page_at d n ≡ None) → IsQuiet e d
unfolding contents
quiet_nothing e d h = λ a l. ap (λ o. is_forgotten (place_on o (a % 4096))) (h (a / 4096))

pub quiet_added : (e f : Exposed) (d : Directory) (n : ℕ) → Adds n e f → IsQuiet e d → IsQuiet f d
quiet_added e f d n adds h = λ a l. h a (adds.others (a / 4096) l)

off_quiet : (b : Byte) (o : Option Place) → ((p : Place) → o ≡ Some p → p.on_stack ≡ false) → is_forgotten (with_byte b o) ≡ true
off_quiet b None h = refl
off_quiet b (Some p) h = ap (λ s. not s || is_unspecified b) (h p refl)

pub put_quiet : (t : Bool) (b : Byte) (o : Option Place) → (t ≡ true → (p : Place) → o ≡ Some p → p.on_stack ≡ false) → is_forgotten o ≡ true → is_forgotten (cond t (with_byte b o) o) ≡ true
put_quiet true b o off h = off_quiet b o (off refl)
put_quiet false b o off h = h

pub quiet_put : (e : Exposed) (d d' : Directory) (at : ℕ) (b : Byte) → (lists e (at / 4096) ≡ false → IsOffStack at (contents d)) → ((a : ℕ) → contents d' a ≡ put at b (contents d) a) → IsQuiet e d → IsQuiet e d'
unfolding put
quiet_put e d d' at b off places h = λ a l. ap is_forgotten (places a) ∙ put_quiet (a == at) b (contents d a) (λ t p q. let s = eqb-true a at t in (off (ap (λ x. lists e (x / 4096)) (sym s) ∙ l)).off at p refl (ap (contents d) (sym s) ∙ q)) (h a l)

-- ---- the sweep
-- of the pages below `end` some were forgotten, and the others are listed or quiet
pub record IsSwept (end : ℕ) (d : Directory) (f : Exposed) (d' : Directory) : Type 0 where
  pub quiet : IsQuiet f d'
  pub forgot : (a : ℕ) → forgotten (contents d' a) ≡ forgotten (contents d a)
  pub past : (a : ℕ) → end ≤ a / 4096 → contents d' a ≡ contents d a
  pub keeps : KeepsPlaces d d'

pub none_swept : (end : ℕ) (e : Exposed) (d : Directory) → IsQuiet e d → IsSwept end d e d
none_swept end e d h = record { quiet = h; forgot = λ a. refl; past = λ a l. refl; keeps = parts.keeps_itself d }

in_page : (a n : ℕ) → a / 4096 ≡ n → (leb (n * 4096) a && ltb a (n * 4096 + 4096)) ≡ true
in_page a n h = let l : n * 4096 ≤ a = omega (arith, h) in let m : a < n * 4096 + 4096 = omega (arith, h) in grind (arith, nat_tests)

off_page : (a n end : ℕ) → n < end → end ≤ a / 4096 → (leb (n * 4096) a && ltb a (n * 4096 + 4096)) ≡ false
off_page a n end l h = let m : n * 4096 + 4096 ≤ a = omega (arith, l, h) in grind (arith, nat_tests)

page_quiet : (e f : Exposed) (d : Directory) (end n a : ℕ) → TakesOut end n e f → IsQuiet e d → lists f (a / 4096) ≡ false → (leb (n * 4096) a && ltb a (n * 4096 + 4096)) ≡ false → is_forgotten (contents d a) ≡ true
page_quiet e f d end n a takes h l t = elim (cases_eq (a / 4096) n) as (λ _. is_forgotten (contents d a) ≡ true) [
  | inl s ↦ absurd (false≢true (sym t ∙ in_page a n s))
  | inr o ↦ h a (takes.others (a / 4096) o l)
]

pub more_swept : (end n : ℕ) (d : Directory) (e f : Exposed) (d' d'' : Directory) → TakesOut end n e f → ((a : ℕ) → contents d'' a ≡ forget_between (n * 4096) (n * 4096 + 4096) (contents d') a) → KeepsPlaces d' d'' → IsSwept end d e d' → IsSwept end d f d''
unfolding forget_between
more_swept end n d e f d' d'' takes places kept h = record {
  quiet = λ a l. ap is_forgotten (places a) ∙ quiet_after _ (contents d' a) (page_quiet e f d' end n a takes h.quiet l);
  forgot = λ a. ap forgotten (places a) ∙ forgot_after (leb (n * 4096) a && ltb a (n * 4096 + 4096)) (contents d' a) ∙ h.forgot a;
  past = λ a l. places a ∙ cond-false _ _ _ (off_page a n end takes.below l) ∙ h.past a l;
  keeps = parts.keeps_then d d' d'' h.keeps kept;
}

below_end : (a end : ℕ) → a / 4096 < end → (leb 0 a && ltb a (4096 * end)) ≡ true
below_end a end h = let l : a < 4096 * end = omega (arith, h) in grind (arith, nat_tests)

past_end : (a end : ℕ) → end ≤ a / 4096 → (leb 0 a && ltb a (4096 * end)) ≡ false
past_end a end h = let l : 4096 * end ≤ a = omega (arith, h) in grind (arith, nat_tests)

pub all_swept : (end : ℕ) (d : Directory) (f : Exposed) (d' : Directory) → ListsNoneBelow end f → IsSwept end d f d' → (a : ℕ) → contents d' a ≡ forget_between 0 (4096 * end) (contents d) a
unfolding forget_between
all_swept end d f d' none h a = elim (cases_lt (a / 4096) end) as (λ _. contents d' a ≡ cond (leb 0 a && ltb a (4096 * end)) (forgotten (contents d a)) (contents d a)) [
  | inl l ↦ as_forgotten (contents d' a) (h.quiet a (none.none (a / 4096) l)) ∙ h.forgot a ∙ sym (cond-true _ _ _ (below_end a end l))
  | inr l ↦ h.past a l ∙ sym (cond-false _ _ _ (past_end a end l))
]
