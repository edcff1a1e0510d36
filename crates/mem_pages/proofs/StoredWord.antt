-- A word that is stored in one page: its bytes one after another, in the page, in the directory and in the memory.
use Rattle.std.proofs.Common.{◌≡◌, ◌≢◌, ℕ, suc, ◌+◌, ◌-◌, ◌<◌, ◌≤◌, ◌==◌, ◌&&◌, Bool, true, false, cond, leb, ltb, List, [], ◌∷◌, length, take, get_or, Option, Some, None, arith, refl, sym, ◌∙◌, ap, inl, inr}
use Rattle.std.specs.Vec.{with_item}
use Rattle.std.proofs.Math.ListN.{length-set}
use Rattle.std.proofs.lemmas.Bool.{cases_eq, cases_lt, cond-true, cond-false, eq-eqb, ne_eqb, leb-true, and_parts}
use Rattle.std.proofs.lemmas.Bool.Decides.{nat_tests}
use Rattle.x86_values.specs.declared.byte.Byte.{Byte}
use Rattle.x86_values.specs.declared.byte.Byte.TheVariants.{Unspecified}
use Rattle.x86_values.specs.declared.word.Word.{Word}
use Rattle.x86_values.specs.Words.{word_list}
use Rattle.memory.specs.Memory.{Place, Memory, Store, allows, with_byte, put, put_all, wrapped}
use Rattle.mem_pages.specs.declared.page.Page.{Page}
use Rattle.mem_pages.specs.Regions.{is_unspecified}
use Rattle.mem_pages.specs.Page.{byte_in, place_in, kept_in, is_plain, put_part}
use Rattle.mem_pages.proofs.PageSteps.{place_of, puts, same_kept}
use Rattle.mem_pages.proofs.WithinPage.{plain_maps, plain_len}

-- ---- bytes one after another
first_test : (a at n : ℕ) → a ≡ at → (leb at a && ltb a (at + suc n)) ≡ true
first_test a at n e = grind (arith, nat_tests)

not_rest : (a at n : ℕ) → a ≡ at → (leb (at + 1) a && ltb a (at + 1 + n)) ≡ false
not_rest a at n e = grind (arith, nat_tests)

rest_test : (a at n : ℕ) → a ≢ at → (leb (at + 1) a && ltb a (at + 1 + n)) ≡ (leb at a && ltb a (at + suc n))
rest_test a at n d = elim (cases_lt a at) as (λ _. (leb (at + 1) a && ltb a (at + 1 + n)) ≡ (leb at a && ltb a (at + suc n))) [
  | inl l ↦ grind (arith, nat_tests)
  | inr l ↦ let m : at < a = omega (arith, l, d) in grind (arith, nat_tests)
]

nothing_test : (a at : ℕ) → (leb at a && ltb a (at + 0)) ≡ false
nothing_test a at = grind (arith, nat_tests)

-- the byte past the first of some
rest_byte : (a at : ℕ) (b : Byte) (bs : List Byte) → at < a → get_or bs (a - (at + 1)) Unspecified ≡ get_or (b ∷ bs) (a - at) Unspecified
rest_byte a at b bs l = let e : a - at ≡ suc (a - (at + 1)) = omega arith in rw e refl

first_byte : (a at : ℕ) (b : Byte) (bs : List Byte) → a ≡ at → get_or (b ∷ bs) (a - at) Unspecified ≡ b
first_byte a at b bs h = let e : a - at ≡ 0 = omega (arith, h) in rw e refl

other_byte : (t : Bool) (b c : Byte) (o : Option Place) → (t ≡ true → b ≡ c) → cond t (with_byte b o) o ≡ cond t (with_byte c o) o
other_byte true b c o h = ap (λ x. with_byte x o) (h refl)
other_byte false b c o h = refl

pub all_as_part : (at : ℕ) (bs : List Byte) (m : Memory) → at + length bs ≤ 4294967296 → (a : ℕ) → put_all at bs m a ≡ put_part at bs m a
unfolding put_all put_part put
all_as_part at [] m l a = sym (cond-false (leb at a && ltb a (at + 0)) _ _ (nothing_test a at))
all_as_part at (b ∷ bs) m l a =
    let z : wrapped at ≡ at = omega arith in
    all_as_part (at + 1) bs (put (wrapped at) b m) (omega arith) a ∙ elim (cases_eq a at) as (λ _. cond (leb (at + 1) a && ltb a (at + 1 + length bs)) (with_byte (get_or bs (a - (at + 1)) Unspecified) (put (wrapped at) b m a)) (put (wrapped at) b m a) ≡ cond (leb at a && ltb a (at + suc (length bs))) (with_byte (get_or (b ∷ bs) (a - at) Unspecified) (m a)) (m a)) [
      | inl e ↦ cond-false _ _ _ (not_rest a at (length bs) e) ∙ ap (λ x. cond (a == x) (with_byte b (m a)) (m a)) z ∙ cond-true (a == at) _ _ (eq-eqb a at e) ∙ ap (λ x. with_byte x (m a)) (sym (first_byte a at b bs e)) ∙ sym (cond-true _ _ _ (first_test a at (length bs) e))
      | inr n ↦
          let same : put (wrapped at) b m a ≡ m a = ap (λ x. cond (a == x) (with_byte b (m a)) (m a)) z ∙ cond-false (a == at) _ _ (ne_eqb a at n) in
          ap (λ o. cond (leb (at + 1) a && ltb a (at + 1 + length bs)) (with_byte (get_or bs (a - (at + 1)) Unspecified) o) o) same
          ∙ other_byte _ _ _ (m a) (λ t. rest_byte a at b bs (let p = and_parts _ _ t in omega (arith, leb-true (at + 1) a p.0)))
          ∙ ap (λ t. cond t (with_byte (get_or (b ∷ bs) (a - at) Unspecified) (m a)) (m a)) (rest_test a at (length bs) n)
    ]

-- ---- in the page
plain_low : (g : Page) (at count : ℕ) → is_plain g false at count ≡ true → is_unspecified g.unset ≡ true → g.low ≤ at
plain_low g at count h s = grind (arith, nat_tests)

pub still_plain : (g : Page) (hidden : Bool) (at count : ℕ) → is_plain g hidden at count ≡ true → is_plain g false at count ≡ true
still_plain g hidden at count h = grind (arith, nat_tests)

-- a byte that is written by its index
one_put : (g : Page) (at k : ℕ) (b : Byte) → (is_unspecified g.unset ≡ true → g.low ≤ at) → at ≤ k → k < length g.bytes.items → k < 4294967296 → place_in (record g { bytes = with_item g.bytes k b }) ≡ put (wrapped k) b (place_in g)
one_put g at k b h l m n = let z : wrapped k ≡ k = omega arith in rw z (λ i a. puts g k b a (λ s. let p = h s in omega (arith, p)) m i)

word_part : (at size : ℕ) (w : Word) (m : Memory) → at + length (take size (word_list w)) ≤ 4294967296 → put_all at (take size (word_list w)) m ≡ put_part at (take size (word_list w)) m
word_part at size w m l = λ i a. all_as_part at (take size (word_list w)) m l a i

after_put : (k : ℕ) (b : Byte) (m n : Memory) → m ≡ n → put k b m ≡ put k b n
after_put k b m n e = ap (put k b) e

one_more : (g : Page) (at k : ℕ) (b : Byte) (m : Memory) → (is_unspecified g.unset ≡ true → g.low ≤ at) → at ≤ k → k < length g.bytes.items → k < 4294967296 → place_in g ≡ m → place_in (record g { bytes = with_item g.bytes k b }) ≡ put (wrapped k) b m
one_more g at k b m h l n o e = one_put g at k b h l n o ∙ after_put (wrapped k) b _ _ e

-- a page with another byte
abbrev pub with_put : Page → ℕ → Byte → Page
with_put g k b = record g { bytes = with_item g.bytes k b }

pub stores_one : (g : Page) (at size : ℕ) (w : Word) → size ≡ 1 → at + size ≤ 4096 → is_plain g false at size ≡ true → place_in (with_put g at w.b0) ≡ put_part at (take size (word_list w)) (place_in g)
unfolding put_all
stores_one g at size w e l h =
    let len = plain_len g false at size h in
    let one = one_more g at at w.b0 (place_in g) (plain_low g at size h) (omega arith) (omega (arith, len, e)) (omega arith) refl in
    rw e (one ∙ word_part at 1 w (place_in g) (omega (arith, e)))

pub stores_two : (g : Page) (at size : ℕ) (w : Word) → size ≡ 2 → at + size ≤ 4096 → is_plain g false at size ≡ true → place_in (with_put (with_put g at w.b0) (at + 1) w.b1) ≡ put_part at (take size (word_list w)) (place_in g)
unfolding put_all
stores_two g at size w e l h =
    let len = plain_len g false at size h in
    let low = plain_low g at size h in
    let s0 = length-set g.bytes.items at w.b0 in
    let one = one_more g at at w.b0 (place_in g) low (omega arith) (omega (arith, len, e)) (omega arith) refl in
    let two = one_more (with_put g at w.b0) at (at + 1) w.b1 _ low (omega arith) (omega (arith, len, e, s0)) (omega arith) one in
    rw e (two ∙ word_part at 2 w (place_in g) (omega (arith, e)))

pub stores_four : (g : Page) (at size : ℕ) (w : Word) → size ≡ 4 → at + size ≤ 4096 → is_plain g false at size ≡ true → place_in (with_put (with_put (with_put (with_put g at w.b0) (at + 1) w.b1) (at + 2) w.b2) (at + 3) w.b3) ≡ put_part at (take size (word_list w)) (place_in g)
unfolding put_all
stores_four g at size w e l h =
    let len = plain_len g false at size h in
    let low = plain_low g at size h in
    let s0 = length-set g.bytes.items at w.b0 in
    let s1 = length-set (with_put g at w.b0).bytes.items (at + 1) w.b1 in
    let s2 = length-set (with_put (with_put g at w.b0) (at + 1) w.b1).bytes.items (at + 2) w.b2 in
    let x : at + 1 + 1 ≡ at + 2 = omega arith in
    let y : at + 2 + 1 ≡ at + 3 = omega arith in
    let one = one_more g at at w.b0 (place_in g) low (omega arith) (omega (arith, len, e)) (omega arith) refl in
    let two = one_more (with_put g at w.b0) at (at + 1) w.b1 _ low (omega arith) (omega (arith, len, e, s0)) (omega arith) one in
    let three = one_more (with_put (with_put g at w.b0) (at + 1) w.b1) at (at + 2) w.b2 _ low (omega arith) (omega (arith, len, e, s0, s1)) (omega arith) two in
    let four = one_more (with_put (with_put (with_put g at w.b0) (at + 1) w.b1) (at + 2) w.b2) at (at + 3) w.b3 _ low (omega arith) (omega (arith, len, e, s0, s1, s2)) (omega arith) three in
    let all : put_all at (word_list w) (place_in g) ≡ put (wrapped (at + 3)) w.b3 (put (wrapped (at + 2)) w.b2 (put (wrapped (at + 1)) w.b1 (put (wrapped at) w.b0 (place_in g)))) = rw (x, y) refl in
    rw e (four ∙ sym all ∙ word_part at 4 w (place_in g) (omega (arith, e)))

pub kept_put : (g : Page) (at k : ℕ) (b : Byte) → kept_in (with_put g at b) k ≡ kept_in g k
kept_put g at k b = same_kept g (with_item g.bytes at b) g.low k (length-set g.bytes.items at b)

pub can_be_stored : (g : Page) (hidden : Bool) (at size k : ℕ) → is_plain g hidden at size ≡ true → g.can_write ≡ true → k < size → allows Store (place_in g (at + k)) ≡ true
unfolding place_in
can_be_stored g hidden at size k h w l =
    ap (λ t. allows Store (cond t (Some (place_of g (at + k) (byte_in g (at + k)))) None)) (plain_maps g hidden at size (at + k) h (omega arith) (omega arith)) ∙ w
