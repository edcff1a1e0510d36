-- Accesses of several bytes: judged, kept, stored, loaded and copied one after the other.
use Rattle.std.proofs.Common.{◌≡◌, ℕ, zero, suc, ◌+◌, ◌-◌, ◌/◌, ◌%◌, ◌^◌, ◌<◌, ◌≤◌, ◌&&◌, Bool, true, false, cond, List, [], ◌∷◌, ◌++◌, length, map, take, get_or, Option, Some, None, Result, Ok, Err, arith, refl, sym, ◌∙◌, ap, inl, inr}
use Rattle.std.specs.Result.{OnOk, is_err}
use Rattle.std.proofs.Math.ListN.{set}
use Rattle.std.proofs.lemmas.List.{same_lists, get_or_default, length-take, take_more, take_more_set, take_all, length-take-le, length-map}
use Rattle.std.proofs.lemmas.Bool.{cases_lt, and_parts, false≢true, false_from_ne_true}
use Rattle.x86_values.specs.declared.byte.Byte.{Byte}
use Rattle.x86_values.specs.declared.byte.Byte.TheVariants.{Known, Unspecified}
use Rattle.x86_values.specs.Words.{known_byte, with_number, all_known}
use Rattle.memory.specs.Memory.{Place, Memory, AccessKind, Load, allows, allows_all, wrapped, put, put_all, byte_of, bytes_at}
use Rattle.mem_pages.specs.declared.pages.Pages.{Pages}
use Rattle.mem_pages.specs.Page.{Judges, seen, joined, known_there, ShowsBytes}
use Rattle.mem_pages.specs.Contents.{memory_in, is_kept}
use Rattle.mem_pages.specs.Accesses.{KeepsPages, SameMemory, IsNotAllKept, IsAllKept, IsKept, loaded}
use Rattle.mem_pages.proofs.Shown.{keeps_itself, keeps_then}

-- ---- judged
pub allows_wrapped : (kind : AccessKind) (m : Memory) (a b n : ℕ) → wrapped a ≡ wrapped b → allows_all kind m a n ≡ allows_all kind m b n
unfolding allows_all
allows_wrapped kind m a b zero h = refl
allows_wrapped kind m a b (suc n) h =
    let next : wrapped (a + 1) ≡ wrapped (b + 1) = omega (arith, h) in
    rw (ap (λ x. allows kind (m x)) h, allows_wrapped kind m (a + 1) (b + 1) n next) refl

skip_one : (t u v : Bool) → t ≡ true → u ≡ v → (t && u) ≡ v
skip_one t u v h e = rw h e

pub allows_rest : (kind : AccessKind) (m : Memory) (at part n total : ℕ) → total ≡ part + n → ((k : ℕ) → k < part → allows kind (m (wrapped (at + k))) ≡ true) → allows_all kind m at total ≡ allows_all kind m (at + part) n
unfolding allows_all
allows_rest kind m at zero n total e h = let z : total ≡ n = omega (arith, e) in let y : at + 0 ≡ at = omega arith in rw (z, y) refl
allows_rest kind m at (suc part) n zero e h = absurd (omega (arith, e))
allows_rest kind m at (suc part) n (suc total) e h =
    let first : allows kind (m (wrapped at)) ≡ true = let z : at + 0 ≡ at = omega arith in rw z at (h 0 (omega arith)) in
    let rest : (k : ℕ) → k < part → allows kind (m (wrapped (at + 1 + k))) ≡ true = λ k l. let z : at + 1 + k ≡ at + suc k = omega arith in rw z (h (suc k) (omega arith)) in
    let same : at + 1 + part ≡ at + suc part = omega arith in
    skip_one _ _ _ first (allows_rest kind m (at + 1) part n total (omega (arith, e)) rest ∙ ap (λ x. allows_all kind m x n) same)

pub all_allowed : (kind : AccessKind) (m : Memory) (at n k : ℕ) → allows_all kind m at n ≡ true → k < n → allows kind (m (wrapped (at + k))) ≡ true
unfolding allows_all
all_allowed kind m at zero k h l = absurd (omega arith)
all_allowed kind m at (suc n) zero h l = let z : at + 0 ≡ at = omega arith in rw z (and_parts _ (allows_all kind m (at + 1) n) h).0
all_allowed kind m at (suc n) (suc k) h l = let z : at + 1 + k ≡ at + suc k = omega arith in rw z at (all_allowed kind m (at + 1) n k (and_parts (allows kind (m (wrapped at))) (allows_all kind m (at + 1) n) h).1 (omega arith))

pub not_all_allowed : (kind : AccessKind) (m : Memory) (at n k : ℕ) → k < n → allows kind (m (wrapped (at + k))) ≡ false → allows_all kind m at n ≡ false
not_all_allowed kind m at n k l f = false_from_ne_true _ (λ t. false≢true (sym f ∙ all_allowed kind m at n k t l))

pub part_allowed : (r : Bool) (kind : AccessKind) (m : Memory) (at part left : ℕ) → r ≡ true → at < 2 ^ 32 → at % 4096 + part ≤ 4096 → part ≤ left → Judges r kind m at part → allows_all kind m at left ≡ allows_all kind m (wrapped (at + part)) (left - part)
part_allowed false kind m at part left e b p l h = absurd (false≢true e)
part_allowed true kind m at part left e b p l h =
    allows_rest kind m at part (left - part) left (omega arith) (λ k x. let z : wrapped (at + k) ≡ at + k = omega arith in rw z (h k x))
    ∙ allows_wrapped kind m (at + part) (wrapped (at + part)) (left - part) (omega arith)

pub part_refused : (r : Bool) (kind : AccessKind) (m : Memory) (at part left : ℕ) → r ≡ false → at < 2 ^ 32 → at % 4096 + part ≤ 4096 → part ≤ left → Judges r kind m at part → allows_all kind m at left ≡ false
part_refused true kind m at part left e b p l h = absurd (false≢true (sym e))
part_refused false kind m at part left e b p l h =
    let less = h.1 in
    let z : wrapped (at + h.0) ≡ at + h.0 = omega (arith, less) in
    not_all_allowed kind m at left h.0 (omega (arith, less)) (rw z h.2)

pub none_left : (kind : AccessKind) (m : Memory) (at left : ℕ) → left ≤ 0 → allows_all kind m at left ≡ true
unfolding allows_all
none_left kind m at zero l = refl
none_left kind m at (suc n) l = absurd (omega arith)

-- ---- kept
-- the pages of the addresses of a range up to `done` are kept
pub record IsKeptTo (at done count next : ℕ) (p q : Pages) : Type 0 where
  pub within : done ≤ count
  pub next_is : next ≡ wrapped (at + done)
  pub same : SameMemory p q
  pub keeps : KeepsPages p q
  pub kept : IsKept at done p q

pub none_kept : (at count : ℕ) (p : Pages) → at < 2 ^ 32 → IsKeptTo at 0 count at p p
none_kept at count p l = record {
  within = omega arith;
  next_is = omega arith;
  same = record { memory = refl };
  keeps = keeps_itself p;
  kept = λ k x. absurd (omega arith);
}

allows_same : (p q : Pages) (a : ℕ) → memory_in q ≡ memory_in p → allows Load (memory_in p a) ≡ true → allows Load (memory_in q a) ≡ true
allows_same p q a e h = ap (λ m. allows Load (m a)) e ∙ h

pub more_kept : (at done part count next after : ℕ) (p q r : Pages) → part ≤ count - done → done < count → next % 4096 + part ≤ 4096 → after ≡ wrapped (next + part) → SameMemory q r → KeepsPages q r → ((a : ℕ) → a / 4096 ≡ next / 4096 → allows Load (memory_in q a) ≡ true → is_kept r a ≡ true) → IsKeptTo at done count next p q → IsKeptTo at (done + part) count after p r
more_kept at done part count next after p q r l less in_page e same keeps kept h =
    let n = h.next_is in
    record {
      within = omega arith;
      next_is = omega (arith, e, n);
      same = record { memory = same.memory ∙ h.same.memory };
      keeps = keeps_then p q r h.keeps keeps;
      kept = λ k x y. elim (cases_lt k done) as (λ _. is_kept r (wrapped (at + k)) ≡ true) [
        | inl z ↦ keeps.kept _ (h.kept k z y)
        | inr z ↦ kept (wrapped (at + k)) (omega (arith, n)) (allows_same p q (wrapped (at + k)) h.same.memory y)
      ];
    }

pub all_kept_to : (at done count next : ℕ) (p q : Pages) → count ≤ done → IsKeptTo at done count next p q → IsKept at count p q
all_kept_to at done count next p q l h = λ k x. h.kept k (omega arith)

pub not_all_kept : (at done count next : ℕ) (p q : Pages) → done < count → is_kept q next ≡ false → IsKeptTo at done count next p q → IsNotAllKept at count p
not_all_kept at done count next p q l missing h = record {
  offset = done;
  within = l;
  not_kept = false_from_ne_true _ (λ t. false≢true (sym missing ∙ ap (is_kept q) h.next_is ∙ h.keeps.kept (wrapped (at + done)) t));
}

-- ---- stored
-- the first of some bytes were stored
pub record IsPutTo (at k : ℕ) (bs : List Byte) (p q : Pages) : Type 0 where
  pub memory : memory_in q ≡ put_all at (take k bs) (memory_in p)
  pub keeps : KeepsPages p q

pub none_put : (at : ℕ) (bs : List Byte) (p : Pages) → IsPutTo at 0 bs p p
unfolding put_all
none_put at bs p = record { memory = refl; keeps = keeps_itself p }

put_all_push : (at : ℕ) (bs : List Byte) (b : Byte) (m : Memory) → put_all at (bs ++ b ∷ []) m ≡ put (wrapped (at + length bs)) b (put_all at bs m)
unfolding put_all
put_all_push at [] b m = let z : at + 0 ≡ at = omega arith in rw z refl
put_all_push at (c ∷ bs) b m = let z : at + suc (length bs) ≡ at + 1 + length bs = omega arith in rw z (put_all_push (at + 1) bs b (put (wrapped at) c m))

pub more_put : (at k : ℕ) (bs : List Byte) (b d : Byte) (there : ℕ) (p q r : Pages) → k < length bs → b ≡ get_or bs k d → there ≡ wrapped (at + k) → memory_in r ≡ put there b (memory_in q) → KeepsPages q r → IsPutTo at k bs p q → IsPutTo at (k + 1) bs p r
more_put at k bs b d there p q r l e t m keeps h = record {
  memory =
      let len : length (take k bs) ≡ k = length-take-le k bs (omega arith) in
      let pushed : put_all at (take (k + 1) bs) (memory_in p) ≡ put (wrapped (at + k)) b (put_all at (take k bs) (memory_in p)) =
      ap (λ x. put_all at x (memory_in p)) (take_more bs k d l) ∙ put_all_push at (take k bs) (get_or bs k d) (memory_in p) ∙ rw (len, ← e) refl in
      m ∙ rw (t, h.memory) (sym pushed);
  keeps = keeps_then p q r h.keeps keeps;
}

pub all_put : (at k : ℕ) (bs : List Byte) (p q : Pages) → length bs ≤ k → IsPutTo at k bs p q → memory_in q ≡ put_all at bs (memory_in p)
all_put at k bs p q l h = h.memory ∙ ap (λ x. put_all at x (memory_in p)) (take_all k bs l)

get_or_map : (bs : List ℕ) (k : ℕ) → k < length bs → Known (get_or bs k 0) ≡ get_or (map Known bs) k Unspecified
get_or_map [] k l = absurd (omega arith)
get_or_map (b ∷ bs) zero l = refl
get_or_map (b ∷ bs) (suc k) l = get_or_map bs k (omega arith)

pub more_known : (at k : ℕ) (bs : List ℕ) (there : ℕ) (p q r : Pages) → k < length bs → there ≡ wrapped (at + k) → memory_in r ≡ put there (Known (get_or bs k 0)) (memory_in q) → KeepsPages q r → IsPutTo at k (map Known bs) p q → IsPutTo at (k + 1) (map Known bs) p r
more_known at k bs there p q r l t m keeps h = more_put at k (map Known bs) _ Unspecified there p q r (omega (arith, length-map bs Known)) (get_or_map bs k l) t m keeps h

-- ---- loaded
four : (o p q r : Option Place) → joined (seen o) (seen p) (seen q) (seen r) ≡ cond (allows Load o && (allows Load p && (allows Load q && (allows Load r && true)))) (Some (record { b0 = byte_of o; b1 = byte_of p; b2 = byte_of q; b3 = byte_of r })) None
four None p q r = refl
four (Some o) None q r = refl
four (Some o) (Some p) None r = refl
four (Some o) (Some p) (Some q) None = refl
four (Some o) (Some p) (Some q) (Some r) = refl

two : (o p : Option Place) → joined (seen o) (seen p) (Some (Known 0)) (Some (Known 0)) ≡ cond (allows Load o && (allows Load p && true)) (Some (record { b0 = byte_of o; b1 = byte_of p; b2 = Known 0; b3 = Known 0 })) None
two None p = refl
two (Some o) None = refl
two (Some o) (Some p) = refl

one : (o : Option Place) → joined (seen o) (Some (Known 0)) (Some (Known 0)) (Some (Known 0)) ≡ cond (allows Load o && true) (Some (record { b0 = byte_of o; b1 = Known 0; b2 = Known 0; b3 = Known 0 })) None
one None = refl
one (Some o) = refl

pub loads_one : (m : Memory) (at : ℕ) → joined (seen (m (wrapped at))) (Some (Known 0)) (Some (Known 0)) (Some (Known 0)) ≡ loaded m at 1
unfolding allows_all bytes_at
loads_one m at = one (m (wrapped at))

pub loads_two : (m : Memory) (at : ℕ) → joined (seen (m (wrapped at))) (seen (m (wrapped (at + 1)))) (Some (Known 0)) (Some (Known 0)) ≡ loaded m at 2
unfolding allows_all bytes_at
loads_two m at = two (m (wrapped at)) (m (wrapped (at + 1)))

pub loads_four : (m : Memory) (at : ℕ) → joined (seen (m (wrapped at))) (seen (m (wrapped (at + 1)))) (seen (m (wrapped (at + 2)))) (seen (m (wrapped (at + 3)))) ≡ loaded m at 4
unfolding allows_all bytes_at
loads_four m at =
    let e : at + 2 ≡ at + 1 + 1 = omega arith in
    let f : at + 3 ≡ at + 1 + 1 + 1 = omega arith in
    rw (e, f) (four (m (wrapped at)) (m (wrapped (at + 1))) (m (wrapped (at + 1 + 1))) (m (wrapped (at + 1 + 1 + 1))))

-- ---- copied
pub known_seen : (o : Option Place) → known_there (seen o) ≡ known_byte (byte_of o)
known_seen None = refl
known_seen (Some p) = refl

bytes_push : (m : Memory) (at n : ℕ) → bytes_at m at (n + 1) ≡ bytes_at m at n ++ byte_of (m (wrapped (at + n))) ∷ []
unfolding bytes_at
bytes_push m at zero = let z : at + 0 ≡ at = omega arith in rw z refl
bytes_push m at (suc n) =
    let e : suc n + 1 ≡ suc (n + 1) = omega arith in
    let z : at + suc n ≡ at + 1 + n = omega arith in
    rw (e, z) (ap (λ x. byte_of (m (wrapped at)) ∷ x) (bytes_push m (at + 1) n))

-- the number of a byte after those of others
abbrev after : Option (List ℕ) → Option ℕ → Option (List ℕ)
after (Some ns) (Some n) = Some (ns ++ n ∷ [])
after _ _ = None

with_after : (o : Option ℕ) (q : Option (List ℕ)) (n : Option ℕ) → with_number o (after q n) ≡ after (with_number o q) n
with_after None None n = refl
with_after None (Some xs) None = refl
with_after None (Some xs) (Some n) = refl
with_after (Some x) None n = refl
with_after (Some x) (Some xs) None = refl
with_after (Some x) (Some xs) (Some n) = refl

last_number : (n : Option ℕ) → with_number n (Some []) ≡ after (Some []) n
last_number None = refl
last_number (Some n) = refl

all_known_push : (bs : List Byte) (b : Byte) → all_known (bs ++ b ∷ []) ≡ after (all_known bs) (known_byte b)
unfolding all_known
all_known_push [] b = last_number (known_byte b)
all_known_push (c ∷ bs) b = ap (with_number (known_byte c)) (all_known_push bs b) ∙ with_after (known_byte c) (all_known bs) (known_byte b)

no_number : (o : Option ℕ) → with_number o None ≡ None
no_number None = refl
no_number (Some x) = refl

none_then : (o : Option ℕ) (q : Option (List ℕ)) → q ≡ None → with_number o q ≡ None
none_then o q e = ap (with_number o) e ∙ no_number o

none_first : (o : Option ℕ) (q : Option (List ℕ)) → o ≡ None → with_number o q ≡ None
none_first None None e = refl
none_first None (Some ns) e = refl
none_first (Some x) q e = absurd cc

pub not_all_known : (m : Memory) (at n k : ℕ) → k < n → known_byte (byte_of (m (wrapped (at + k)))) ≡ None → all_known (bytes_at m at n) ≡ None
unfolding all_known bytes_at
not_all_known m at zero k l e = absurd (omega arith)
not_all_known m at (suc n) zero l e = let z : at + 0 ≡ at = omega arith in none_first _ _ (rw z at e)
not_all_known m at (suc n) (suc k) l e = let z : at + suc k ≡ at + 1 + k = omega arith in none_then _ _ (not_all_known m (at + 1) n k (omega arith) (rw z at e))

pub none_copied : (m : Memory) (at : ℕ) (to : List ℕ) → all_known (bytes_at m at 0) ≡ Some (take 0 to)
unfolding all_known bytes_at
none_copied m at to = refl

pub more_copied : (m : Memory) (at k : ℕ) (to : List ℕ) (n : ℕ) → k < length to → Some n ≡ known_byte (byte_of (m (wrapped (at + k)))) → all_known (bytes_at m at k) ≡ Some (take k to) → all_known (bytes_at m at (k + 1)) ≡ Some (take (k + 1) (set to k n))
more_copied m at k to n l e h =
    ap all_known (bytes_push m at k) ∙ all_known_push (bytes_at m at k) (byte_of (m (wrapped (at + k)))) ∙ rw (h, ← e, take_more_set to k n l) refl

pub all_copied : (m : Memory) (at k n : ℕ) (to : List ℕ) → k ≡ n → n ≡ length to → all_known (bytes_at m at k) ≡ Some (take k to) → all_known (bytes_at m at n) ≡ Some to
all_copied m at k n to e f h = rw (← e) (h ∙ ap Some (take_all k to (omega (arith, e, f))))

pub byte_there : (m : Memory) (at k : ℕ) (b : Option Byte) (a : ℕ) → a ≡ wrapped (at + wrapped k) → b ≡ seen (m a) → known_there b ≡ known_byte (byte_of (m (wrapped (at + k))))
byte_there m at k b a e h =
    let s : a ≡ wrapped (at + k) = omega (arith, e) in
    ap known_there h ∙ known_seen (m a) ∙ ap (λ x. known_byte (byte_of (m x))) s

-- ---- what is known of a range that is kept
pub kept_range : {A E : Type 0} (r : Result A E) (at n count : ℕ) (p q : Pages) → is_err r ≡ false → n ≤ count → allows_all Load (memory_in p) at count ≡ true → OnOk r (IsKept at count p q) → IsAllKept at n q
kept_range (Err x) at n count p q e l h k = absurd (false≢true (sym e))
kept_range (Ok x) at n count p q e l h k = record { kept = λ j m. k j (omega arith) (all_allowed Load (memory_in p) at count j h (omega arith)) }

pub byte_here : (m : Memory) (at : ℕ) (b : Option Byte) → at < 2 ^ 32 → b ≡ seen (m at) → b ≡ seen (m (wrapped at))
byte_here m at b l h = let z : wrapped at ≡ at = omega arith in rw z h

pub joins : {o p q r s t u v : Option Byte} → o ≡ s → p ≡ t → q ≡ u → r ≡ v → joined o p q r ≡ joined s t u v
joins a b c d = rw (a, b, c, d) refl

pub take_short : (n : ℕ) (bs : List Byte) → length (take n bs) ≤ n
take_short n bs = omega (arith, length-take n bs)

-- ---- lent
length-bytes_at : (m : Memory) (at n : ℕ) → length (bytes_at m at n) ≡ n
unfolding bytes_at
length-bytes_at m at zero = refl
length-bytes_at m at (suc n) = let h = length-bytes_at m (at + 1) n in omega (arith, h)

get_or-bytes_at : (m : Memory) (at n k : ℕ) (d : Byte) → k < n → get_or (bytes_at m at n) k d ≡ byte_of (m (wrapped (at + k)))
unfolding bytes_at
get_or-bytes_at m at zero k d l = absurd (omega arith)
get_or-bytes_at m at (suc n) zero d l = let z : at + 0 ≡ at = omega arith in rw z refl
get_or-bytes_at m at (suc n) (suc k) d l = let z : at + suc k ≡ at + 1 + k = omega arith in rw z (get_or-bytes_at m (at + 1) n k d (omega arith))

pub bytes_shown : (m : Memory) (at count : ℕ) (bytes : List Byte) → at < 2 ^ 32 → at % 4096 + count ≤ 4096 → allows_all Load m at count ≡ true → ShowsBytes m at count bytes → bytes ≡ bytes_at m at count
bytes_shown m at count bytes b l all h = same_lists bytes (bytes_at m at count) (h.len ∙ sym (length-bytes_at m at count)) (λ k d less.
    let n : k < count = omega (arith, h.len) in
    let z : wrapped (at + k) ≡ at + k = omega arith in
    let a : allows Load (m (at + k)) ≡ true = rw z at (all_allowed Load m at count k all n) in
    get_or_default bytes k d Unspecified less ∙ sym (h.shown k n a) ∙ sym (get_or-bytes_at m at count k d n ∙ ap (λ x. byte_of (m x)) z))

pub nothing_at : (m : Memory) (at : ℕ) → (allows_all Load m at 0 ≡ true) × ([] ≡ bytes_at m at 0)
unfolding allows_all bytes_at
nothing_at m at = (refl, refl)
