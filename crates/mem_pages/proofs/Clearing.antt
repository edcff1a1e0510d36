-- Bytes that are made unspecified one after the other, that are written, and that come after those that are kept.
use Rattle.std.proofs.Common.{◌≡◌, ◌==◌, ℕ, zero, suc, inl, inr, min, ◌+◌, ◌<◌, ◌≤◌, ◌&&◌, false, cond, leb, ltb, List, [], ◌∷◌, ◌++◌, length, take, drop, get_or, arith, refl, ap, ◌∙◌}
use Rattle.std.proofs.Math.ListN.{set, length-set, replicate, length-replicate}
use Rattle.std.proofs.lemmas.List.{append-nil, drop_all, get_or-replicate, get_or-set_same, get_or-set_other, get_or_past, take_all}
use Rattle.std.proofs.lemmas.Bool.{cases_eq, cases_lt, eq-eqb, ne_eqb}
use Rattle.std.proofs.lemmas.Bool.Decides.{nat_tests}
use Rattle.x86_values.specs.declared.byte.Byte.{Byte}
use Rattle.x86_values.specs.declared.byte.Byte.TheVariants.{Unspecified}

-- the bytes from `start` up to but not with `at` were made unspecified, and no other
pub record IsCleared (start at : ℕ) (old new : List Byte) : Type 0 where
  pub places : (i : ℕ) → get_or new i Unspecified ≡ cond (leb start i && ltb i at) Unspecified (get_or old i Unspecified)
  pub len : length new ≡ length old

pub get_or_set : (bs : List Byte) (at : ℕ) (b : Byte) (i : ℕ) (d : Byte) → at < length bs → get_or (set bs at b) i d ≡ cond (i == at) b (get_or bs i d)
get_or_set bs at b i d l =
    elim (cases_eq i at) as (λ _. get_or (set bs at b) i d ≡ cond (i == at) b (get_or bs i d)) [
      | inl e ↦ rw (e, eq-eqb at at refl) (get_or-set_same bs at b d l)
      | inr n ↦ rw (ne_eqb i at n) (get_or-set_other bs at i b d n)
    ]

none : (start i : ℕ) → (leb start i && ltb i start) ≡ false
none start i = grind (arith, nat_tests)

pub none_cleared : (start : ℕ) (bs : List Byte) → IsCleared start start bs bs
none_cleared start bs = record { places = λ i. rw (none start i) refl; len = refl }

byte_more : (start at i : ℕ) (x y z : Byte) → start ≤ at → z ≡ cond (i == at) Unspecified y → y ≡ cond (leb start i && ltb i at) Unspecified x → z ≡ cond (leb start i && ltb i (at + 1)) Unspecified x
byte_more start at i x y z l p q = grind (arith, nat_tests)

pub one_more : (start at : ℕ) (old new : List Byte) → start ≤ at → at < length new → IsCleared start at old new → IsCleared start (at + 1) old (set new at Unspecified)
one_more start at old new k l h = record {
  places = λ i. byte_more start at i _ _ _ k (get_or_set new at Unspecified i Unspecified l) (h.places i);
  len = length-set new at Unspecified ∙ h.len;
}

byte_past : (start at end len i : ℕ) (x y : Byte) → start ≤ end → (start ≤ min end len → at ≤ min end len) → min end len ≤ at → (len ≤ i → x ≡ Unspecified) → y ≡ cond (leb start i && ltb i at) Unspecified x → y ≡ cond (leb start i && ltb i end) Unspecified x
byte_past start at end len i x y o a l p q = grind (arith, nat_tests)

-- those past the end are unspecified already
pub all_cleared : (start at end : ℕ) (old new : List Byte) → start ≤ end → (start ≤ min end (length old) → at ≤ min end (length old)) → min end (length old) ≤ at → IsCleared start at old new → (i : ℕ) → get_or new i Unspecified ≡ cond (leb start i && ltb i end) Unspecified (get_or old i Unspecified)
all_cleared start at end old new o a l h i = byte_past start at end (length old) i _ _ o a l (get_or_past old i Unspecified) (h.places i)

replicated : (n i : ℕ) (d : Byte) → get_or (replicate n d) i d ≡ d
replicated n i d = elim (cases_lt i n) as (λ _. get_or (replicate n d) i d ≡ d) [
  | inl l ↦ get_or-replicate n i d d l
  | inr l ↦ get_or_past (replicate n d) i d (omega (arith, length-replicate n d))
]

get_or_more : (bs : List Byte) (n : ℕ) (d : Byte) (i : ℕ) → get_or (bs ++ replicate n d) i d ≡ get_or bs i d
get_or_more [] n d i = replicated n i d
get_or_more (b ∷ bs) n d zero = refl
get_or_more (b ∷ bs) n d (suc i) = get_or_more bs n d i

-- bytes that are added past the end are those that were read there
pub get_or_grown : (bs : List Byte) (m n : ℕ) (d : Byte) (i : ℕ) → length bs ≤ m → get_or (take m bs ++ replicate n d) i d ≡ get_or bs i d
get_or_grown bs m n d i l = rw (take_all m bs l) (get_or_more bs n d i)

-- what a vector holds, whose items were lent whole
pub lent_whole : (n : ℕ) (new old : List Byte) → length new ≡ length old → length old ≤ n → take n (new ++ drop (length new) old) ≡ new
lent_whole n new old e l = ap (λ xs. take n (new ++ xs)) (drop_all (length new) old (omega (arith, e))) ∙ ap (take n) (append-nil new) ∙ take_all n new (omega (arith, e, l))
