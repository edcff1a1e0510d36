-- The order of lists of bytes, and the least of several.
use Rattle.std.proofs.Common.{◌≡◌, ℕ, ◌<◌, ◌≤◌, Bool, true, false, ltb, eqb, ◌&&◌, ◌||◌, List, [], ◌∷◌, ◌++◌, length, refl, sym, subst, ◌∙◌, inl, inr, ◌⊎◌, arith, length-append}
use Rattle.std.proofs.lemmas.Bool.{cases_lt, cond_both, lt-ltb, le-ltb, eq-eqb, ltb-true, eqb-true, false≢true, and_parts, or_cases}
use Rattle.x86_grammar.specs.declared.row.Form.{Form}
use Rattle.x86_grammar.specs.Forms.{In}
use Rattle.x86_encode.specs.Order.{BeforeByBytes, Before}
use Rattle.x86_encode.specs.BestForm.{form_best}
use Rattle.x86_encode.specs.Choice.{comes_before_by_bytes, comes_before, lesser, picks}

-- before it, or its front
abbrev pub ByBytes : List ℕ → List ℕ → Type 0
ByBytes [] b = Unit {0}
ByBytes (x ∷ a) [] = ⊥
ByBytes (x ∷ a) (y ∷ b) = (x < y) ⊎ ((x ≡ y) × ByBytes a b)

abbrev pub NotAfter : List ℕ → List ℕ → Type 0
NotAfter a b = (length a < length b) ⊎ ((length a ≡ length b) × ByBytes a b)

pub ByBytes-refl : (a : List ℕ) → ByBytes a a
ByBytes-refl [] = tt
ByBytes-refl (x ∷ a) = inr (refl, ByBytes-refl a)

ByBytes-trans : (a b c : List ℕ) → ByBytes a b → ByBytes b c → ByBytes a c
ByBytes-trans [] b c p q = tt
ByBytes-trans (x ∷ a) [] c p q = absurd p
ByBytes-trans (x ∷ a) (y ∷ b) [] p q = absurd q
ByBytes-trans (x ∷ a) (y ∷ b) (z ∷ c) (inl p) (inl q) = inl (omega arith)
ByBytes-trans (x ∷ a) (y ∷ b) (z ∷ c) (inl p) (inr q) = inl (let e = q.0 in omega arith)
ByBytes-trans (x ∷ a) (y ∷ b) (z ∷ c) (inr p) (inl q) = inl (let e = p.0 in omega arith)
ByBytes-trans (x ∷ a) (y ∷ b) (z ∷ c) (inr p) (inr q) = inr (p.0 ∙ q.0, ByBytes-trans a b c p.1 q.1)

pub NotAfter-refl : (a : List ℕ) → NotAfter a a
NotAfter-refl a = inr (refl, ByBytes-refl a)

pub NotAfter-trans : (a b c : List ℕ) → NotAfter a b → NotAfter b c → NotAfter a c
NotAfter-trans a b c (inl p) (inl q) = inl (omega arith)
NotAfter-trans a b c (inl p) (inr q) = inl (let e = q.0 in omega arith)
NotAfter-trans a b c (inr p) (inl q) = inl (let e = p.0 in omega arith)
NotAfter-trans a b c (inr p) (inr q) = inr (p.0 ∙ q.0, ByBytes-trans a b c p.1 q.1)

ByBytes-both : (a b x y : List ℕ) → length a ≡ length b → ByBytes a b → ByBytes x y → ByBytes (a ++ x) (b ++ y)
ByBytes-both [] [] x y e h k = k
ByBytes-both [] (z ∷ b) x y e h k = absurd cc
ByBytes-both (w ∷ a) [] x y e h k = absurd h
ByBytes-both (w ∷ a) (z ∷ b) x y e (inl h) k = inl h
ByBytes-both (w ∷ a) (z ∷ b) x y e (inr h) k = inr (h.0, ByBytes-both a b x y (omega arith) h.1 k)

pub no_longer : (a b : List ℕ) → NotAfter a b → length a ≤ length b
no_longer a b (inl h) = omega arith
no_longer a b (inr h) = let e = h.0 in omega arith

-- parts that are best make a whole that is best
pub NotAfter-both : (a b x y : List ℕ) → NotAfter a b → NotAfter x y → NotAfter (a ++ x) (b ++ y)
NotAfter-both a b x y (inl h) k = let l = no_longer x y k in inl (simp length-append (omega arith))
NotAfter-both a b x y (inr h) (inl k) = inl (simp length-append (let e = h.0 in omega arith))
NotAfter-both a b x y (inr h) (inr k) = inr (simp length-append (let e = h.0 in let f = k.0 in omega arith), ByBytes-both a b x y h.0 h.1 k.1)

-- its test
abbrev pub not_after_bytes : List ℕ → List ℕ → Bool
not_after_bytes [] b = true
not_after_bytes (x ∷ a) [] = false
not_after_bytes (x ∷ a) (y ∷ b) = ltb x y || (eqb x y && not_after_bytes a b)

-- ---- not after, against the same or before

cons_cases : (x y : ℕ) (a b : List ℕ) → x ≡ y → (a ≡ b) ⊎ BeforeByBytes a b → ((x ∷ a) ≡ (y ∷ b)) ⊎ BeforeByBytes (x ∷ a) (y ∷ b)
cons_cases x y a b e (inl h) = inl (rw (e, h) refl)
cons_cases x y a b e (inr h) = inr (inr (e, h))

bytes_cases : (a b : List ℕ) → length a ≡ length b → ByBytes a b → (a ≡ b) ⊎ BeforeByBytes a b
bytes_cases [] [] e h = inl refl
bytes_cases [] (y ∷ b) e h = absurd cc
bytes_cases (x ∷ a) [] e h = absurd h
bytes_cases (x ∷ a) (y ∷ b) e (inl h) = inr (inl h)
bytes_cases (x ∷ a) (y ∷ b) e (inr h) = cons_cases x y a b h.0 (bytes_cases a b (omega arith) h.1)

as_long : (a b : List ℕ) → length a ≡ length b → (a ≡ b) ⊎ BeforeByBytes a b → (a ≡ b) ⊎ Before a b
as_long a b e (inl h) = inl h
as_long a b e (inr h) = inr (inr (e, h))

pub same_or_before : (a b : List ℕ) → NotAfter a b → (a ≡ b) ⊎ Before a b
same_or_before a b (inl h) = inr (inl h)
same_or_before a b (inr h) = as_long a b h.0 (bytes_cases a b h.0 h.1)

-- ---- the test

pub not_after_true : (a b : List ℕ) → not_after_bytes a b ≡ true → ByBytes a b
not_after_true [] b h = tt
not_after_true (x ∷ a) [] h = absurd (false≢true h)
not_after_true (x ∷ a) (y ∷ b) h =
    elim (or_cases (ltb x y) (eqb x y && not_after_bytes a b) h) [
      | inl l ↦ inl (ltb-true x y l)
      | inr r ↦ inr (eqb-true x y (and_parts (eqb x y) (not_after_bytes a b) r).0, not_after_true a b (and_parts (eqb x y) (not_after_bytes a b) r).1)
    ]

bytes_true : (a b : List ℕ) → comes_before_by_bytes a b ≡ true → ByBytes a b
bytes_true [] b h = tt
bytes_true (x ∷ a) [] h = absurd (false≢true h)
bytes_true (x ∷ a) (y ∷ b) h =
    elim (or_cases (ltb x y) (eqb x y && comes_before_by_bytes a b) h) [
      | inl l ↦ inl (ltb-true x y l)
      | inr r ↦ inr (eqb-true x y (and_parts (eqb x y) (comes_before_by_bytes a b) r).0, bytes_true a b (and_parts (eqb x y) (comes_before_by_bytes a b) r).1)
    ]

bytes_false : (a b : List ℕ) → length a ≡ length b → comes_before_by_bytes a b ≡ false → ByBytes b a
bytes_false [] [] e h = tt
bytes_false [] (y ∷ b) e h = absurd cc
bytes_false (x ∷ a) [] e h = absurd cc
bytes_false (x ∷ a) (y ∷ b) e h =
    elim (cases_lt y x) [
      | inl lt ↦ inl lt
      | inr le ↦ elim (cases_lt x y) [
        | inl lt ↦ absurd (false≢true (sym h ∙ rw (lt-ltb x y lt) refl))
        | inr ge ↦ let s : x ≡ y = omega arith in inr (sym s, bytes_false a b (omega arith) (rw (le-ltb x y ge, eq-eqb x y s) at h))
      ]
    ]

before_true : (a b : List ℕ) → comes_before a b ≡ true → NotAfter a b
before_true a b h =
    elim (or_cases (ltb (length a) (length b)) (eqb (length a) (length b) && comes_before_by_bytes a b) h) [
      | inl l ↦ inl (ltb-true _ _ l)
      | inr r ↦ inr (eqb-true _ _ (and_parts (eqb (length a) (length b)) (comes_before_by_bytes a b) r).0, bytes_true a b (and_parts (eqb (length a) (length b)) (comes_before_by_bytes a b) r).1)
    ]

before_false : (a b : List ℕ) → comes_before a b ≡ false → NotAfter b a
before_false a b h =
    elim (cases_lt (length b) (length a)) [
      | inl lt ↦ inl lt
      | inr le ↦ elim (cases_lt (length a) (length b)) [
        | inl lt ↦ absurd (false≢true (sym h ∙ rw (lt-ltb _ _ lt) refl))
        | inr ge ↦ let s : length a ≡ length b = omega arith in inr (sym s, bytes_false a b s (rw (le-ltb _ _ ge, eq-eqb _ _ s) at h))
      ]
    ]

lesser_both : (a b : List ℕ) → NotAfter (lesser a b) a × NotAfter (lesser a b) b
lesser_both a b = cond_both (comes_before b a) b a (λ x. NotAfter x a × NotAfter x b) (λ e. (before_true b a e, NotAfter-refl b)) (λ e. (NotAfter-refl a, before_false b a e))

-- ---- the least of several

pub picks_first : (a : List ℕ) (fs : List Form) → NotAfter (picks a fs) a
picks_first a [] = NotAfter-refl a
picks_first a (f ∷ fs) = NotAfter-trans _ (lesser a (form_best f)) a (picks_first (lesser a (form_best f)) fs) (lesser_both a (form_best f)).0

pub picks_least : (a : List ℕ) (f : Form) (fs : List Form) → In f fs → NotAfter (picks a fs) (form_best f)
picks_least a f [] h = absurd h
picks_least a f (g ∷ fs) (inl h) = subst (λ (x : Form). NotAfter (picks a (g ∷ fs)) (form_best x)) (sym h) (NotAfter-trans _ (lesser a (form_best g)) _ (picks_first (lesser a (form_best g)) fs) (lesser_both a (form_best g)).1)
picks_least a f (g ∷ fs) (inr h) = picks_least (lesser a (form_best g)) f fs h

-- one of them, with its form
pub record Picked (t : List ℕ) (fs : List Form) : Type 0 where
  pub form : Form
  pub among : In form fs
  pub is : t ≡ form_best form

picked_later : (t : List ℕ) (f : Form) (fs : List Form) → Picked t fs → Picked t (f ∷ fs)
picked_later t f fs p = record { form = p.form; among = inr p.among; is = p.is }

lesser_is : (a b : List ℕ) → (lesser a b ≡ a) ⊎ (lesser a b ≡ b)
lesser_is a b = cond_both (comes_before b a) b a (λ x. (x ≡ a) ⊎ (x ≡ b)) (λ e. inr refl) (λ e. inl refl)

pub picks_one : (a : List ℕ) (fs : List Form) → (picks a fs ≡ a) ⊎ Picked (picks a fs) fs
picks_one a [] = inl refl
picks_one a (f ∷ fs) =
    elim (picks_one (lesser a (form_best f)) fs) [
      | inr p ↦ inr (picked_later _ f fs p)
      | inl e ↦ elim (lesser_is a (form_best f)) [
        | inl q ↦ inl (e ∙ q)
        | inr q ↦ inr (record { form = f; among = inl refl; is = e ∙ q })
      ]
    ]

-- forms that are picked one behind the other
pub joined : (a : List ℕ) (fs gs : List Form) → picks a (fs ++ gs) ≡ picks (picks a fs) gs
joined a [] gs = refl
joined a (f ∷ fs) gs = joined (lesser a (form_best f)) fs gs
