-- The straight list from the first place has one end.
use Rattle.std.proofs.Common.{◌≡◌, ℕ, ◌+◌, List, refl, sym, ◌∙◌, subst}
use Rattle.rewrite_core.specs.declared.places.Judgement.TheVariants.{GoesOn, Jumps, Ends}
use Rattle.rewrite_core.specs.Places.{judged_at, Straight, first_of, then_on}

-- a straight list from one place to another
data To (page : List ℕ) : ℕ → ℕ → Type 0 where
  here : {a : ℕ} → To page a a
  there : {a b : ℕ} → (len : ℕ) → judged_at page a ≡ GoesOn len → To page (a + len) b → To page a b

abbrev IsEnd : List ℕ → ℕ → Type 0
IsEnd page p = (len : ℕ) → judged_at page p ≡ GoesOn len → ⊥

one_more : (page : List ℕ) (a b len : ℕ) → To page a b → judged_at page b ≡ GoesOn len → To page a (b + len)
one_more page _ _ len here e = there len e here
one_more page a b len (there n f r) e = there n f (one_more page (a + n) b len r e)

from_first : (page : List ℕ) (n : ℕ) → Straight page n → To page 0 n
from_first page _ first_of = here
from_first page _ (then_on {p} len s e) = one_more page 0 p len (from_first page p s) e

same_len : (m n : ℕ) → GoesOn m ≡ GoesOn n → m ≡ n
same_len m n e = cc

step_off : (page : List ℕ) (a b len : ℕ) → To page a b → judged_at page a ≡ GoesOn len → IsEnd page b → To page (a + len) b
step_off page _ b len here e h = absurd (h len e)
step_off page a b len (there n f r) e h = let P : ℕ → Type 0 = λ k. To page (a + k) b in subst P (same_len n len (sym f ∙ e)) r

onwards : (page : List ℕ) (m n : ℕ) → Straight page m → Straight page n → IsEnd page n → To page m n
onwards page _ n first_of s h = from_first page n s
onwards page _ n (then_on {p} len r e) s h = step_off page p n len (onwards page p n r s h) e h

ends_there : (page : List ℕ) (a b : ℕ) → To page a b → IsEnd page a → a ≡ b
ends_there page _ _ here h = refl
ends_there page a b (there n f r) h = absurd (h n f)

pub one_end : (page : List ℕ) (m n : ℕ) → Straight page m → Straight page n → IsEnd page m → IsEnd page n → m ≡ n
one_end page m n r s g h = ends_there page m n (onwards page m n r s h) g

pub ends_is_end : (page : List ℕ) (p : ℕ) → judged_at page p ≡ Ends → IsEnd page p
ends_is_end page p e = λ len f. let z : Ends ≡ GoesOn len = sym e ∙ f in cc

pub jumps_is_end : (page : List ℕ) (p to : ℕ) → judged_at page p ≡ Jumps to → IsEnd page p
jumps_is_end page p to e = λ len f. let z : Jumps to ≡ GoesOn len = sym e ∙ f in cc
