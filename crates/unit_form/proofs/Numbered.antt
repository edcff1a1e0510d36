-- Blocks that are numbered in order.
use Rattle.std.proofs.Common.{◌≡◌, ℕ, zero, suc, ◌+◌, ◌<◌, ◌≤◌, ◌&&◌, Bool, true, false, List, [], ◌∷◌, length, drop, get_or, Some, None, refl, subst, ◌∙◌, add-one, arith}
use Rattle.std.specs.Prelude.{◌↔◌, ◌==◌, slice_get}
use Rattle.std.proofs.lemmas.Bool.{eqb-true, eq-eqb, and_parts, and_from}
use Rattle.flag_ir.specs.declared.block.Block.{Block}
use Rattle.unit_form.specs.Fits.{numbered_from}

abbrev pub AreNumberedFrom : ℕ → List Block → Type 0
AreNumberedFrom n blocks = (k : ℕ) (b : Block) → slice_get blocks k ≡ Some b → b.number ≡ n + k

some_same : {A : Type 0} (x y : A) → Some x ≡ Some y → x ≡ y
some_same x y e = cc

none_some : (b : Block) → None ≡ Some b → ⊥
none_some b e = grind arith

from_test : (n : ℕ) (blocks : List Block) → numbered_from n blocks ≡ true → AreNumberedFrom n blocks
from_test n [] e k b h = absurd (none_some b h)
from_test n (d ∷ ds) e zero b h =
    let first = (and_parts (d.number == n) (numbered_from (n + 1) ds) e).0 in
    let number : d.number ≡ n = eqb-true d.number n first in
    let same : d ≡ b = some_same d b h in
    subst (λ (x : Block). x.number ≡ n + 0) same (number ∙ omega arith)
from_test n (d ∷ ds) e (suc k) b h =
    let rest = (and_parts (d.number == n) (numbered_from (n + 1) ds) e).1 in
    from_test (n + 1) ds rest k b h ∙ omega arith

to_test : (n : ℕ) (blocks : List Block) → AreNumberedFrom n blocks → numbered_from n blocks ≡ true
to_test n [] are = refl
to_test n (d ∷ ds) are =
    and_from (d.number == n) (numbered_from (n + 1) ds)
    (eq-eqb d.number n (are 0 d refl ∙ omega arith))
    (to_test (n + 1) ds (λ k b h. are (suc k) b h ∙ omega arith))

pub numbered_exact : (blocks : List Block) → (numbered_from 0 blocks ≡ true) ↔ ((k : ℕ) (b : Block) → slice_get blocks k ≡ Some b → b.number ≡ k)
numbered_exact blocks = (λ e k b h. from_test 0 blocks e k b h ∙ omega arith, λ are. to_test 0 blocks (λ k b h. are k b h ∙ omega arith))

pub none_left : (n : ℕ) (blocks : List Block) (i : ℕ) → length blocks ≤ i → numbered_from n (drop i blocks) ≡ true
none_left n [] zero h = refl
none_left n [] (suc i) h = refl
none_left n (b ∷ bs) zero h = absurd (omega (arith, h))
none_left n (b ∷ bs) (suc i) h = none_left n bs i (omega (arith, h))

more_left : (n : ℕ) (blocks : List Block) (i : ℕ) (d : Block) → i < length blocks → numbered_from n (drop i blocks) ≡ ((get_or blocks i d).number == n && numbered_from (n + 1) (drop (suc i) blocks))
more_left n [] i d h = absurd (omega (arith, h))
more_left n (b ∷ bs) zero d h = refl
more_left n (b ∷ bs) (suc i) d h = more_left n bs i d (omega (arith, h))

-- one more block of what is left
pub numbered_more : (n : ℕ) (blocks : List Block) (i : ℕ) (d : Block) → i < length blocks → numbered_from n (drop i blocks) ≡ ((get_or blocks i d).number == n && numbered_from (n + 1) (drop (i + 1) blocks))
numbered_more n blocks i d h = rw (add-one i) (more_left n blocks i d h)
