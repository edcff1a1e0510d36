-- The operations of one byte of a register, by whether it is the lowest.
use Rattle.std.proofs.Common.{◌≡◌, ℕ, zero, suc, [], ◌∷◌, refl}
use Rattle.flag_ir.specs.declared.variable.Term.TheVariants as term
use Rattle.flag_ir.specs.declared.operation.Calc.TheVariants as calc
use Rattle.lift_values.specs.Terms.{temp, to_temp}
use Rattle.lift_core.specs.Pieces.{reg, to_reg, byte_ops, byte_write}

pub first_read : (k p i : ℕ) → i ≡ 0 → byte_ops k p i ≡ to_temp k calc.And (reg p) (term.Word 0xFF) ∷ []
first_read k p zero h = refl
first_read k p (suc i) h = absurd cc

pub second_read : (k p i : ℕ) → (i ≡ 0 → ⊥) → byte_ops k p i ≡ to_temp k calc.And (reg p) (term.Word 0xFF00) ∷ to_temp k calc.Shr (temp k) (term.Word 8) ∷ to_temp k calc.And (temp k) (term.Word 0xFF) ∷ []
second_read k p zero h = absurd (h refl)
second_read k p (suc i) h = refl

pub first_write : (k p i : ℕ) → i ≡ 0 → byte_write k p i ≡ to_temp 2 calc.And (reg p) (term.Word 0xFFFFFF00) ∷ to_reg p calc.Or (temp 2) (temp k) ∷ []
first_write k p zero h = refl
first_write k p (suc i) h = absurd cc

pub second_write : (k p i : ℕ) → (i ≡ 0 → ⊥) → byte_write k p i ≡ to_temp 2 calc.And (reg p) (term.Word 0xFFFF00FF) ∷ to_temp 3 calc.Shl (temp k) (term.Word 8) ∷ to_temp 3 calc.And (temp 3) (term.Word 0xFF00) ∷ to_reg p calc.Or (temp 2) (temp 3) ∷ []
second_write k p zero h = absurd (h refl)
second_write k p (suc i) h = refl
