-- The cores of MUL and IMUL (Intel SDM volume 2, "MUL", "IMUL"): the lower half to temporary 4, the upper one to temporary 5. How they are
-- computed is own.
use Rattle.std.specs.Prelude.{ℕ, Bool, true, false, List, [], ◌∷◌, ◌++◌}
use Rattle.x86_types.specs.declared.width.Width.{Width}
use Rattle.x86_types.specs.declared.width.Width.TheVariants.{One, Two, Four}
use Rattle.flag_ir.specs.declared.variable.Term.{Term}
use Rattle.flag_ir.specs.declared.operation.Calc.{Calc}
use Rattle.flag_ir.specs.declared.operation.Calc.TheVariants as calc
use Rattle.flag_ir.specs.declared.operation.Op.{Op}
use Rattle.lift_values.specs.Terms.{temp, flag, word, to_temp, to_flag, set_flag, mask, width_bits, top}

-- copies of the sign above an operand, up to four bytes, by n bits that it doesn't have
abbrev pub widened : ℕ → ℕ → ℕ → List Op
widened to from n = to_temp to calc.Shl (temp from) (word n) ∷ to_temp to calc.Sar (temp to) (word n) ∷ []

-- both halves of a product that has at most four bytes
abbrev pub narrow_product : Width → Term → Term → List Op
narrow_product w x y =
    to_temp 4 calc.Mul x y ∷ to_temp 5 calc.Shr (temp 4) (word (width_bits w)) ∷
    to_temp 4 calc.And (temp 4) (word (mask w)) ∷ to_temp 5 calc.And (temp 5) (word (mask w)) ∷ []

-- of numbers with a sign, by n bits that they don't have
abbrev pub signed_narrow_product : Width → ℕ → List Op
signed_narrow_product w n = widened 6 1 n ++ widened 7 2 n ++ narrow_product w (temp 6) (temp 7)

abbrev pub wide_product : Calc → List Op
wide_product upper = to_temp 4 calc.Mul (temp 1) (temp 2) ∷ to_temp 5 upper (temp 1) (temp 2) ∷ []

abbrev pub product_halves : Bool → Width → List Op
product_halves false One = narrow_product One (temp 1) (temp 2)
product_halves false Two = narrow_product Two (temp 1) (temp 2)
product_halves false Four = wide_product calc.Mulhu
product_halves true One = signed_narrow_product One 24
product_halves true Two = signed_narrow_product Two 16
product_halves true Four = wide_product calc.Mulhs

-- CF and OF: the upper half isn't 0, or isn't made of copies of the lower half's sign
abbrev pub halves_flags : Bool → Width → List Op
halves_flags false w = to_flag 0 calc.Ltu (word 0) (temp 5) ∷ set_flag 4 (flag 0) ∷ []
halves_flags true w =
    to_temp 6 calc.Shr (temp 4) (word (top w)) ∷ to_temp 6 calc.Sub (word 0) (temp 6) ∷ to_temp 6 calc.And (temp 6) (word (mask w)) ∷
    to_temp 6 calc.Eq (temp 5) (temp 6) ∷ to_flag 0 calc.Xor (temp 6) (word 1) ∷ set_flag 4 (flag 0) ∷ []

abbrev pub mul_core : Bool → Width → List Op
mul_core signed w = product_halves signed w ++ halves_flags signed w

-- the upper half is dropped
abbrev pub imul_core : Width → List Op
imul_core w = mul_core true w
