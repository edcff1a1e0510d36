-- The numbers and what they name are each other's inverses. The laws of shifts and conditions are clauses of
-- `number_laws` too.
use Rattle.std.proofs.Common.{◌≡◌, ℕ, zero, suc, ◌<◌, ◌≤◌, refl, zero-le}
use Rattle.std.proofs.Math.Nat.{suc-le-suc_iff, not-le_of_lt}
use Rattle.x86_types.specs.Numbers.{number_of_reg, number_of_alu, reg_of, alu_of}
use Rattle.x86_types.specs.declared.operand.Reg.{Reg}
use Rattle.x86_types.specs.declared.operand.Reg.TheVariants as reg
use Rattle.x86_types.specs.declared.operation.AluOp.{AluOp}
use Rattle.x86_types.specs.declared.operation.AluOp.TheVariants as alu

-- a number with eight successors is at least 8
eight : (n : ℕ) → 8 ≤ suc (suc (suc (suc (suc (suc (suc (suc n)))))))
eight n = suc-le-suc_iff.1 (suc-le-suc_iff.1 (suc-le-suc_iff.1 (suc-le-suc_iff.1 (suc-le-suc_iff.1 (suc-le-suc_iff.1 (suc-le-suc_iff.1 (suc-le-suc_iff.1 zero-le)))))))

-- the register of a register's number is that register
pub reg_of-number : (r : Reg) → reg_of (number_of_reg r) ≡ r
reg_of-number r = elim r as (λ r. reg_of (number_of_reg r) ≡ r) [ reg.Eax ↦ refl | _ ↦ refl ]

-- the operation of an operation's number is that operation
pub alu_of-number : (op : AluOp) → alu_of (number_of_alu op) ≡ op
alu_of-number op = elim op as (λ op. alu_of (number_of_alu op) ≡ op) [ alu.Add ↦ refl | _ ↦ refl ]

-- the number of the register of a number below 8 is that number
pub reg_again : (n : ℕ) → n < 8 → number_of_reg (reg_of n) ≡ n
reg_again zero h = refl
reg_again (suc zero) h = refl
reg_again (suc (suc zero)) h = refl
reg_again (suc (suc (suc zero))) h = refl
reg_again (suc (suc (suc (suc zero)))) h = refl
reg_again (suc (suc (suc (suc (suc zero))))) h = refl
reg_again (suc (suc (suc (suc (suc (suc zero)))))) h = refl
reg_again (suc (suc (suc (suc (suc (suc (suc zero))))))) h = refl
reg_again (suc (suc (suc (suc (suc (suc (suc (suc n)))))))) h = absurd (not-le_of_lt h (eight n))

-- the number of the operation of a number below 8 is that number
pub alu_again : (n : ℕ) → n < 8 → number_of_alu (alu_of n) ≡ n
alu_again zero h = refl
alu_again (suc zero) h = refl
alu_again (suc (suc zero)) h = refl
alu_again (suc (suc (suc zero))) h = refl
alu_again (suc (suc (suc (suc zero)))) h = refl
alu_again (suc (suc (suc (suc (suc zero))))) h = refl
alu_again (suc (suc (suc (suc (suc (suc zero)))))) h = refl
alu_again (suc (suc (suc (suc (suc (suc (suc zero))))))) h = refl
alu_again (suc (suc (suc (suc (suc (suc (suc (suc n)))))))) h = absurd (not-le_of_lt h (eight n))
