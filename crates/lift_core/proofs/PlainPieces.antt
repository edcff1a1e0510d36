-- The pieces that read and write operands are plain and short.
use Rattle.std.proofs.Common.{◌≡◌, ℕ, zero, suc, Bool, true, ltb, Option, Some, None, refl, arith}
use Rattle.x86_types.specs.declared.operand.Reg.{Reg}
use Rattle.x86_types.specs.declared.operand.Reg.TheVariants as register
use Rattle.x86_types.specs.declared.operand.Address.{Address}
use Rattle.x86_types.specs.declared.operand.Rm.{Rm}
use Rattle.x86_types.specs.declared.operand.Rm.TheVariants as rm
use Rattle.x86_types.specs.declared.operand.Src.{Src}
use Rattle.x86_types.specs.declared.operand.Src.TheVariants as src
use Rattle.x86_types.specs.declared.operation.Count.{Count}
use Rattle.x86_types.specs.declared.operation.Count.TheVariants as count
use Rattle.x86_types.specs.declared.width.Width.{Width}
use Rattle.x86_types.specs.declared.width.Width.TheVariants.{One, Two, Four}
use Rattle.x86_types.specs.Numbers.{number_of_reg, size_of}
use Rattle.x86_types.specs.Registers.{byte_register}
use Rattle.lift_core.specs.declared.operand.Operand.{Operand}
use Rattle.lift_core.specs.declared.operand.Operand.TheVariants as operand
use Rattle.lift_core.specs.Pieces.{sum_ops, address_ops, read_ops, write_ops, field_operand, target_ops, target, source_ops}
use Rattle.lift_core.specs.Lists.{upper_operand, count_of}
use Rattle.lift_core.proofs.Plain.{is_term, is_size, IsShort, short_append, shorter}

reg_plain : (r : Reg) → ltb (number_of_reg r) 8 ≡ true
reg_plain register.Eax = refl
reg_plain register.Ecx = refl
reg_plain register.Edx = refl
reg_plain register.Ebx = refl
reg_plain register.Esp = refl
reg_plain register.Ebp = refl
reg_plain register.Esi = refl
reg_plain register.Edi = refl

pub size_plain : (w : Width) → is_size (size_of w) ≡ true
size_plain One = refl
size_plain Two = refl
size_plain Four = refl

-- ---- addresses
sum_short : (k : ℕ) (b i : Option Reg) (scale disp : ℕ) → IsShort 3 (sum_ops k b i scale disp)
sum_short k None None scale disp = record { plain = refl; length = omega arith }
sum_short k (Some b) None scale disp = record { plain = rw (reg_plain b) refl; length = omega arith }
sum_short k None (Some i) scale disp = record { plain = rw (reg_plain i) refl; length = omega arith }
sum_short k (Some b) (Some i) scale disp = record { plain = rw (reg_plain i, reg_plain b) refl; length = omega arith }

pub address_short : (k : ℕ) (a : Address) → IsShort 3 (address_ops k a)
address_short k a = sum_short k a.base a.index a.scale a.disp

pub target_short : (to : Rm) → IsShort 3 (target_ops to)
target_short (rm.Reg r) = record { plain = refl; length = omega arith }
target_short (rm.Mem a) = address_short 0 a

-- ---- operands
abbrev pub is_operand : Operand → Bool
is_operand (operand.Register p i) = ltb p 8
is_operand (operand.Memory at) = is_term at
is_operand (operand.Constant n) = true

pub field_plain : (w : Width) (r : Reg) → is_operand (field_operand w r) ≡ true
field_plain One r = reg_plain (byte_register r).reg
field_plain Two r = reg_plain r
field_plain Four r = reg_plain r

pub target_plain : (w : Width) (to : Rm) → is_operand (target w to) ≡ true
target_plain w (rm.Reg r) = field_plain w r
target_plain w (rm.Mem a) = refl

pub upper_plain : (w : Width) → is_operand (upper_operand w) ≡ true
upper_plain One = refl
upper_plain Two = refl
upper_plain Four = refl

pub count_plain : (n : Count) → is_operand (count_of n) ≡ true
count_plain (count.Imm n) = refl
count_plain count.Cl = refl

-- ---- reads and writes
pub read_short : (k : ℕ) (w : Width) (o : Operand) → is_operand o ≡ true → IsShort 3 (read_ops k w o)
read_short k One (operand.Register p zero) h = record { plain = rw h refl; length = omega arith }
read_short k One (operand.Register p (suc i)) h = record { plain = rw h refl; length = omega arith }
read_short k Two (operand.Register p i) h = record { plain = rw h refl; length = omega arith }
read_short k Four (operand.Register p i) h = record { plain = rw h refl; length = omega arith }
read_short k w (operand.Memory at) h = record { plain = rw (size_plain w, h) refl; length = omega arith }
read_short k w (operand.Constant n) h = record { plain = refl; length = omega arith }

pub write_short : (k : ℕ) (w : Width) (o : Operand) → is_operand o ≡ true → IsShort 4 (write_ops k w o)
write_short k One (operand.Register p zero) h = record { plain = rw h refl; length = omega arith }
write_short k One (operand.Register p (suc i)) h = record { plain = rw h refl; length = omega arith }
write_short k Two (operand.Register p i) h = record { plain = rw h refl; length = omega arith }
write_short k Four (operand.Register p i) h = record { plain = rw h refl; length = omega arith }
write_short k w (operand.Memory at) h = record { plain = rw (size_plain w, h) refl; length = omega arith }
write_short k w (operand.Constant n) h = record { plain = refl; length = omega arith }

pub source_short : (k : ℕ) (w : Width) (from : Src) → IsShort 4 (source_ops k w from)
source_short k w (src.Reg r) = shorter 3 4 _ (omega arith) (read_short k w (field_operand w r) (field_plain w r))
source_short k w (src.Imm n) = shorter 3 4 _ (omega arith) (read_short k w (operand.Constant n) refl)
source_short k w (src.Mem a) = short_append 3 1 _ _ (address_short k a) (record { plain = rw (size_plain w) refl; length = omega arith })
