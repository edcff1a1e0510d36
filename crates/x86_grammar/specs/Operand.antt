-- ModRM, SIB and the displacement: Intel SDM volume 2, sections 2.1.3 and 2.1.5, tables 2-2 and 2-3.
use Rattle.std.specs.Prelude.{◌≡◌, ℕ, zero, suc, ◌/◌, ◌%◌, ◌^◌, ◌<◌, Bool, true, false, ◌&&◌, if◌then◌else◌, nat_lt, ◌==◌, List, [], ◌∷◌, ◌++◌, Option, Some, None}
use Rattle.x86_types.specs.declared.operand.Reg.{Reg}
use Rattle.x86_types.specs.declared.operand.Address.{Address}
use Rattle.x86_types.specs.declared.operand.Rm.{Rm}
use Rattle.x86_types.specs.declared.operand.Rm.TheVariants as rm
use Rattle.x86_types.specs.declared.width.Width.TheVariants.{Four}
use Rattle.x86_types.specs.Numbers.{reg_of}
use Rattle.byte_lists.specs.LittleEndian.{le}
use Rattle.x86_grammar.specs.Parts.{signed}

-- whether SIB stands behind that ModRM: mod isn't 3, and rm is 4
abbrev pub has_sib : ℕ → Bool
has_sib m = nat_lt m 0xC0 && m % 8 == 4

-- the field that names the base
abbrev pub low_of : ℕ → ℕ → ℕ
low_of m s = if has_sib m then s % 8 else m % 8

-- the bytes of the displacement, by mod and whether the base's field is 5
abbrev pub mod_size : ℕ → Bool → ℕ
mod_size zero true = 4
mod_size zero false = 0
mod_size (suc zero) five = 1
mod_size (suc (suc zero)) five = 4
mod_size (suc (suc (suc n))) five = 0

-- the bytes of the displacement behind that ModRM and SIB
abbrev pub disp_size : ℕ → ℕ → ℕ
disp_size m s = mod_size (m / 64) (low_of m s == 5)

-- the displacement, one byte of it with its sign
abbrev pub disp_of : ℕ → ℕ → ℕ
disp_of (suc zero) d = signed Four d
disp_of _ d = d

-- the base; none where mod is 0 and its field is 5
abbrev pub base_of : ℕ → ℕ → Option Reg
base_of m s = if (m / 64 == 0) && (low_of m s == 5) then None else Some (reg_of (low_of m s))

-- the index where SIB stands; 4 names none
abbrev pub index_in : Bool → ℕ → Option Reg
index_in false x = None
index_in true x = if x == 4 then None else Some (reg_of x)

-- the index
abbrev pub index_of : ℕ → ℕ → Option Reg
index_of m s = index_in (has_sib m) (s / 8 % 8)

-- the scale, by its two bits
abbrev pub scale_in : ℕ → ℕ
scale_in zero = 1
scale_in (suc zero) = 2
scale_in (suc (suc zero)) = 4
scale_in (suc (suc (suc n))) = 8

-- without an index the scale says nothing
abbrev pub scale_of : Option Reg → ℕ → ℕ
scale_of None s = 1
scale_of (Some r) s = scale_in (s / 64)

-- the place in memory that ModRM, SIB and a displacement name
abbrev pub address : ℕ → ℕ → ℕ → Address
address m s d = record { base = base_of m s; index = index_of m s; scale = scale_of (index_of m s) s; disp = disp_of (disp_size m s) d }

-- what ModRM, SIB and a displacement name: a register where mod is 3
abbrev pub rm_of : ℕ → ℕ → ℕ → Rm
rm_of m s d = if nat_lt m 0xC0 then rm.Mem (address m s d) else rm.Reg (reg_of (m % 8))

-- an operand as it is spelled, with 0 for a SIB that isn't there
pub record Operand : Type 0 where
  pub m : ℕ
  pub sib : ℕ
  pub disp : ℕ

-- each part in its range
pub record IsOperand (o : Operand) : Type 0 where
  pub m : o.m < 256
  pub sib : o.sib < 256
  pub none : has_sib o.m ≡ false → o.sib ≡ 0
  pub disp : o.disp < 256 ^ disp_size o.m o.sib

-- the byte of SIB, where it stands
abbrev pub sibs : Bool → ℕ → List ℕ
sibs true s = s ∷ []
sibs false s = []

-- ModRM with SIB and displacement as bytes
abbrev pub operand_bytes : Operand → List ℕ
operand_bytes o = o.m ∷ (sibs (has_sib o.m) o.sib ++ le (disp_size o.m o.sib) o.disp)
