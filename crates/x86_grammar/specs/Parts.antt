-- What the lists of forms are made of: the row, whether 66 stands, the reg field, the operand and the
-- number.
use Rattle.std.specs.Prelude.{ℕ, ◌+◌, ◌-◌, ◌%◌, ◌^◌, Bool, true, false, if◌then◌else◌, nat_lt, ◌==◌, List, [], ◌∷◌, Some, None}
use Rattle.x86_types.specs.declared.operand.Reg.{Reg}
use Rattle.x86_types.specs.declared.operand.Reg.TheVariants.{Eax}
use Rattle.x86_types.specs.declared.width.Width.{Width}
use Rattle.x86_types.specs.declared.width.Width.TheVariants.{One, Two}
use Rattle.x86_types.specs.declared.operand.Rm.{Rm}
use Rattle.x86_types.specs.declared.operand.Rm.TheVariants as rm
use Rattle.x86_types.specs.Numbers.{size_of}
use Rattle.x86_grammar.specs.declared.row.Form.{Form}
use Rattle.x86_grammar.specs.declared.row.Row.{Row}

-- the w bit of an opcode: 0 for width One
abbrev pub w_bit : Width → Bool
w_bit One = false
w_bit _ = true

-- whether the operand-size prefix (66) stands: at width Two
abbrev pub operand_size_of : Width → Bool
operand_size_of Two = true
operand_size_of _ = false

-- a byte with its sign, at the width
abbrev pub signed : Width → ℕ → ℕ
signed w b = if nat_lt b 0x80 then b else b + (256 ^ size_of w - 256)

-- a row with ModRM: the reg field, the operand, and the immediate
abbrev pub with_rm : Row → Width → ℕ → Rm → ℕ → Form
with_rm r w n m v = record { row = r; operand_size = operand_size_of w; rep = false; reg_field = n; rm = Some m; imm = v }

-- a row without ModRM, and the immediate
abbrev pub plain : Row → Width → ℕ → Form
plain r w v = record { row = r; operand_size = operand_size_of w; rep = false; reg_field = 0; rm = None; imm = v }

-- with F3 where it is true
abbrev pub repeated : Row → Width → Bool → ℕ → Form
repeated r w p v = record { row = r; operand_size = operand_size_of w; rep = p; reg_field = 0; rm = None; imm = v }

-- the byte that is the number with its sign, where one is
abbrev pub if_signed : Width → ℕ → (ℕ → Form) → List Form
if_signed w v f = if signed w (v % 256) == v then f (v % 256) ∷ [] else []

-- forms of a register
abbrev pub if_reg : Rm → (Reg → List Form) → List Form
if_reg (rm.Reg r) f = f r
if_reg (rm.Mem a) f = []

-- a form of the accumulator, AL, AX or EAX
abbrev pub if_acc : Rm → Form → List Form
if_acc (rm.Reg Eax) f = f ∷ []
if_acc _ f = []

-- forms that width One doesn't have
abbrev pub not_one : Width → List Form → List Form
not_one One fs = []
not_one w fs = fs
