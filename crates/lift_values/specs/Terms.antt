-- How the lists of this crate name their operations, and the constants of each width. All of this is own.
use Rattle.std.specs.Prelude.{ℕ}
use Rattle.x86_types.specs.declared.width.Width.{Width}
use Rattle.x86_types.specs.declared.width.Width.TheVariants.{One, Two, Four}
use Rattle.flag_ir.specs.declared.variable.Var.TheVariants as var
use Rattle.flag_ir.specs.declared.variable.Term.{Term}
use Rattle.flag_ir.specs.declared.variable.Term.TheVariants as term
use Rattle.flag_ir.specs.declared.operation.Calc.{Calc}
use Rattle.flag_ir.specs.declared.operation.Op.{Op}
use Rattle.flag_ir.specs.declared.operation.Op.TheVariants as op

-- ---- terms
abbrev pub temp : ℕ → Term
temp n = term.Var (var.Temp n)

abbrev pub flag : ℕ → Term
flag n = term.Var (var.Flag n)

abbrev pub word : ℕ → Term
word n = term.Word n

-- ---- operations on temporaries and flags
abbrev pub to_temp : ℕ → Calc → Term → Term → Op
to_temp n calc x y = op.Calc (var.Temp n) calc x y

abbrev pub to_flag : ℕ → Calc → Term → Term → Op
to_flag n calc x y = op.Calc (var.Flag n) calc x y

abbrev pub set_temp : ℕ → Term → Op
set_temp n x = op.Set (var.Temp n) x

abbrev pub set_flag : ℕ → Term → Op
set_flag n x = op.Set (var.Flag n) x

abbrev pub pick_temp : ℕ → Term → Term → Term → Op
pick_temp n test x y = op.Pick (var.Temp n) test x y

abbrev pub pick_flag : ℕ → Term → Term → Term → Op
pick_flag n test x y = op.Pick (var.Flag n) test x y

-- ---- widths: the greatest number, how many bits there are, and the place of the highest one
abbrev pub mask : Width → ℕ
mask One = 0xFF
mask Two = 0xFFFF
mask Four = 0xFFFFFFFF

abbrev pub width_bits : Width → ℕ
width_bits One = 8
width_bits Two = 16
width_bits Four = 32

abbrev pub top : Width → ℕ
top One = 7
top Two = 15
top Four = 31

-- the ones of the highest byte of a width
abbrev pub top_mask : Width → ℕ
top_mask One = 0xFF
top_mask Two = 0xFF00
top_mask Four = 0xFF000000
