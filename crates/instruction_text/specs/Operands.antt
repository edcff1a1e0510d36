-- Operands as text: registers by their 32-bit names, numbers as hexadecimal digits of their whole width. (own)
use Rattle.std.specs.Prelude.{ℕ, ◌-◌, ◌^◌, false, List, [], ◌++◌, Option, Some, None, codes}
use Rattle.std.specs.Fmt.{decimal, digits, padded_integral, format_spec}
use Rattle.x86_types.specs.declared.operand.Reg.{Reg}
use Rattle.x86_types.specs.declared.operand.Reg.TheVariants.{Eax, Ecx, Edx, Ebx, Esp, Ebp, Esi, Edi}
use Rattle.x86_types.specs.declared.operand.Address.{Address}
use Rattle.x86_types.specs.declared.operand.Rm.{Rm}
use Rattle.x86_types.specs.declared.operand.Rm.TheVariants as rm
use Rattle.x86_types.specs.declared.operand.Src.{Src}
use Rattle.x86_types.specs.declared.operand.Src.TheVariants as src
use Rattle.x86_types.specs.declared.operation.Count.{Count}
use Rattle.x86_types.specs.declared.operation.Count.TheVariants as count

-- a number in hexadecimal, with zeros before it up to so many digits
abbrev pub hex : ℕ → ℕ → List ℕ
hex width n = padded_integral (format_spec 32 0 4 width (2 ^ 64 - 1)) false [] (digits 16 false n)

abbrev pub reg_text : Reg → List ℕ
reg_text Eax = codes "eax"
reg_text Ecx = codes "ecx"
reg_text Edx = codes "edx"
reg_text Ebx = codes "ebx"
reg_text Esp = codes "esp"
reg_text Ebp = codes "ebp"
reg_text Esi = codes "esi"
reg_text Edi = codes "edi"

-- the parts that an address has: [base+index*scale+displacement]
abbrev pub address_by : Option Reg → Option Reg → ℕ → ℕ → List ℕ
address_by None None scale disp = codes "[0x" ++ hex 8 disp ++ codes "]"
address_by (Some b) None scale disp = codes "[" ++ reg_text b ++ codes "+0x" ++ hex 8 disp ++ codes "]"
address_by None (Some i) scale disp = codes "[" ++ reg_text i ++ codes "*" ++ decimal scale ++ codes "+0x" ++ hex 8 disp ++ codes "]"
address_by (Some b) (Some i) scale disp = codes "[" ++ reg_text b ++ codes "+" ++ reg_text i ++ codes "*" ++ decimal scale ++ codes "+0x" ++ hex 8 disp ++ codes "]"

abbrev pub address_text : Address → List ℕ
address_text a = address_by a.base a.index a.scale a.disp

abbrev pub rm_text : Rm → List ℕ
rm_text (rm.Reg r) = reg_text r
rm_text (rm.Mem a) = address_text a

abbrev pub src_text : Src → List ℕ
src_text (src.Reg r) = reg_text r
src_text (src.Mem a) = address_text a
src_text (src.Imm n) = codes "0x" ++ hex 8 n

abbrev pub count_text : Count → List ℕ
count_text (count.Imm n) = codes "0x" ++ hex 2 n
count_text count.Cl = codes "cl"
