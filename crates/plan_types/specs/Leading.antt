-- Where an instruction leads: which addresses it makes procedures, and from which the code goes on.
use Rattle.std.specs.Prelude.{ℕ, ◌+◌, ◌%◌, cond, List, [], ◌∷◌, Option, None}
use Rattle.image.specs.declared.image.Image.{Image}
use Rattle.image.specs.Addresses.{can_run}
use Rattle.x86_types.specs.declared.operand.Reg.{Reg}
use Rattle.x86_types.specs.declared.operand.Src.TheVariants as src
use Rattle.x86_types.specs.declared.width.Width.TheVariants.{Four}
use Rattle.x86_types.specs.declared.instr.Instr.{Instr}
use Rattle.x86_types.specs.declared.instr.Instr.TheVariants.{Mov, Push, Lea, Jmp, Jcc, Call, CallTo}
use Rattle.plan_types.specs.declared.place.Place.{Place}

-- the address behind an instruction; the code of an image ends far below 2^32
abbrev pub next_of : Place → ℕ
next_of p = p.at + p.len

-- the target of a jump or call by a displacement, which counts from the next instruction, modulo 2^32 (Intel SDM volume 2, "JMP",
-- "Jcc", "CALL")
abbrev pub target_of : Place → ℕ → ℕ
target_of p by = (p.at + p.len + by) % 4294967296

-- the places from which the code goes on beside the next one: the target of a jump, and the place behind a CALL of either form (own)
abbrev pub leaders_in : Place → Instr → List ℕ
leaders_in p (Jmp by) = target_of p by ∷ []
leaders_in p (Jcc c by) = target_of p by ∷ []
leaders_in p (Call by) = next_of p ∷ []
leaders_in p (CallTo to) = next_of p ∷ []
leaders_in p _ = []

abbrev pub leaders_of : Place → List ℕ
leaders_of p = leaders_in p p.instr

-- an address, where its byte can be run
abbrev pub if_code : Image → ℕ → List ℕ
if_code image n = cond (can_run image n) (n ∷ []) []

-- the displacement of an address without registers
abbrev pub alone : Option Reg → Option Reg → ℕ → List ℕ
alone None None disp = disp ∷ []
alone _ _ disp = []

abbrev pub each_if_code : Image → List ℕ → List ℕ
each_if_code image [] = []
each_if_code image (n ∷ more) = if_code image n

-- The procedures that an instruction names: the target of a CALL by a displacement; and where it leads to a byte that can be run, the
-- constant of a MOV of four bytes, of a PUSH, and of an LEA without registers at any width, since it may be stored and called. (own)
abbrev pub procedures_in : Image → Place → Instr → List ℕ
procedures_in image p (Call by) = target_of p by ∷ []
procedures_in image p (Mov Four to (src.Imm n)) = if_code image n
procedures_in image p (Push (src.Imm n)) = if_code image n
procedures_in image p (Lea width to a) = each_if_code image (alone a.base a.index a.disp)
procedures_in image p _ = []

abbrev pub procedures_of : Image → Place → List ℕ
procedures_of image p = procedures_in image p p.instr
