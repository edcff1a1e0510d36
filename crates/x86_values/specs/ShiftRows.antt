-- Worked rows of shifts and rotates (Intel SDM volume 2, "SAL/SAR/SHL/SHR", "RCL/RCR/ROL/ROR"). A row has an answer beside what the
-- manual says of it.
use Rattle.std.specs.Prelude.{◌≡◌, ℕ, Bool, true, false, List, [], ◌∷◌, map, Option, Some, None}
use Rattle.x86_types.specs.declared.operation.ShiftOp.{ShiftOp}
use Rattle.x86_types.specs.declared.operation.ShiftOp.TheVariants.{Rol, Ror, Shl, Shr, Sar}
use Rattle.x86_values.specs.declared.byte.Byte.TheVariants.{Known}
use Rattle.x86_values.specs.declared.word.Flags.{Flags}
use Rattle.x86_values.specs.declared.answered.Answered.{Answered}
use Rattle.x86_values.specs.Words.{word_of}
use Rattle.x86_values.specs.Shifts.{shift}
use Rattle.x86_values.specs.WrittenOut.{answer_with}

abbrev pub on : Option Bool
on = Some true

abbrev pub off : Option Bool
off = Some false

-- an unspecified flag
abbrev pub none : Option Bool
none = None

-- a result with CF, PF, ZF, SF and OF
abbrev pub gives : ℕ → Option Bool → Option Bool → Option Bool → Option Bool → Option Bool → Answered
gives n cf pf zf sf of = answer_with n (record { cf = cf; pf = pf; zf = zf; sf = sf; of = of })

-- the flags before each row
abbrev pub old : Flags
old = record { cf = Some true; pf = Some false; zf = Some true; sf = None; of = Some true }

abbrev pub stays : ℕ → Answered
stays n = answer_with n old

-- what a rotate gives, with CF and OF
abbrev pub rotates : ℕ → Option Bool → Option Bool → Answered
rotates n cf of = gives n cf (Some false) (Some true) None of

abbrev pub row : ShiftOp → ℕ → ℕ → ℕ → Answered → Answered × Answered
row kind size operand count answer = (shift kind size (word_of operand) (Known count) old, answer)

abbrev pub AreRight : List (Answered × Answered) → Type 0
AreRight rows = map (λ r. r.0) rows ≡ map (λ r. r.1) rows

-- OF for the count 1 is the sign of the result and not CF, or CF and not the sign; CF is bit 8 - c of a byte
abbrev pub shl_rows : List (Answered × Answered)
shl_rows =
    row Shl 1 0x81 1 (gives 0x02 on off off off on)
    ∷ row Shl 1 0x40 1 (gives 0x80 off off off on on)
    ∷ row Shl 1 0xC0 1 (gives 0x80 on off off on off)
    ∷ row Shl 1 0x21 1 (gives 0x42 off on off off off)
    ∷ row Shl 1 0xFF 2 (gives 0xFC on on off on none)
    ∷ row Shl 1 0x03 7 (gives 0x80 on off off on none)
    ∷ row Shl 1 0x05 7 (gives 0x80 off off off on none)
    ∷ row Shl 1 0xFF 8 (gives 0x00 none on on off none)
    ∷ row Shl 1 0xFF 9 (gives 0x00 none on on off none)
    ∷ row Shl 1 0xFF 31 (gives 0x00 none on on off none)
    ∷ row Shl 1 0xFF 32 (stays 0xFF)
    ∷ row Shl 1 0x81 33 (gives 0x02 on off off off on)
    ∷ row Shl 2 0x8001 1 (gives 0x0002 on off off off on)
    ∷ row Shl 2 0x4000 1 (gives 0x8000 off on off on on)
    ∷ row Shl 2 0x0003 15 (gives 0x8000 on on off on none)
    ∷ row Shl 2 0x0001 15 (gives 0x8000 off on off on none)
    ∷ row Shl 2 0xFFFF 16 (gives 0x0000 none on on off none)
    ∷ row Shl 2 0xFFFF 17 (gives 0x0000 none on on off none)
    ∷ row Shl 4 0x80000001 1 (gives 0x00000002 on off off off on)
    ∷ row Shl 4 0x40000000 1 (gives 0x80000000 off on off on on)
    ∷ row Shl 4 0x00000003 31 (gives 0x80000000 on on off on none)
    ∷ row Shl 4 0x00000001 31 (gives 0x80000000 off on off on none)
    ∷ row Shl 4 0x80000001 32 (stays 0x80000001)
    ∷ row Shl 4 0x80000001 33 (gives 0x00000002 on off off off on)
    ∷ row Shl 4 0x80000001 0 (stays 0x80000001)
    ∷ row Shl 4 0x80000001 64 (stays 0x80000001)
    ∷ row Shl 1 0xFFFFFF81 1 (gives 0x02 on off off off on)
    ∷ row Shl 1 0xFFFFFF81 0 (stays 0x81)
    ∷ []

-- CF is bit c - 1 of the operand, and OF for the count 1 its sign
abbrev pub shr_rows : List (Answered × Answered)
shr_rows =
    row Shr 1 0x81 1 (gives 0x40 on off off off on)
    ∷ row Shr 1 0x02 1 (gives 0x01 off off off off off)
    ∷ row Shr 1 0xC0 7 (gives 0x01 on off off off none)
    ∷ row Shr 1 0x80 7 (gives 0x01 off off off off none)
    ∷ row Shr 1 0xFF 8 (gives 0x00 none on on off none)
    ∷ row Shr 1 0xFF 9 (gives 0x00 none on on off none)
    ∷ row Shr 1 0xFF 31 (gives 0x00 none on on off none)
    ∷ row Shr 1 0xFF 32 (stays 0xFF)
    ∷ row Shr 1 0x81 33 (gives 0x40 on off off off on)
    ∷ row Shr 2 0x8001 1 (gives 0x4000 on on off off on)
    ∷ row Shr 2 0xC000 15 (gives 0x0001 on off off off none)
    ∷ row Shr 2 0x8000 15 (gives 0x0001 off off off off none)
    ∷ row Shr 2 0xFFFF 16 (gives 0x0000 none on on off none)
    ∷ row Shr 2 0xFFFF 17 (gives 0x0000 none on on off none)
    ∷ row Shr 4 0x80000001 1 (gives 0x40000000 on on off off on)
    ∷ row Shr 4 0xC0000000 31 (gives 0x00000001 on off off off none)
    ∷ row Shr 4 0x80000000 31 (gives 0x00000001 off off off off none)
    ∷ row Shr 4 0x80000001 32 (stays 0x80000001)
    ∷ row Shr 4 0x80000001 33 (gives 0x40000000 on on off off on)
    ∷ []

-- copies of the sign enter, so by at least the operand's bits all of it and CF are the sign
abbrev pub sar_rows : List (Answered × Answered)
sar_rows =
    row Sar 1 0x81 1 (gives 0xC0 on on off on off)
    ∷ row Sar 1 0x7E 1 (gives 0x3F off on off off off)
    ∷ row Sar 1 0x80 2 (gives 0xE0 off off off on none)
    ∷ row Sar 1 0x80 7 (gives 0xFF off on off on none)
    ∷ row Sar 1 0x40 7 (gives 0x00 on on on off none)
    ∷ row Sar 1 0x80 8 (gives 0xFF on on off on none)
    ∷ row Sar 1 0x7F 8 (gives 0x00 off on on off none)
    ∷ row Sar 1 0x80 9 (gives 0xFF on on off on none)
    ∷ row Sar 1 0x80 31 (gives 0xFF on on off on none)
    ∷ row Sar 1 0x7F 31 (gives 0x00 off on on off none)
    ∷ row Sar 1 0x80 32 (stays 0x80)
    ∷ row Sar 1 0x81 33 (gives 0xC0 on on off on off)
    ∷ row Sar 2 0x8001 1 (gives 0xC000 on on off on off)
    ∷ row Sar 2 0x8000 15 (gives 0xFFFF off on off on none)
    ∷ row Sar 2 0x8000 16 (gives 0xFFFF on on off on none)
    ∷ row Sar 2 0x7FFF 17 (gives 0x0000 off on on off none)
    ∷ row Sar 4 0x80000001 1 (gives 0xC0000000 on on off on off)
    ∷ row Sar 4 0x80000000 31 (gives 0xFFFFFFFF off on off on none)
    ∷ row Sar 4 0x40000000 31 (gives 0x00000000 on on on off none)
    ∷ row Sar 4 0x80000001 32 (stays 0x80000001)
    ∷ row Sar 4 0x80000001 33 (gives 0xC0000000 on on off on off)
    ∷ []

-- a rotate keeps PF, ZF and SF, and CF is the bit that entered
abbrev pub rol_rows : List (Answered × Answered)
rol_rows =
    row Rol 1 0x81 1 (rotates 0x03 on on)
    ∷ row Rol 1 0x40 1 (rotates 0x80 off on)
    ∷ row Rol 1 0xC0 1 (rotates 0x81 on off)
    ∷ row Rol 1 0x00 1 (rotates 0x00 off off)
    ∷ row Rol 1 0x12 4 (rotates 0x21 on none)
    ∷ row Rol 1 0x81 7 (rotates 0xC0 off none)
    ∷ row Rol 1 0x02 7 (rotates 0x01 on none)
    ∷ row Rol 1 0x13 8 (rotates 0x13 none none)
    ∷ row Rol 1 0x81 9 (rotates 0x03 none none)
    ∷ row Rol 1 0x81 31 (rotates 0xC0 none none)
    ∷ row Rol 1 0x81 32 (stays 0x81)
    ∷ row Rol 1 0x81 33 (rotates 0x03 on on)
    ∷ row Rol 2 0x8001 1 (rotates 0x0003 on on)
    ∷ row Rol 2 0x1234 4 (rotates 0x2341 on none)
    ∷ row Rol 2 0x0001 15 (rotates 0x8000 off none)
    ∷ row Rol 2 0x1235 16 (rotates 0x1235 none none)
    ∷ row Rol 2 0x8001 17 (rotates 0x0003 none none)
    ∷ row Rol 2 0x0002 31 (rotates 0x0001 none none)
    ∷ row Rol 4 0x80000001 1 (rotates 0x00000003 on on)
    ∷ row Rol 4 0x12345678 8 (rotates 0x34567812 off none)
    ∷ row Rol 4 0x00000002 31 (rotates 0x00000001 on none)
    ∷ row Rol 4 0x80000001 32 (stays 0x80000001)
    ∷ row Rol 4 0x80000001 33 (rotates 0x00000003 on on)
    ∷ []

abbrev pub ror_rows : List (Answered × Answered)
ror_rows =
    row Ror 1 0x81 1 (rotates 0xC0 on off)
    ∷ row Ror 1 0x01 1 (rotates 0x80 on on)
    ∷ row Ror 1 0x80 1 (rotates 0x40 off on)
    ∷ row Ror 1 0x02 1 (rotates 0x01 off off)
    ∷ row Ror 1 0x12 4 (rotates 0x21 off none)
    ∷ row Ror 1 0x40 7 (rotates 0x80 on none)
    ∷ row Ror 1 0x93 8 (rotates 0x93 none none)
    ∷ row Ror 1 0x81 9 (rotates 0xC0 none none)
    ∷ row Ror 1 0x81 31 (rotates 0x03 none none)
    ∷ row Ror 1 0x81 32 (stays 0x81)
    ∷ row Ror 1 0x81 33 (rotates 0xC0 on off)
    ∷ row Ror 2 0x8001 1 (rotates 0xC000 on off)
    ∷ row Ror 2 0x1234 4 (rotates 0x4123 off none)
    ∷ row Ror 2 0x4000 15 (rotates 0x8000 on none)
    ∷ row Ror 2 0x9234 16 (rotates 0x9234 none none)
    ∷ row Ror 2 0x8001 17 (rotates 0xC000 none none)
    ∷ row Ror 4 0x00000001 1 (rotates 0x80000000 on on)
    ∷ row Ror 4 0x80000000 1 (rotates 0x40000000 off on)
    ∷ row Ror 4 0x12345678 8 (rotates 0x78123456 off none)
    ∷ row Ror 4 0x40000000 31 (rotates 0x80000000 on none)
    ∷ row Ror 4 0x80000001 32 (stays 0x80000001)
    ∷ row Ror 4 0x00000001 33 (rotates 0x80000000 on on)
    ∷ []

pub record WorkedShifts : Type 0 where
  pub shl : AreRight shl_rows
  pub shr : AreRight shr_rows
  pub sar : AreRight sar_rows
  pub rol : AreRight rol_rows
  pub ror : AreRight ror_rows
