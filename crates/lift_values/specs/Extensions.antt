-- The cores of moves, MOVSX, CBW and CWDE, CWD and CDQ, and BSWAP (Intel SDM volume 2, each instruction). A shift makes a whole word
-- unspecified where one byte is: so a byte is taken alone before it is shifted, and joined by OR. How they are computed is own.
use Rattle.std.specs.Prelude.{ℕ, cond, ltb, List, [], ◌∷◌, ◌++◌}
use Rattle.x86_types.specs.declared.width.Width.{Width}
use Rattle.x86_types.specs.declared.width.Width.TheVariants.{One, Two, Four}
use Rattle.x86_types.specs.Numbers.{size_of}
use Rattle.flag_ir.specs.declared.operation.Calc.{Calc}
use Rattle.flag_ir.specs.declared.operation.Calc.TheVariants as calc
use Rattle.flag_ir.specs.declared.operation.Op.{Op}
use Rattle.lift_values.specs.Terms.{temp, word, to_temp, set_temp, mask, top, top_mask}

abbrev pub move_core : List Op
move_core = set_temp 4 (temp 1) ∷ []

-- copies of the sign of temporary 1 to the bits of a mask of temporary 6
abbrev pub sign_fill : Width → ℕ → List Op
sign_fill w ones =
    to_temp 6 calc.And (temp 1) (word (top_mask w)) ∷ to_temp 6 calc.Shr (temp 6) (word (top w)) ∷
    to_temp 6 calc.Sub (word 0) (temp 6) ∷ to_temp 6 calc.And (temp 6) (word ones) ∷ []

-- the bits of a wide width above those of another
abbrev pub above : Width → Width → ℕ
above Two One = 0xFF00
above Four One = 0xFFFFFF00
above Four Two = 0xFFFF0000
above _ _ = 0

-- where the result has fewer bytes than the operand
abbrev pub cut_core : Width → Width → List Op
cut_core wide w = cond (ltb (size_of wide) (size_of w)) (to_temp 4 calc.And (temp 4) (word (mask wide)) ∷ []) []

abbrev pub extend_core : Width → Width → List Op
extend_core wide w = sign_fill w (above wide w) ++ (to_temp 4 calc.Or (temp 1) (temp 6) ∷ cut_core wide w)

abbrev pub spread_core : Width → List Op
spread_core w = sign_fill w (mask w) ++ (set_temp 4 (temp 6) ∷ [])

-- the byte of temporary 1 at one mask, moved to that at another, to temporary 6
abbrev pub byte_moved : Calc → ℕ → ℕ → ℕ → List Op
byte_moved shift n from to = to_temp 6 calc.And (temp 1) (word from) ∷ to_temp 6 shift (temp 6) (word n) ∷ to_temp 6 calc.And (temp 6) (word to) ∷ []

-- and joined to temporary 4
abbrev pub byte_joined : Calc → ℕ → ℕ → ℕ → List Op
byte_joined shift n from to = byte_moved shift n from to ++ (to_temp 4 calc.Or (temp 4) (temp 6) ∷ [])

abbrev pub swap_core : List Op
swap_core =
    (set_temp 4 (word 0) ∷ []) ++ byte_joined calc.Shl 24 0xFF 0xFF000000 ++ byte_joined calc.Shl 8 0xFF00 0xFF0000 ++
    byte_joined calc.Shr 8 0xFF0000 0xFF00 ++ byte_joined calc.Shr 24 0xFF000000 0xFF
