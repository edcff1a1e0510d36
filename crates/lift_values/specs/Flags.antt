-- ZF, SF and PF of a result (Intel SDM volume 1, "Status Flags"). All else is own.
use Rattle.std.specs.Prelude.{List, [], ◌∷◌}
use Rattle.x86_types.specs.declared.width.Width.{Width}
use Rattle.flag_ir.specs.declared.operation.Calc.TheVariants as calc
use Rattle.flag_ir.specs.declared.operation.Op.{Op}
use Rattle.lift_values.specs.Terms.{temp, word, to_temp, to_flag, top}

-- ZF, SF and PF of temporary 4, of which 0 stands above the width. The bit of 0x9669 at each number below 16 is the parity of that
-- number's ones. Temporaries 6 and 7 are lost.
abbrev pub result_flags : Width → List Op
result_flags w =
    to_flag 2 calc.Eq (temp 4) (word 0) ∷ to_flag 3 calc.Shr (temp 4) (word (top w)) ∷
    to_temp 6 calc.And (temp 4) (word 0xFF) ∷ to_temp 7 calc.Shr (temp 6) (word 4) ∷ to_temp 6 calc.Xor (temp 6) (temp 7) ∷
    to_temp 6 calc.And (temp 6) (word 0xF) ∷ to_temp 6 calc.Shr (word 0x9669) (temp 6) ∷ to_flag 1 calc.And (temp 6) (word 1) ∷ []
