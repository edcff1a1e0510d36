-- The cores of AND, OR, XOR, TEST and NOT (Intel SDM volume 2, each instruction), and the core of each operation of group 1. How they are
-- computed is own.
use Rattle.std.specs.Prelude.{List, [], ◌∷◌, ◌++◌}
use Rattle.x86_types.specs.declared.width.Width.{Width}
use Rattle.x86_types.specs.declared.operation.AluOp.{AluOp}
use Rattle.x86_types.specs.declared.operation.AluOp.TheVariants as alu
use Rattle.flag_ir.specs.declared.operation.Calc.{Calc}
use Rattle.flag_ir.specs.declared.operation.Calc.TheVariants as calc
use Rattle.flag_ir.specs.declared.operation.Op.{Op}
use Rattle.lift_values.specs.Terms.{temp, word, to_temp, set_flag, mask}
use Rattle.lift_values.specs.Flags.{result_flags}
use Rattle.lift_values.specs.Sums.{add_core, adc_core, sub_core, sbb_core}

abbrev pub logic_core : Calc → Width → List Op
logic_core c w = (to_temp 4 c (temp 1) (temp 2) ∷ set_flag 0 (word 0) ∷ set_flag 4 (word 0) ∷ []) ++ result_flags w

abbrev pub not_core : Width → List Op
not_core w = to_temp 4 calc.Xor (temp 1) (word (mask w)) ∷ []

-- TEST is AND of which the result is dropped, as CMP is SUB
abbrev pub test_core : Width → List Op
test_core w = logic_core calc.And w

abbrev pub alu_core : AluOp → Width → List Op
alu_core alu.Add w = add_core w
alu_core alu.Or w = logic_core calc.Or w
alu_core alu.Adc w = adc_core w
alu_core alu.Sbb w = sbb_core w
alu_core alu.And w = logic_core calc.And w
alu_core alu.Sub w = sub_core w
alu_core alu.Xor w = logic_core calc.Xor w
alu_core alu.Cmp w = sub_core w
