-- The laws of the cores, by those of the values.
use Rattle.x86_types.specs.declared.operation.AluOp.{AluOp}
use Rattle.x86_types.specs.declared.operation.AluOp.TheVariants as alu
use Rattle.x86_types.specs.declared.width.Width.{Width}
use Rattle.x86_types.specs.Numbers.{size_of}
use Rattle.x86_values.specs.LogicLaws.{LogicLaws}
use Rattle.x86_values.specs.ScanLaws.{ScanLaws}
use Rattle.x86_meaning.specs.Outcomes.{alu_computed}
use Rattle.lift_relation.specs.Cores.{ComputesTwo}
use Rattle.lift_values.specs.Logic.{alu_core}
use Rattle.lift_values.specs.CoreLaws.{CoreLaws}
use Rattle.lift_values.proofs.SumLemmas.{add_computes, adc_computes, inc_computes}
use Rattle.lift_values.proofs.DifferenceLemmas.{sub_computes, sbb_computes, cmp_computes, dec_computes, neg_computes}
use Rattle.lift_values.proofs.LogicLemmas.{and_computes, or_computes, xor_computes, test_computes, not_computes}
use Rattle.lift_values.proofs.ProductLemmas.{mul_computes, imul_computes}
use Rattle.lift_values.proofs.DivisionLemmas.{div_computes}
use Rattle.lift_values.proofs.ExtensionLemmas.{move_computes, extend_computes, spread_computes}
use Rattle.lift_values.proofs.SwapLemmas.{swap_computes}
use Rattle.lift_values.proofs.ScanLemmas.{scan_computes}
use Rattle.lift_values.proofs.ConditionLemmas.{condition_tests, set_computes, cmov_computes}

alu_computes : LogicLaws → (op : AluOp) (w : Width) → ComputesTwo (size_of w) (size_of w) (size_of w) (λ f x y. alu_computed op (size_of w) f x y) (alu_core op w)
alu_computes laws alu.Add w = add_computes w
alu_computes laws alu.Or w = or_computes laws w
alu_computes laws alu.Adc w = adc_computes w
alu_computes laws alu.Sbb w = sbb_computes w
alu_computes laws alu.And w = and_computes laws w
alu_computes laws alu.Sub w = sub_computes w
alu_computes laws alu.Xor w = xor_computes laws w
alu_computes laws alu.Cmp w = cmp_computes w

pub core_laws : LogicLaws → ScanLaws → CoreLaws
core_laws logic scans = record {
  alu = alu_computes logic;
  test = test_computes logic;
  inc = inc_computes;
  dec = dec_computes;
  not = not_computes logic;
  neg = neg_computes;
  mul = mul_computes;
  imul = imul_computes;
  div = div_computes;
  move = move_computes;
  extend = extend_computes logic;
  spread = spread_computes;
  swap = swap_computes logic;
  scan = scan_computes scans;
  conditions = condition_tests;
  set = set_computes;
  cmov = cmov_computes;
}
