-- The worked rows of the cores, by computation.
use Rattle.std.proofs.Common.{refl}
use Rattle.x86_values.specs.Words.{word_of, known}
use Rattle.x86_values.specs.Sizes.{cut, number}
use Rattle.x86_values.specs.Sums.{sum, add, sub, difference}
use Rattle.x86_values.specs.Logic.{bitwise}
use Rattle.x86_values.specs.Shifts.{shifted, shift}
use Rattle.x86_values.specs.Products.{multiply}
use Rattle.x86_values.specs.Divisions.{divide}
use Rattle.flag_ir.specs.Calculations.{sum_of, difference_of, and_of, or_of, xor_of, product_of, upper_product_of, shifted_of, equal_of, below_of}
use Rattle.flag_ir.specs.Operations.{perform, performs}
use Rattle.lift_values.specs.CoreRows.{WorkedSumCores, WorkedProductCores, WorkedByteCores}

pub worked_sum_cores : WorkedSumCores
unfolding performs perform sum_of difference_of and_of or_of xor_of shifted_of equal_of below_of sum add sub difference bitwise shift shifted number cut known word_of
worked_sum_cores = record {
  add = λ u. refl;
  add_overflows = λ u. refl;
  adc = λ u. refl;
  sub = λ u. refl;
  sbb = λ u. refl;
  sbb_borrows = λ u. refl;
  inc = λ u. refl;
  inc_wraps = λ u. refl;
  dec = λ u. refl;
  neg = λ u. refl;
  neg_of_none = λ u. refl;
  and = λ u. refl;
  test = λ u. refl;
  not = λ u. refl;
}

pub worked_product_cores : WorkedProductCores
unfolding performs perform difference_of and_of xor_of product_of upper_product_of shifted_of equal_of below_of sub difference bitwise shift shifted multiply divide number cut known word_of
worked_product_cores = record {
  mul = λ u. refl;
  mul_fits = λ u. refl;
  imul = λ u. refl;
  imul_least = λ u. refl;
  imul_negative = λ u. refl;
  div = λ u. refl;
  idiv = λ u. refl;
  div_faults = λ u. refl;
  div_by_none = λ u. refl;
}

pub worked_byte_cores : WorkedByteCores
unfolding performs perform sum_of difference_of and_of or_of xor_of shifted_of equal_of below_of sum add sub difference bitwise shift shifted number cut known word_of
worked_byte_cores = record {
  extend = λ u. refl;
  extend_unknown = λ u. refl;
  extend_byte = λ u. refl;
  spread = λ u. refl;
  spread_unknown = λ u. refl;
  swap = λ u. refl;
  lowest = λ u. refl;
  highest = λ u. refl;
  last = λ u. refl;
  parity = λ u. refl;
  greater = λ u. refl;
  set = λ u. refl;
  cmov = λ u. refl;
  cmov_keeps = λ u. refl;
}
