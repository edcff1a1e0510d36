-- The laws of the cores: each list computes what its instruction computes, from every operand and all flags.
use Rattle.std.specs.Prelude.{Bool}
use Rattle.x86_types.specs.declared.width.Width.{Width}
use Rattle.x86_types.specs.declared.operation.AluOp.{AluOp}
use Rattle.x86_types.specs.declared.operation.Cond.{Cond}
use Rattle.x86_types.specs.Numbers.{size_of}
use Rattle.x86_values.specs.Conditions.{condition}
use Rattle.x86_meaning.specs.Outcomes.{alu_computed, test_computed, inc_computed, dec_computed, not_computed, neg_computed, mul_computed, imul_computed, div_computed, move_computed, extend_computed, spread_computed, swap_computed, scan_computed, cmov_computed, set_computed}
use Rattle.lift_relation.specs.Cores.{ComputesOne, ComputesTwo, ComputesThree, Tests}
use Rattle.lift_values.specs.Sums.{inc_core, dec_core, neg_core}
use Rattle.lift_values.specs.Logic.{alu_core, test_core, not_core}
use Rattle.lift_values.specs.Products.{mul_core, imul_core}
use Rattle.lift_values.specs.Divisions.{div_core}
use Rattle.lift_values.specs.Extensions.{move_core, extend_core, spread_core, swap_core}
use Rattle.lift_values.specs.Scans.{scan_core}
use Rattle.lift_values.specs.Conditions.{condition_ops, set_core, cmov_core}

pub record CoreLaws : Type 0 where
  pub alu : (op : AluOp) (w : Width) → ComputesTwo (size_of w) (size_of w) (size_of w) (λ f x y. alu_computed op (size_of w) f x y) (alu_core op w)
  pub test : (w : Width) → ComputesTwo (size_of w) (size_of w) (size_of w) (λ f x y. test_computed (size_of w) x y) (test_core w)
  pub inc : (w : Width) → ComputesOne (size_of w) (size_of w) (λ f x. inc_computed (size_of w) f x) (inc_core w)
  pub dec : (w : Width) → ComputesOne (size_of w) (size_of w) (λ f x. dec_computed (size_of w) f x) (dec_core w)
  pub not : (w : Width) → ComputesOne (size_of w) (size_of w) (λ f x. not_computed (size_of w) f x) (not_core w)
  pub neg : (w : Width) → ComputesOne (size_of w) (size_of w) (λ f x. neg_computed (size_of w) x) (neg_core w)
  pub mul : (signed : Bool) (w : Width) → ComputesTwo (size_of w) (size_of w) (size_of w) (λ f x y. mul_computed signed (size_of w) x y) (mul_core signed w)
  pub imul : (w : Width) → ComputesTwo (size_of w) (size_of w) (size_of w) (λ f x y. imul_computed (size_of w) x y) (imul_core w)
  pub div : (signed : Bool) (w : Width) → ComputesThree (size_of w) (size_of w) (size_of w) (size_of w) (λ f x y z. div_computed signed (size_of w) x y z) (div_core signed w)
  -- MOVZX is a move of the wide width, of a word with 0 above the narrow one
  pub move : (w : Width) → ComputesOne (size_of w) (size_of w) (λ f x. move_computed f x) move_core
  pub extend : (wide w : Width) → ComputesOne (size_of w) (size_of wide) (λ f x. extend_computed (size_of wide) (size_of w) f x) (extend_core wide w)
  pub spread : (w : Width) → ComputesOne (size_of w) (size_of w) (λ f x. spread_computed (size_of w) f x) (spread_core w)
  pub swap : ComputesOne 4 4 (λ f x. swap_computed f x) swap_core
  pub scan : (reverse : Bool) (w : Width) → ComputesOne (size_of w) (size_of w) (λ f x. scan_computed reverse (size_of w) x) (scan_core reverse w)
  pub conditions : (c : Cond) → Tests (condition c) (condition_ops c)
  -- SETcc has no operand: a word of which nothing is known stands for it
  pub set : (c : Cond) → ComputesOne 4 1 (λ f x. set_computed (condition c f) f) (set_core c)
  pub cmov : (c : Cond) (w : Width) → ComputesTwo (size_of w) (size_of w) (size_of w) (λ f x y. cmov_computed (size_of w) (condition c f) f x y) (cmov_core c w)
