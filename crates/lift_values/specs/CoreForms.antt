-- The cores need no frame, name no local, and are short.
use Rattle.std.specs.Prelude.{◌≤◌, Bool, List, length, All}
use Rattle.x86_types.specs.declared.width.Width.{Width}
use Rattle.x86_types.specs.declared.operation.AluOp.{AluOp}
use Rattle.x86_types.specs.declared.operation.Cond.{Cond}
use Rattle.flag_ir.specs.declared.operation.Op.{Op}
use Rattle.flag_ir.specs.Form.{IsOp, IsFrameless}
use Rattle.lift_values.specs.Sums.{inc_core, dec_core, neg_core}
use Rattle.lift_values.specs.Logic.{alu_core, test_core, not_core}
use Rattle.lift_values.specs.Products.{mul_core, imul_core}
use Rattle.lift_values.specs.Divisions.{div_core}
use Rattle.lift_values.specs.Extensions.{move_core, extend_core, spread_core, swap_core}
use Rattle.lift_values.specs.Scans.{scan_core}
use Rattle.lift_values.specs.Conditions.{condition_ops, set_core, cmov_core}

pub record IsCore (core : List Op) : Type 0 where
  pub ops : All (IsOp 0) core
  pub frameless : All IsFrameless core
  pub short : length core ≤ 32

pub record CoreForms : Type 0 where
  pub alu : (op : AluOp) (w : Width) → IsCore (alu_core op w)
  pub test : (w : Width) → IsCore (test_core w)
  pub inc : (w : Width) → IsCore (inc_core w)
  pub dec : (w : Width) → IsCore (dec_core w)
  pub not : (w : Width) → IsCore (not_core w)
  pub neg : (w : Width) → IsCore (neg_core w)
  pub mul : (signed : Bool) (w : Width) → IsCore (mul_core signed w)
  pub imul : (w : Width) → IsCore (imul_core w)
  pub div : (signed : Bool) (w : Width) → IsCore (div_core signed w)
  pub move : IsCore move_core
  pub extend : (wide w : Width) → IsCore (extend_core wide w)
  pub spread : (w : Width) → IsCore (spread_core w)
  pub swap : IsCore swap_core
  pub scan : (reverse : Bool) (w : Width) → IsCore (scan_core reverse w)
  pub conditions : (c : Cond) → IsCore (condition_ops c)
  pub set : (c : Cond) → IsCore (set_core c)
  pub cmov : (c : Cond) (w : Width) → IsCore (cmov_core c w)
