-- The laws of lifting.
use Rattle.std.specs.Prelude.{ℕ, ◌≤◌, length, All}
use Rattle.x86_types.specs.declared.instr.Instr.{Instr}
use Rattle.flag_ir.specs.Form.{IsTerm, IsOp, IsFrameless}
use Rattle.lift_core.specs.declared.way.Way.{Way}
use Rattle.lift_core.specs.declared.way.Way.TheVariants as way
use Rattle.lift_core.specs.Lifting.{Lifts}
use Rattle.lift_core.specs.Lists.{lift_of, way_of}
use Rattle.lift_core.specs.Lengths.{most_ops}

-- the terms of a way are in form
abbrev pub IsWay : Way → Type 0
IsWay (way.On a) = Unit {0}
IsWay (way.Either test a b) = IsTerm 0 test
IsWay (way.Repeat count again a b) = IsTerm 0 count × IsTerm 0 again
IsWay (way.To target) = IsTerm 0 target
IsWay (way.Back target) = IsTerm 0 target

pub record LiftingLaws : Type 0 where
  -- the list and the way of each instruction do what its step does
  pub lifts : (i : Instr) (at len : ℕ) → Lifts i at len (lift_of i at len) (way_of i at len)
  -- how long a list is at most
  pub short : (i : Instr) (at len : ℕ) → length (lift_of i at len) ≤ most_ops i
  -- it names no local and needs no frame
  pub ops : (i : Instr) (at len : ℕ) → All (IsOp 0) (lift_of i at len)
  pub frameless : (i : Instr) (at len : ℕ) → All IsFrameless (lift_of i at len)
  pub way : (i : Instr) (at len : ℕ) → IsWay (way_of i at len)
