-- The laws of straight runs and of their tables.
use Rattle.std.specs.Prelude.{◌≡◌, ℕ, suc, ◌+◌, ◌*◌, ◌≤◌, true, false, List, Contains, EachIndex, length, slice_index, Some}
use Rattle.image.specs.declared.image.Image.{Image}
use Rattle.x86_types.specs.declared.operand.Reg.{Reg}
use Rattle.x86_types.specs.declared.instr.Instr.{Instr}
use Rattle.x86_code.specs.Code.{code_of}
use Rattle.plan_types.specs.declared.place.Place.{Place}
use Rattle.plan_types.specs.declared.table.Table.{Table}
use Rattle.plan_types.specs.Straight.{place_with, ends_run}
use Rattle.plan_types.specs.Tables.{constant_word, table_jump, table_in}
use Rattle.plan_types.specs.Leading.{next_of}
use Rattle.plan_types.specs.FoundCode.{run_in}

-- a table is that of a table jump of a run, and each of its words is constant
pub record IsTableOfRun (image : Image) (run : List Place) (t : Table) : Type 0 where
  pub place : Place
  pub there : Contains run place
  pub at : place.at ≡ t.jump
  pub index : Reg
  pub jump : table_jump place.instr ≡ Some (index, t.start)
  pub few : length t.targets ≤ 1024
  pub words : EachIndex t.targets (λ k. constant_word image (t.start + 4 * k) ≡ Some (slice_index t.targets k))

pub record RunLaws : Type 0 where
  -- each place of a run has the instruction that stands there
  pub stands : (image : Image) (n at : ℕ) (p : Place) → Contains (run_in image n at) p → code_of image p.at ≡ Some (p.instr, p.len)
  -- behind an instruction that ends no run the next one stands in a run that may have one more
  pub goes_on : (image : Image) (n at : ℕ) (p : Place) (i : Instr) (len : ℕ) → Contains (run_in image n at) p → ends_run p.instr ≡ false → code_of image (next_of p) ≡ Some (i, len) → Contains (run_in image (suc n) at) (place_with (next_of p) i len)
  pub jumps : (i : Instr) (index : Reg) (start : ℕ) → table_jump i ≡ Some (index, start) → ends_run i ≡ true
  pub tables : (image : Image) (run : List Place) (t : Table) → table_in image run ≡ Some t → IsTableOfRun image run t
