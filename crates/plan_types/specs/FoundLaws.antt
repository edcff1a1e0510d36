-- The laws of found code.
use Rattle.std.specs.Prelude.{◌≡◌, ℕ, ◌+◌, ◌*◌, ◌≤◌, Contains, EachIndex, length, slice_index, Some}
use Rattle.image.specs.declared.image.Image.{Image}
use Rattle.image.specs.declared.room.Room.TheVariants.{Any}
use Rattle.image.specs.Rooms.{room_end}
use Rattle.image.specs.Wanted.{FitsWideRoom}
use Rattle.x86_types.specs.declared.operand.Reg.{Reg}
use Rattle.x86_types.specs.declared.instr.Instr.TheVariants.{Call}
use Rattle.x86_code.specs.Code.{code_of}
use Rattle.plan_types.specs.declared.place.Place.{Place}
use Rattle.plan_types.specs.declared.table.Table.{Table}
use Rattle.plan_types.specs.Contents.{FoundContents}
use Rattle.plan_types.specs.Ascending.{Ascends}
use Rattle.plan_types.specs.Tables.{constant_word, table_jump}
use Rattle.plan_types.specs.Leading.{target_of}
use Rattle.plan_types.specs.Body.{successors_of, HasPlace}
use Rattle.plan_types.specs.FoundCode.{Stands, IsFoundCode}

-- a table is that of a found table jump, and each of its words is constant
pub record IsTableOf (image : Image) (found : FoundContents) (t : Table) : Type 0 where
  pub place : Place
  pub found_there : Contains found.code place
  pub at : place.at ≡ t.jump
  pub index : Reg
  pub jump : table_jump place.instr ≡ Some (index, t.start)
  pub few : length t.targets ≤ 1024
  pub words : EachIndex t.targets (λ k. constant_word image (t.start + 4 * k) ≡ Some (slice_index t.targets k))

-- a table is listed for a jump
pub record HasTable (found : FoundContents) (at start : ℕ) : Type 0 where
  pub table : Table
  pub listed : Contains found.tables table
  pub jump : table.jump ≡ at
  pub from : table.start ≡ start

pub record FoundLaws : Type 0 where
  -- a listed instruction is the one that stands at its address, and it ends within the room
  pub stands : (image : Image) (found : FoundContents) (p : Place) → IsFoundCode image found → Contains found.code p → code_of image p.at ≡ Some (p.instr, p.len)
  pub within : (image : Image) (found : FoundContents) (p : Place) → FitsWideRoom image.segments image.entry → IsFoundCode image found → Contains found.code p → p.at + p.len ≤ room_end Any
  -- where the code goes on, an instruction is found if one stands there
  pub successors : (image : Image) (found : FoundContents) (p : Place) (a : ℕ) → IsFoundCode image found → Contains found.code p → Contains (successors_of found p) a → Stands image a → HasPlace found a
  -- the procedures are found: the entry and the targets of found calls among them
  pub procedures : (image : Image) (found : FoundContents) (a : ℕ) → IsFoundCode image found → Contains found.procs a → HasPlace found a
  pub entry : (image : Image) (found : FoundContents) → IsFoundCode image found → Stands image image.entry → Contains found.procs image.entry
  pub called : (image : Image) (found : FoundContents) (p : Place) (by : ℕ) → IsFoundCode image found → Contains found.code p → p.instr ≡ Call by → Stands image (target_of p by) → Contains found.procs (target_of p by)
  -- tables lie in pages that can't be written, and each found table jump has one
  pub tables : (image : Image) (found : FoundContents) (t : Table) → IsFoundCode image found → Contains found.tables t → IsTableOf image found t
  pub jumps : (image : Image) (found : FoundContents) (p : Place) (index : Reg) (start : ℕ) → IsFoundCode image found → Contains found.code p → table_jump p.instr ≡ Some (index, start) → HasTable found p.at start
  -- an image has one found code
  pub one : (image : Image) (f g : FoundContents) → Ascends f.code f.procs f.tables → Ascends g.code g.procs g.tables → IsFoundCode image f → IsFoundCode image g → f ≡ g
