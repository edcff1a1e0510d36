-- The blocks of a part by their old addresses. All of this is own.
use Rattle.std.specs.Prelude.{◌≡◌, ℕ, ◌==◌, cond, List, Option, Some, None}
use Rattle.std.specs.Ordering.{nat_cmp}
use Rattle.std.specs.BTreeMap.{get}
use Rattle.flag_ir.specs.declared.block.Block.{Block}
use Rattle.flag_ir.specs.Entering.{index_at}
use Rattle.unit_machine.specs.declared.index.BlockIndex.{BlockIndex}

abbrev pub place_in : BlockIndex → ℕ → Option ℕ
place_in index a = get nat_cmp index.places a

-- what an address finds is what the first block at it is, as `index_at` has it
pub record IsIndexOf (blocks : List Block) (index : BlockIndex) : Type 0 where
  pub places : (a : ℕ) → place_in index a ≡ index_at a blocks

-- where an address finds a block at another one that stands at a place
abbrev pub placed : ℕ → ℕ → ℕ → Option ℕ
placed a at place = cond (a == 0) None (cond (at == a) (Some place) None)

-- the one that was found before, or else this
abbrev pub first_place : Option ℕ → Option ℕ → Option ℕ
first_place None o = o
first_place (Some k) o = Some k
