-- The cells of names: a word of memory for each, in order, and one more. All of this is own.
use Rattle.std.specs.Prelude.{ℕ, ◌+◌, ◌*◌, max, List, map, fold, None}
use Rattle.std.specs.List.{range_with_len}
use Rattle.named_code.specs.declared.slot.Slot.{Slot}
use Rattle.named_code.specs.declared.slot.Slot.TheVariants.{Fixed, Name}
use Rattle.named_code.specs.declared.named.VInstr.{VInstr}
use Rattle.named_code.specs.declared.named.VBlock.{VBlock}
use Rattle.named_code.specs.declared.placed.Home.{Home}

-- the names' cells lie from 0x75220000 up to 0x75800000
abbrev pub cell_at : ℕ → ℕ
cell_at n = 0x75220000 + 4 * n

abbrev pub home_at : ℕ → Home
home_at n = record { register = None; cell = cell_at n }

abbrev pub homes_of : ℕ → List Home
homes_of count = map home_at (range_with_len 0 count)

-- ---- how many names there are: one more than the greatest
abbrev pub counted_slot : ℕ → Slot → ℕ
counted_slot count (Fixed r) = count
counted_slot count (Name n) = max count (n + 1)

abbrev pub counted_instr : ℕ → VInstr → ℕ
counted_instr count x = fold counted_slot count x.slots

abbrev pub counted_block : ℕ → VBlock → ℕ
counted_block count b = fold counted_instr count b.code

abbrev pub name_count : List VBlock → ℕ
name_count code = fold counted_block 0 code
