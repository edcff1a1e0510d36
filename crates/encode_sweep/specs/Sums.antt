-- What the sums of a sweep keep to, whatever the bytes are.
use Rattle.std.specs.Prelude.{ℕ, ◌+◌, ◌<◌, ◌≤◌}
use Rattle.encode_sweep.specs.declared.sweep.Sums.{Sums}

-- each instruction has a byte, its best spelling is no longer than the one that was found, and each spelling that stays
-- is one of the instructions'
pub record AreSums (s : Sums) : Type 0 where
  pub few : s.instructions ≤ s.spelled
  pub no_longer : s.best ≤ s.spelled
  pub kept : s.kept ≤ s.instructions

-- one step over at most so many bytes: some are counted more
pub record SumsGrow (bytes : ℕ) (old new : Sums) : Type 0 where
  pub sums : AreSums new
  pub some : old.spelled + old.skipped < new.spelled + new.skipped
  pub within : new.spelled + new.skipped ≤ old.spelled + old.skipped + bytes
