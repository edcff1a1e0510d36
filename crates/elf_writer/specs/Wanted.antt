-- What is wanted of an image that is written.
use Rattle.std.specs.Prelude.{ℕ, ◌≤◌, List, length}
use Rattle.image.specs.declared.image.Segment.{Segment}
use Rattle.image.specs.Wanted.{FitsWideRoom}

-- An image can be written: e_phnum can count its segments, and it is as the wide room wants it.
pub record CanBeWritten (segments : List Segment) (entry : ℕ) : Type 0 where
  pub few : length segments ≤ 65535
  pub fits : FitsWideRoom segments entry
