-- What a contract sees of an image and of its segments.
use Rattle.std.specs.Prelude.{ℕ, List}
use Rattle.image.specs.declared.perm.Perm.{Perm}

-- the address of a segment's first byte and its size in memory, in bytes, what may be done with it, and the bytes of its first pages
pub record SegmentContents : Type 0 where
  pub start : ℕ
  pub size : ℕ
  pub perm : Perm
  pub bytes : List ℕ

-- the segments of an image, in the order of their program headers, and the address at which the program begins to run
pub record ImageContents : Type 0 where
  pub segments : List SegmentContents
  pub entry : ℕ
