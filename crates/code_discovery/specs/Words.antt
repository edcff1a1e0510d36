-- The words of an image, as stored addresses.
use Rattle.std.specs.Prelude.{◌≡◌, ℕ, ◌+◌, ◌*◌, ◌/◌, ◌<◌, true, Contains, Some}
use Rattle.image.specs.declared.image.Image.{Image}
use Rattle.image.specs.declared.image.Segment.{Segment}
use Rattle.image.specs.Addresses.{can_run}
use Rattle.plan_types.specs.FoundCode.{Stands, word_at}
use Rattle.code_discovery.specs.Kept.{FoundSoFar}
use Rattle.code_discovery.specs.Whole.{AreTablesApart}

-- the address that stands as a word is a procedure, if it is code and no table shares a byte with the word
pub record IsStoredKept (image : Image) (k : FoundSoFar) (at : ℕ) : Type 0 where
  pub kept : (a : ℕ) → word_at image at ≡ Some a → can_run image a ≡ true → AreTablesApart k.tables at → Stands image a → Contains k.procs a

-- the same of each word of a page
abbrev pub IsPageKept : Image → FoundSoFar → ℕ → Type 0
IsPageKept image k page = (index : ℕ) → index < 1024 → IsStoredKept image k (page + 4 * index)

-- and of a segment
abbrev pub AreStoredKept : Image → FoundSoFar → Segment → Type 0
AreStoredKept image k s = (index : ℕ) → index < s.size / 4 → IsStoredKept image k (s.start + 4 * index)
