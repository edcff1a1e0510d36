-- Where found code stands. (own)
use Rattle.std.specs.Prelude.{◌≢◌, Contains}
use Rattle.image.specs.declared.image.Image.{Image}
use Rattle.image.specs.Wanted.{FitsWideRoom}
use Rattle.plan_types.specs.declared.place.Place.{Place}
use Rattle.plan_types.specs.Contents.{FoundContents}
use Rattle.plan_types.specs.FoundCode.{IsFoundCode}

-- no instruction is found at address 0, which stands for none in a block
abbrev pub NoneAtZero : FoundContents → Type 0
NoneAtZero found = (p : Place) → Contains found.code p → p.at ≢ 0

-- so it is in an image that fits the wide room
abbrev pub FoundStandsAbove : Type 0
FoundStandsAbove = (image : Image) (found : FoundContents) → FitsWideRoom image.segments image.entry → IsFoundCode image found → NoneAtZero found
