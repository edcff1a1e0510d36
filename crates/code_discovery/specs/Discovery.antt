-- When an image has too much code.
use Rattle.std.specs.Prelude.{◌≡◌}
use Rattle.image.specs.declared.image.Image.{Image}
use Rattle.plan_types.specs.FoundCode.{IsMoreThan}
use Rattle.code_discovery.specs.declared.discover_error.DiscoverError.{DiscoverError}
use Rattle.code_discovery.specs.declared.discover_error.DiscoverError.TheVariants.{TooMuchCode, Memory}

-- the number of TooMuchCode is 32,769, and more than 32,768 instructions are found (own)
abbrev pub IsTooMuch : Image → DiscoverError → Type 0
IsTooMuch image (TooMuchCode n) = (n ≡ 32769) × IsMoreThan image 32768
IsTooMuch image Memory = Unit {0}
