-- The bytes of a width are a size.
use Rattle.std.proofs.Common.{refl}
use Rattle.x86_types.specs.declared.width.Width.{Width}
use Rattle.x86_types.specs.declared.width.Width.TheVariants.{One, Two, Four}
use Rattle.x86_types.specs.Numbers.{size_of}
use Rattle.x86_values.specs.Sizes.{IsSize}

pub size_of_width : (w : Width) → IsSize (size_of w)
size_of_width One = refl
size_of_width Two = refl
size_of_width Four = refl
