-- The place of the instruction that stands at an address.
use Rattle.std.specs.Prelude.{ℕ, Option, Some, None}
use Rattle.image.specs.declared.image.Image.{Image}
use Rattle.x86_types.specs.declared.instr.Instr.{Instr}
use Rattle.x86_code.specs.Code.{code_of}
use Rattle.plan_types.specs.declared.place.Place.{Place}
use Rattle.plan_types.specs.Straight.{place_with}

abbrev pub placed : ℕ → Option (Instr × ℕ) → Option Place
placed at None = None
placed at (Some p) = Some (place_with at p.0 p.1)

abbrev pub standing_place : Image → ℕ → Option Place
standing_place image at = placed at (code_of image at)
