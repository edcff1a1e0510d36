-- The memory of the image of a written file, at each address.
use Rattle.std.proofs.Common.{◌≡◌, ℕ, ◌<◌, ◌≤◌, true, false, List, Option, Some, None, refl, ap, ◌∙◌, arith}
use Rattle.std.specs.Option.{option_map}
use Rattle.x86_values.specs.declared.byte.Byte.{Byte}
use Rattle.x86_values.specs.declared.byte.Byte.TheVariants.{Known}
use Rattle.image.specs.declared.image.Segment.{Segment}
use Rattle.image.specs.Addresses.{segment_at, segment_byte}
use Rattle.image.specs.Wanted.{image_with}
use Rattle.memory.specs.Memory.{Place, Memory, kind_of, place_in, memory_of}
use Rattle.laid_code.specs.Beginning.{is_off_stack}
use Rattle.code_text.specs.KeptPlaces.{code_start}
use Rattle.laid_image.specs.NewImage.{as_data, new_image, FitsSourceRoom, HasNewRoom}
use Rattle.laid_image.proofs.Fits.{as_written}
use Rattle.laid_image.proofs.Finding.{in_cells, in_variables, in_frames, past_own, below, above}

-- a place that can be written and isn't on the stack
abbrev pub own_place : Byte → Place
own_place b = record { byte = b; can_write = true; on_stack = false }

same_place : (a : ℕ) (o : Option Segment) → option_map (place_in a) (option_map as_data o) ≡ option_map (place_in a) o
same_place a None = refl
same_place a (Some s) = ap (λ b. let p : Place = record { byte = Known (segment_byte a s); can_write = b; on_stack = false } in Some p) (as_written s.perm.0)

place_off_stack : (a : ℕ) (o : Option Segment) → is_off_stack (kind_of (option_map (place_in a) o)) ≡ true
place_off_stack a None = refl
place_off_stack a (Some s) = refl

module _ (old : List Segment) (entry size : ℕ) (code words : List ℕ) (fits : FitsSourceRoom old entry) (room : HasNewRoom size code words) where
  abbrev new : Memory
  new = memory_of (new_image old size code words)

  -- below the own segments it is that of the old ones
  pub data_same : (a : ℕ) → a < code_start → new a ≡ memory_of (image_with old entry) a
  unfolding memory_of segment_at
  data_same a h = ap (option_map (place_in a)) (below size code words room old entry fits a h) ∙ same_place a _

  pub cells_zero : (a : ℕ) → 0x75000000 ≤ a → a < 0x75800000 → new a ≡ Some (own_place (Known 0))
  unfolding memory_of
  cells_zero a from to = ap (option_map (place_in a)) (above size code words room old entry fits a (omega (arith, from)) ∙ in_cells size code words room a from to)

  pub variables_zero : (a : ℕ) → 0x76000000 ≤ a → a < 0x79000000 → new a ≡ Some (own_place (Known 0))
  unfolding memory_of
  variables_zero a from to = ap (option_map (place_in a)) (above size code words room old entry fits a (omega (arith, from)) ∙ in_variables size code words room a from to)

  pub frames_zero : (a : ℕ) → 0x79000000 ≤ a → a < 0x7C000000 → new a ≡ Some (own_place (Known 0))
  unfolding memory_of
  frames_zero a from to = ap (option_map (place_in a)) (above size code words room old entry fits a (omega (arith, from)) ∙ in_frames size code words room a from to)

  pub none_behind : (a : ℕ) → 0x7C000000 ≤ a → new a ≡ None
  unfolding memory_of
  none_behind a h = ap (option_map (place_in a)) (above size code words room old entry fits a (omega (arith, h)) ∙ past_own size code words room a h)

  pub off_stack : (a : ℕ) → is_off_stack (kind_of (new a)) ≡ true
  unfolding memory_of
  off_stack a = place_off_stack a _
