-- The memory of the old segments.
use Rattle.std.proofs.Common.{◌≡◌, ◌⊎◌, ℕ, ◌-◌, ◌<◌, ◌≤◌, Bool, true, false, cond, List, [], ◌∷◌, length, get_or, find, All, Option, Some, None, inl, inr, ap, subst, arith}
use Rattle.std.proofs.lemmas.List.{get_or_past}
use Rattle.std.proofs.lemmas.List.Elements.{recursion_from_All}
use Rattle.std.proofs.lemmas.Option.{same_Some}
use Rattle.std.specs.List.{AllByRecursion}
use Rattle.std.specs.Option.{option_map}
use Rattle.image.specs.declared.image.Segment.{Segment}
use Rattle.image.specs.Addresses.{holds, segment_at, segment_byte}
use Rattle.image.specs.Wanted.{image_with}
use Rattle.memory.specs.Memory.{HasBytes, place_in, memory_of}
use Rattle.memory.specs.MemoryLaws.{MemoryLaws}
use Rattle.private_memory.specs.PrivateArea.{IsOfProgram}
use Rattle.laid_image.specs.NewImage.{FitsSourceRoom}
use Rattle.laid_image.specs.ImageLaws.{HoldsBytes}
use Rattle.laid_image.proofs.Finding.{none_low, none_high}

pub none_from : (old : List Segment) (entry : ℕ) → FitsSourceRoom old entry → (a : ℕ) → 0x50000000 ≤ a → memory_of (image_with old entry) a ≡ None
unfolding memory_of segment_at
none_from old entry fits a from = ap (option_map (place_in a)) (none_high old entry fits a from)

pub program : (old : List Segment) (entry : ℕ) → FitsSourceRoom old entry → IsOfProgram (memory_of (image_with old entry))
unfolding memory_of segment_at
program old entry fits = record {
  first_page = λ a low. ap (option_map (place_in a)) (none_low old entry fits a low);
  gap = λ a from to. none_from old entry fits a from;
}

-- ---- bytes
byte_small : (bytes : List ℕ) → All (λ b. b < 256) bytes → (k : ℕ) → get_or bytes k 0 < 256
byte_small bytes h k = by (let cases : (k < length bytes) ⊎ (length bytes ≤ k) = grind arith in cases)
  where
    by : (k < length bytes) ⊎ (length bytes ≤ k) → get_or bytes k 0 < 256
    by (inl within) = h k 0 within
    by (inr past) = let zero_there : get_or bytes k 0 ≡ 0 = get_or_past bytes k 0 past in omega (arith, zero_there)

found_small : (c : Bool) (s : Segment) (o : Option Segment) (a b : ℕ) → All (λ b. b < 256) s.bytes → (option_map (segment_byte a) o ≡ Some b → b < 256) → option_map (segment_byte a) (cond c (Some s) o) ≡ Some b → b < 256
found_small true s o a b h rest e = let same : segment_byte a s ≡ b = same_Some (segment_byte a s) b e in subst (λ n. n < 256) same (byte_small s.bytes h (a - s.start))
found_small false s o a b h rest e = rest e

small : (ss : List Segment) → AllByRecursion (λ (s : Segment). All (λ b. b < 256) s.bytes) ss → (a b : ℕ) → option_map (segment_byte a) (find (holds a) ss) ≡ Some b → b < 256
small [] h a b e = absurd cc
small (s ∷ ss) h a b e = found_small (holds a s) s (find (holds a) ss) a b h.0 (small ss h.1 a b) e

pub segments_have_bytes : MemoryLaws → (segments : List Segment) (entry : ℕ) → HoldsBytes segments → HasBytes (memory_of (image_with segments entry))
unfolding segment_at
segments_have_bytes laws segments entry h =
    laws.image_has_bytes (image_with segments entry) (small segments (recursion_from_All (λ (s : Segment). All (λ b. b < 256) s.bytes) segments h))
