-- The code of an image lies within the room.
use Rattle.std.proofs.Common.{◌≡◌, ℕ, zero, suc, ◌+◌, ◌<◌, ◌≤◌, true, List, [], ◌∷◌, length, find, Option, Some, None, refl, arith}
use Rattle.std.proofs.lemmas.List.Elements.{All-from_recursion, All-contains}
use Rattle.std.proofs.lemmas.Bool.Decides.{nat_tests}
use Rattle.image.specs.declared.image.Image.{Image}
use Rattle.image.specs.declared.image.Segment.{Segment}
use Rattle.image.specs.declared.room.Room.TheVariants.{Any}
use Rattle.image.specs.Rooms.{room_end}
use Rattle.image.specs.Addresses.{holds, segment_at, code_byte_in, code_byte_at, then_code, code_bytes}
use Rattle.image.specs.Wanted.{HasItsPlace, FitsWideRoom}
use Rattle.plan_types.proofs.Members.{found_in}

before_end : (a start size end : ℕ) → holds a (record { start = start; size = size; perm = record { 0 = 0 }; bytes = [] }) ≡ true → start + size ≤ end → a < end
before_end a start size end h to = grind (arith, nat_tests)

held : (image : Image) → FitsWideRoom image.segments image.entry → (a : ℕ) (s : Segment) → find (holds a) image.segments ≡ Some s → a < room_end Any
held image fits a s e =
    let there = found_in (holds a) image.segments s e in
    let place = All-contains HasItsPlace image.segments s (All-from_recursion HasItsPlace image.segments fits.each) there.0 in
    before_end a s.start s.size (room_end Any) there.1 place.to

code_within : (image : Image) → FitsWideRoom image.segments image.entry → (a : ℕ) (o : Option Segment) → find (holds a) image.segments ≡ o → (b : ℕ) → code_byte_in a o ≡ Some b → a < room_end Any
code_within image fits a None e b c = cc
code_within image fits a (Some s) e b c = held image fits a s e

-- a byte that can be run lies within the room
pub byte_within : (image : Image) → FitsWideRoom image.segments image.entry → (a b : ℕ) → code_byte_at image a ≡ Some b → a < room_end Any
unfolding segment_at
byte_within image fits a b c = code_within image fits a (find (holds a) image.segments) refl b c

-- so do those that follow it
ends_by : (end : ℕ) (a : ℕ) (o : Option ℕ) (more : List ℕ) → ((b : ℕ) → o ≡ Some b → a < end) → (0 < length more → (a + 1) + length more ≤ end) → 0 < length (then_code o more) → a + length (then_code o more) ≤ end
ends_by end a None more here later some = absurd (omega arith)
ends_by end a (Some b) [] here later some = let low = here b refl in omega arith
ends_by end a (Some b) (c ∷ more) here later some = let low = later (omega arith) in omega arith

pub bytes_within : (image : Image) → FitsWideRoom image.segments image.entry → (n a : ℕ) → 0 < length (code_bytes image a n) → a + length (code_bytes image a n) ≤ room_end Any
unfolding code_bytes
bytes_within image fits zero a some = absurd (omega arith)
bytes_within image fits (suc n) a some = ends_by (room_end Any) a (code_byte_at image a) (code_bytes image (a + 1) n) (λ b e. byte_within image fits a b e) (λ some. bytes_within image fits n (a + 1) some) some
