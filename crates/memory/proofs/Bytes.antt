-- Known bytes of memory are below 256.
use Rattle.std.proofs.Common.{◌≡◌, ℕ, zero, suc, ◌+◌, ◌-◌, ◌<◌, ◌==◌, ◌&&◌, Bool, true, false, cond, leb, ltb, List, [], ◌∷◌, length, slice_index, All, Option, Some, None, refl, subst, arith}
use Rattle.std.specs.Option.{option_map}
use Rattle.std.proofs.lemmas.List.Elements.{All-nil, All-cons, All-head, All-tail}
use Rattle.x86_values.specs.declared.byte.Byte.{Byte}
use Rattle.x86_values.specs.declared.byte.Byte.TheVariants.{Known, Unspecified}
use Rattle.x86_values.specs.Words.{IsByte}
use Rattle.image.specs.declared.image.Segment.{Segment}
use Rattle.image.specs.Addresses.{segment_at, segment_byte}
use Rattle.memory.specs.Memory.{Place, Memory, wrapped, with_byte, put, put_all, byte_of, bytes_at, forgotten, forget_below, place_in, memory_of, stack_start, with_stack, HasBytes}
use Rattle.memory.specs.MemoryLaws.{ImageHasBytes, StackHasBytes, PutAllHasBytes, ForgetHasBytes, LoadsBytes}

-- a place has such a byte
abbrev pub FitsPlace : Option Place → Type 0
FitsPlace None = Unit {0}
FitsPlace (Some p) = IsByte p.byte

pub there : (m : Memory) (a : ℕ) → HasBytes m → FitsPlace (m a)
there m a h = cases (m a) refl
  where
    cases : (o : Option Place) → m a ≡ o → FitsPlace o
    cases None e = tt
    cases (Some p) e = h.bytes a p e

pub from_places : (m : Memory) → ((a : ℕ) → FitsPlace (m a)) → HasBytes m
from_places m h = record { bytes = λ a p e. let x : FitsPlace (Some p) = subst FitsPlace e (h a) in x }

with_fits : (b : Byte) (o : Option Place) → IsByte b → FitsPlace o → FitsPlace (with_byte b o)
with_fits b None h k = tt
with_fits b (Some p) h k = h

either_fits : (t : Bool) (o q : Option Place) → FitsPlace o → FitsPlace q → FitsPlace (cond t o q)
either_fits true o q h k = h
either_fits false o q h k = k

put_fits : (at : ℕ) (b : Byte) (m : Memory) → IsByte b → HasBytes m → HasBytes (put at b m)
unfolding put
put_fits at b m h k = from_places _ (λ a. either_fits (a == at) _ _ (with_fits b (m a) h (there m a k)) (there m a k))

pub put_all_has_bytes : PutAllHasBytes
unfolding put_all
put_all_has_bytes at [] m h k = k
put_all_has_bytes at (b ∷ bs) m h k = put_all_has_bytes (at + 1) bs (put (wrapped at) b m) (All-tail IsByte b bs h) (put_fits (wrapped at) b m (All-head IsByte b bs h) k)

byte_forgotten : (t : Bool) (b : Byte) → IsByte b → IsByte (cond t Unspecified b)
byte_forgotten true b h = tt
byte_forgotten false b h = h

forgotten_fits : (o : Option Place) → FitsPlace o → FitsPlace (forgotten o)
forgotten_fits None h = tt
forgotten_fits (Some p) h = byte_forgotten p.on_stack p.byte h

pub forget_has_bytes : ForgetHasBytes
unfolding forget_below
forget_has_bytes esp m k = from_places _ (λ a. either_fits (ltb a esp) _ _ (forgotten_fits (m a) (there m a k)) (there m a k))

byte_of_fits : (o : Option Place) → FitsPlace o → IsByte (byte_of o)
byte_of_fits None h = tt
byte_of_fits (Some p) h = h

pub loads_bytes : LoadsBytes
unfolding bytes_at
loads_bytes m at zero h = All-nil IsByte
loads_bytes m at (suc n) h = All-cons IsByte _ _ (byte_of_fits (m (wrapped at)) (there m (wrapped at) h)) (loads_bytes m (at + 1) n h)

place_fits : (a : ℕ) (o : Option Segment) → ((b : ℕ) → option_map (segment_byte a) o ≡ Some b → b < 256) → FitsPlace (option_map (place_in a) o)
place_fits a None h = tt
place_fits a (Some s) h = h (segment_byte a s) refl

pub image_has_bytes : ImageHasBytes
unfolding memory_of
image_has_bytes image h = from_places _ (λ a. place_fits a (segment_at image a) (h a))

index_fits : (bytes : List ℕ) (k : ℕ) → All (λ b. b < 256) bytes → slice_index bytes k < 256
index_fits [] k h = omega arith
index_fits (b ∷ bs) zero h = All-head (λ b. b < 256) b bs h
index_fits (b ∷ bs) (suc k) h = index_fits bs k (All-tail (λ b. b < 256) b bs h)

pub stack_has_bytes : StackHasBytes
unfolding with_stack
stack_has_bytes esp0 bytes m all k = from_places _ (λ a. either_fits (leb (stack_start esp0) a && ltb a (esp0 + length bytes)) _ _ (byte_forgotten (ltb a esp0) (Known (slice_index bytes (a - esp0))) (index_fits bytes (a - esp0) all)) (there m a k))
