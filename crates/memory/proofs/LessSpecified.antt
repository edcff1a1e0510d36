-- Memories that are less specified than others.
use Rattle.std.proofs.Common.{◌≡◌, ℕ, zero, suc, ◌+◌, ◌==◌, Bool, true, false, cond, ltb, List, [], ◌∷◌, Option, Some, None, refl, ◌∙◌}
use Rattle.x86_values.specs.declared.byte.Byte.{Byte}
use Rattle.x86_values.specs.declared.byte.Byte.TheVariants.{Unspecified}
use Rattle.x86_values.specs.declared.word.Word.{Word}
use Rattle.x86_values.specs.Words.{IsByte}
use Rattle.x86_values.specs.LessSpecified.{ByteLessSpecified, WordLessSpecified, BytesLessSpecified}
use Rattle.x86_values.specs.LessSpecifiedLaws as values
use Rattle.memory.specs.Memory.{Place, Memory, wrapped, with_byte, put, put_all, Stored, store_all, AccessKind, allows_all, byte_of, bytes_at, forgotten, forget_below, kind_of, HasBytes}
use Rattle.memory.specs.LessSpecified.{PlaceLessSpecified, MemoryLessSpecified, StoresLessSpecified}
use Rattle.memory.proofs.Memories.{allows_by_kinds}
use Rattle.memory.proofs.Bytes.{FitsPlace, there, from_places}

-- a word whose lowest byte alone may be known, by which the laws of words hold of a byte
abbrev of_byte : Byte → Word
of_byte b = record { b0 = b; b1 = Unspecified; b2 = Unspecified; b3 = Unspecified }

less_of_byte : (x y : Byte) → ByteLessSpecified x y → WordLessSpecified (of_byte x) (of_byte y)
less_of_byte x y h = record { b0 = h; b1 = tt; b2 = tt; b3 = tt }

module _ (laws : values.LessSpecifiedLaws) where
  byte_itself : (b : Byte) → IsByte b → ByteLessSpecified b b
  byte_itself b h = (laws.itself (of_byte b) (record { b0 = h; b1 = tt; b2 = tt; b3 = tt })).b0

  byte_of_bytes : (x y : Byte) → ByteLessSpecified x y → IsByte x
  byte_of_bytes x y h = (laws.of_bytes (of_byte x) (of_byte y) (less_of_byte x y h)).b0

  byte_then : (x y z : Byte) → ByteLessSpecified x y → ByteLessSpecified y z → ByteLessSpecified x z
  byte_then x y z h k = (laws.then (of_byte x) (of_byte y) (of_byte z) (less_of_byte x y h) (less_of_byte y z k)).b0

  place_itself : (o : Option Place) → FitsPlace o → PlaceLessSpecified o o
  place_itself None h = tt
  place_itself (Some p) h = record { byte = byte_itself p.byte h; can_write = refl; on_stack = refl }

  place_of_bytes : (o q : Option Place) → PlaceLessSpecified o q → FitsPlace o
  place_of_bytes None q h = tt
  place_of_bytes (Some p) None h = absurd h
  place_of_bytes (Some p) (Some q) h = byte_of_bytes p.byte q.byte h.byte

  place_then : (o q r : Option Place) → PlaceLessSpecified o q → PlaceLessSpecified q r → PlaceLessSpecified o r
  place_then None None r h k = k
  place_then None (Some q) r h k = absurd h
  place_then (Some p) None r h k = absurd h
  place_then (Some p) (Some q) None h k = absurd k
  place_then (Some p) (Some q) (Some r) h k = record { byte = byte_then p.byte q.byte r.byte h.byte k.byte; can_write = h.can_write ∙ k.can_write; on_stack = h.on_stack ∙ k.on_stack }

  pub itself : (m : Memory) → HasBytes m → MemoryLessSpecified m m
  itself m h = record { places = λ a. place_itself (m a) (there m a h) }

  pub of_bytes : (m n : Memory) → MemoryLessSpecified m n → HasBytes m
  of_bytes m n h = from_places m (λ a. place_of_bytes (m a) (n a) (h.places a))

  pub then : (l m n : Memory) → MemoryLessSpecified l m → MemoryLessSpecified m n → MemoryLessSpecified l n
  then l m n h k = record { places = λ a. place_then (l a) (m a) (n a) (h.places a) (k.places a) }

-- ---- accesses
same_kind : (o q : Option Place) → PlaceLessSpecified o q → kind_of o ≡ kind_of q
same_kind None None h = refl
same_kind None (Some q) h = absurd h
same_kind (Some p) None h = absurd h
same_kind (Some p) (Some q) h = rw (h.can_write, h.on_stack) refl

pub allows : (kind : AccessKind) (m n : Memory) (at count : ℕ) → MemoryLessSpecified m n → allows_all kind m at count ≡ allows_all kind n at count
allows kind m n at count h = allows_by_kinds kind m n (λ a. same_kind (m a) (n a) (h.places a)) at count

less_byte : (o q : Option Place) → PlaceLessSpecified o q → ByteLessSpecified (byte_of o) (byte_of q)
less_byte None q h = tt
less_byte (Some p) None h = absurd h
less_byte (Some p) (Some q) h = h.byte

pub bytes : (m n : Memory) (at count : ℕ) → MemoryLessSpecified m n → BytesLessSpecified (bytes_at m at count) (bytes_at n at count)
unfolding bytes_at
bytes m n at zero h = refl
bytes m n at (suc count) h = (less_byte (m (wrapped at)) (n (wrapped at)) (h.places (wrapped at)), bytes m n (at + 1) count h)

-- ---- stores
less_with : (b c : Byte) (o q : Option Place) → ByteLessSpecified b c → PlaceLessSpecified o q → PlaceLessSpecified (with_byte b o) (with_byte c q)
less_with b c None None h k = tt
less_with b c None (Some q) h k = absurd k
less_with b c (Some p) None h k = absurd k
less_with b c (Some p) (Some q) h k = record { byte = h; can_write = k.can_write; on_stack = k.on_stack }

pub less_either : (t : Bool) (o p q r : Option Place) → PlaceLessSpecified o q → PlaceLessSpecified p r → PlaceLessSpecified (cond t o p) (cond t q r)
less_either true o p q r h k = h
less_either false o p q r h k = k

less_put : (at : ℕ) (b c : Byte) (m n : Memory) → ByteLessSpecified b c → MemoryLessSpecified m n → MemoryLessSpecified (put at b m) (put at c n)
unfolding put
less_put at b c m n h k = record { places = λ a. less_either (a == at) _ _ _ _ (less_with b c (m a) (n a) h (k.places a)) (k.places a) }

pub put_bytes : (m n : Memory) (at : ℕ) (bs cs : List Byte) → BytesLessSpecified bs cs → MemoryLessSpecified m n → MemoryLessSpecified (put_all at bs m) (put_all at cs n)
unfolding put_all
put_bytes m n at [] [] h k = k
put_bytes m n at [] (c ∷ cs) h k = absurd cc
put_bytes m n at (b ∷ bs) [] h k = absurd h
put_bytes m n at (b ∷ bs) (c ∷ cs) h k = put_bytes (put (wrapped at) b m) (put (wrapped at) c n) (at + 1) bs cs h.1 (less_put (wrapped at) b c m n h.0 k)

put_at : (m n : Memory) (at to : ℕ) (bs cs : List Byte) → at ≡ to → BytesLessSpecified bs cs → MemoryLessSpecified m n → MemoryLessSpecified (put_all at bs m) (put_all to cs n)
put_at m n at to bs cs e h k = rw e (put_bytes m n to bs cs h k)

pub stored : (m n : Memory) (xs ys : List Stored) → StoresLessSpecified xs ys → MemoryLessSpecified m n → MemoryLessSpecified (store_all xs m) (store_all ys n)
stored m n [] [] h k = k
stored m n [] (y ∷ ys) h k = absurd cc
stored m n (x ∷ xs) [] h k = absurd h
stored m n (x ∷ xs) (y ∷ ys) h k = stored (put_all x.at x.bytes m) (put_all y.at y.bytes n) xs ys h.2 (put_at m n x.at y.at x.bytes y.bytes h.0 h.1 k)

-- ---- what is forgotten
byte_forgotten : (t u : Bool) (x y : Byte) → t ≡ u → ByteLessSpecified x y → ByteLessSpecified (cond t Unspecified x) (cond u Unspecified y)
byte_forgotten true u x y e h = tt
byte_forgotten false true x y e h = absurd cc
byte_forgotten false false x y e h = h

less_forgotten : (o q : Option Place) → PlaceLessSpecified o q → PlaceLessSpecified (forgotten o) (forgotten q)
less_forgotten None None h = tt
less_forgotten None (Some q) h = absurd h
less_forgotten (Some p) None h = absurd h
less_forgotten (Some p) (Some q) h = record { byte = byte_forgotten p.on_stack q.on_stack p.byte q.byte h.on_stack h.byte; can_write = h.can_write; on_stack = h.on_stack }

pub forget : (m n : Memory) (esp : ℕ) → MemoryLessSpecified m n → MemoryLessSpecified (forget_below esp m) (forget_below esp n)
unfolding forget_below
forget m n esp h = record { places = λ a. less_either (ltb a esp) _ _ _ _ (less_forgotten (m a) (n a) (h.places a)) (h.places a) }

byte_forgotten_left : (t : Bool) (x y : Byte) → ByteLessSpecified x y → ByteLessSpecified (cond t Unspecified x) y
byte_forgotten_left true x y h = tt
byte_forgotten_left false x y h = h

less_forgotten_left : (o q : Option Place) → PlaceLessSpecified o q → PlaceLessSpecified (forgotten o) q
less_forgotten_left None q h = h
less_forgotten_left (Some p) None h = absurd h
less_forgotten_left (Some p) (Some q) h = record { byte = byte_forgotten_left p.on_stack p.byte q.byte h.byte; can_write = h.can_write; on_stack = h.on_stack }

less_either_left : (t : Bool) (o p q : Option Place) → PlaceLessSpecified o q → PlaceLessSpecified p q → PlaceLessSpecified (cond t o p) q
less_either_left true o p q h k = h
less_either_left false o p q h k = k

pub forget_left : (m n : Memory) (esp : ℕ) → MemoryLessSpecified m n → MemoryLessSpecified (forget_below esp m) n
unfolding forget_below
forget_left m n esp h = record { places = λ a. less_either_left (ltb a esp) _ _ (n a) (less_forgotten_left (m a) (n a) (h.places a)) (h.places a) }
