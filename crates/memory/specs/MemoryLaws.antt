-- The laws of memory: what stands where bytes were stored or forgotten, what stays, and memories that are the same in some places.
use Rattle.std.specs.Prelude.{◌≡◌, ◌≢◌, ℕ, ◌+◌, ◌^◌, ◌<◌, ◌≤◌, Bool, true, false, List, length, Some, slice_index_or, All}
use Rattle.x86_values.specs.declared.byte.Byte.{Byte}
use Rattle.x86_values.specs.declared.byte.Byte.TheVariants.{Unspecified}
use Rattle.x86_values.specs.Words.{IsByte}
use Rattle.image.specs.declared.image.Image.{Image}
use Rattle.image.specs.Addresses.{byte_at}
use Rattle.memory.specs.Memory.{Place, Memory, wrapped, with_byte, put_all, AccessKind, allows_all, bytes_at, forgotten, forget_below, memory_of, with_stack, kind_of, HasBytes, SameIn, SameOutside, AreApart, IsWithin, IsForgottenBelow}

-- bytes that are stored stand there, where places are mapped; a store may pass the end of the addresses
abbrev pub PutAllThere : Type 0
PutAllThere = (at : ℕ) (bs : List Byte) (m : Memory) (k : ℕ) → length bs ≤ 2 ^ 32 → k < length bs → put_all at bs m (wrapped (at + k)) ≡ with_byte (slice_index_or bs k Unspecified) (m (wrapped (at + k)))

-- every other place stays
abbrev pub PutAllElsewhere : Type 0
PutAllElsewhere = (at : ℕ) (bs : List Byte) (m : Memory) (a : ℕ) → ((k : ℕ) → k < length bs → a ≢ wrapped (at + k)) → put_all at bs m a ≡ m a

-- what is mapped, can be written or is on the stack stays so
abbrev pub PutAllKeepsKinds : Type 0
PutAllKeepsKinds = (at : ℕ) (bs : List Byte) (m : Memory) (a : ℕ) → kind_of (put_all at bs m a) ≡ kind_of (m a)

abbrev pub ForgetKeepsKinds : Type 0
ForgetKeepsKinds = (esp : ℕ) (m : Memory) (a : ℕ) → kind_of (forget_below esp m a) ≡ kind_of (m a)

-- an access is judged by nothing else
abbrev pub AllowsByKinds : Type 0
AllowsByKinds = (kind : AccessKind) (m n : Memory) → ((a : ℕ) → kind_of (m a) ≡ kind_of (n a)) → (at count : ℕ) → allows_all kind m at count ≡ allows_all kind n at count

-- what was stored in mapped places is loaded again, unspecified bytes too
abbrev pub StoredIsLoaded : Type 0
StoredIsLoaded = (kind : AccessKind) (at : ℕ) (bs : List Byte) (m : Memory) → length bs ≤ 2 ^ 32 → allows_all kind m at (length bs) ≡ true → bytes_at (put_all at bs m) at (length bs) ≡ bs

-- what is forgotten: the bytes of the stack below esp alone
abbrev pub ForgetBelow : Type 0
ForgetBelow = (esp : ℕ) (m : Memory) (a : ℕ) → a < esp → forget_below esp m a ≡ forgotten (m a)

abbrev pub ForgetAbove : Type 0
ForgetAbove = (esp : ℕ) (m : Memory) (a : ℕ) → esp ≤ a → forget_below esp m a ≡ m a

abbrev pub ForgetOffStack : Type 0
ForgetOffStack = (esp : ℕ) (m : Memory) (a : ℕ) (can_write : Bool) → kind_of (m a) ≡ Some (can_write, false) → forget_below esp m a ≡ m a

-- forgetting twice is forgetting below the greater
abbrev pub ForgetThenForget : Type 0
ForgetThenForget = (low high : ℕ) (m : Memory) (a : ℕ) → low ≤ high → forget_below high (forget_below low m) a ≡ forget_below high m a

-- a place after bytes are stored, or forgotten, or the stack is added depends on that place alone
abbrev pub PutAllByPlace : Type 0
PutAllByPlace = (at : ℕ) (bs : List Byte) (m n : Memory) (a : ℕ) → m a ≡ n a → put_all at bs m a ≡ put_all at bs n a

abbrev pub ForgetByPlace : Type 0
ForgetByPlace = (esp : ℕ) (m n : Memory) (a : ℕ) → m a ≡ n a → forget_below esp m a ≡ forget_below esp n a

abbrev pub StackByPlace : Type 0
StackByPlace = (esp0 : ℕ) (bytes : List ℕ) (m n : Memory) (a : ℕ) → m a ≡ n a → with_stack esp0 bytes m a ≡ with_stack esp0 bytes n a

-- memories that are the same in a range allow the same there, and have the same bytes
abbrev pub AllowsInSame : Type 0
AllowsInSame = (kind : AccessKind) (m n : Memory) (at count : ℕ) → SameIn at count m n → allows_all kind m at count ≡ allows_all kind n at count

abbrev pub BytesInSame : Type 0
BytesInSame = (m n : Memory) (at count : ℕ) → SameIn at count m n → bytes_at m at count ≡ bytes_at n at count

-- known bytes are below 256: in the pages of an image of bytes, beside a stack of bytes, after bytes are stored, and where some
-- are forgotten; and so are those that are loaded
abbrev pub ImageHasBytes : Type 0
ImageHasBytes = (image : Image) → ((a b : ℕ) → byte_at image a ≡ Some b → b < 256) → HasBytes (memory_of image)

abbrev pub StackHasBytes : Type 0
StackHasBytes = (esp0 : ℕ) (bytes : List ℕ) (m : Memory) → All (λ b. b < 256) bytes → HasBytes m → HasBytes (with_stack esp0 bytes m)

abbrev pub PutAllHasBytes : Type 0
PutAllHasBytes = (at : ℕ) (bs : List Byte) (m : Memory) → All IsByte bs → HasBytes m → HasBytes (put_all at bs m)

abbrev pub ForgetHasBytes : Type 0
ForgetHasBytes = (esp : ℕ) (m : Memory) → HasBytes m → HasBytes (forget_below esp m)

abbrev pub LoadsBytes : Type 0
LoadsBytes = (m : Memory) (at count : ℕ) → HasBytes m → All IsByte (bytes_at m at count)

-- a store keeps the bytes of a range that is apart from its own, and what is allowed anywhere
abbrev pub BytesElsewhere : Type 0
BytesElsewhere = (at : ℕ) (bs : List Byte) (m : Memory) (from n : ℕ) → AreApart from n at (length bs) → bytes_at (put_all at bs m) from n ≡ bytes_at m from n

abbrev pub AllowsAfter : Type 0
AllowsAfter = (kind : AccessKind) (at : ℕ) (bs : List Byte) (m : Memory) (from n : ℕ) → allows_all kind (put_all at bs m) from n ≡ allows_all kind m from n

-- two ranges are apart where one ends before the other begins, and the other before the first begins again at 2^32
abbrev pub ApartInOrder : Type 0
ApartInOrder = (from n at count : ℕ) → from + n ≤ at → at + count ≤ from + 2 ^ 32 → AreApart from n at count

abbrev pub ApartSymmetric : Type 0
ApartSymmetric = (from n at count : ℕ) → AreApart from n at count → AreApart at count from n

-- a range is within another where it begins no earlier and ends no later
abbrev pub WithinInOrder : Type 0
WithinInOrder = (from n at count : ℕ) → at ≤ from → from + n ≤ at + count → IsWithin from n at count

-- memories that are the same outside a range stay so where both are stored to alike, where one alone is stored to within the
-- range, and where bytes are forgotten in both
abbrev pub SameOutsidePut : Type 0
SameOutsidePut = (at count from : ℕ) (bs : List Byte) (m n : Memory) → SameOutside at count m n → SameOutside at count (put_all from bs m) (put_all from bs n)

abbrev pub SameOutsidePutWithin : Type 0
SameOutsidePutWithin = (at count from : ℕ) (bs : List Byte) (m n : Memory) → IsWithin from (length bs) at count → SameOutside at count m n → SameOutside at count (put_all from bs m) n

abbrev pub SameOutsideForget : Type 0
SameOutsideForget = (at count esp : ℕ) (m n : Memory) → SameOutside at count m n → SameOutside at count (forget_below esp m) (forget_below esp n)

abbrev pub SameOutsideSymmetric : Type 0
SameOutsideSymmetric = (at count : ℕ) (m n : Memory) → SameOutside at count m n → SameOutside at count n m

-- they allow the same in a range that is apart from it, and have the same bytes there
abbrev pub AllowsOutside : Type 0
AllowsOutside = (kind : AccessKind) (at count from size : ℕ) (m n : Memory) → AreApart from size at count → SameOutside at count m n → allows_all kind m from size ≡ allows_all kind n from size

abbrev pub BytesOutside : Type 0
BytesOutside = (at count from size : ℕ) (m n : Memory) → AreApart from size at count → SameOutside at count m n → bytes_at m from size ≡ bytes_at n from size

-- after forgetting below esp no byte of the stack is known below it
abbrev pub ForgetIsForgotten : Type 0
ForgetIsForgotten = (esp : ℕ) (m : Memory) → IsForgottenBelow esp (forget_below esp m)

-- where none is known below an address, forgetting changes no place below it
abbrev pub ForgetAsInvariant : Type 0
ForgetAsInvariant = (low high : ℕ) (m : Memory) (a : ℕ) → IsForgottenBelow low m → a < low → forget_below high m a ≡ m a

-- and a store makes bytes of the stack below it known in its own places alone
abbrev pub StoreExposes : Type 0
StoreExposes = (low at : ℕ) (bs : List Byte) (m : Memory) (a : ℕ) (p : Place) → IsForgottenBelow low m → ((k : ℕ) → k < length bs → a ≢ wrapped (at + k)) → a < low → put_all at bs m a ≡ Some p → p.on_stack ≡ true → p.byte ≡ Unspecified

-- the laws of memory
pub record MemoryLaws : Type 0 where
  pub put_all_there : PutAllThere
  pub put_all_elsewhere : PutAllElsewhere
  pub put_all_keeps_kinds : PutAllKeepsKinds
  pub forget_keeps_kinds : ForgetKeepsKinds
  pub allows_by_kinds : AllowsByKinds
  pub stored_is_loaded : StoredIsLoaded
  pub forget_below : ForgetBelow
  pub forget_above : ForgetAbove
  pub forget_off_stack : ForgetOffStack
  pub forget_then_forget : ForgetThenForget
  pub put_all_by_place : PutAllByPlace
  pub forget_by_place : ForgetByPlace
  pub stack_by_place : StackByPlace
  pub allows_in_same : AllowsInSame
  pub bytes_in_same : BytesInSame
  pub image_has_bytes : ImageHasBytes
  pub stack_has_bytes : StackHasBytes
  pub put_all_has_bytes : PutAllHasBytes
  pub forget_has_bytes : ForgetHasBytes
  pub loads_bytes : LoadsBytes
  pub bytes_elsewhere : BytesElsewhere
  pub allows_after : AllowsAfter
  pub apart_in_order : ApartInOrder
  pub apart_symmetric : ApartSymmetric
  pub within_in_order : WithinInOrder
  pub same_outside_put : SameOutsidePut
  pub same_outside_put_within : SameOutsidePutWithin
  pub same_outside_forget : SameOutsideForget
  pub same_outside_symmetric : SameOutsideSymmetric
  pub allows_outside : AllowsOutside
  pub bytes_outside : BytesOutside
  pub forget_is_forgotten : ForgetIsForgotten
  pub forget_as_invariant : ForgetAsInvariant
  pub store_exposes : StoreExposes
