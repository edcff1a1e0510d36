-- Worked rows of memory and of calls.
use Rattle.std.specs.Prelude.{◌≡◌, ℕ, ◌==◌, ◌||◌, Bool, true, false, cond, leb, [], ◌∷◌, Option, Some, None}
use Rattle.x86_values.specs.declared.byte.Byte.{Byte}
use Rattle.x86_values.specs.declared.byte.Byte.TheVariants.{Known, Unspecified}
use Rattle.x86_values.specs.Words.{padded}
use Rattle.outside.specs.Environment.{Environment}
use Rattle.traces.specs.Trace as trace
use Rattle.memory.specs.Memory.{Place, Memory, Stored, put_all, Load, Store, allows_all, bytes_at, forget_below, SameOutside, AreApart, IsWithin, IsForgottenBelow}
use Rattle.memory.specs.SystemCall.{Request, Ends, Gives, Asks, Refused, error, EFAULT, read_plan}
use Rattle.memory.specs.LessSpecified.{PlaceLessSpecified, MemoryLessSpecified, StoresLessSpecified, RequestLessSpecified, CalledLessSpecified}

-- everything is mapped: zeros that can be written, and from 2^31 on zeros that can't
abbrev pub half_open : Memory
half_open a = Some (record { byte = Known 0; can_write = cond (leb 0x80000000 a) false true; on_stack = false })

-- a stack of two bytes, at 8 and 9, beside a byte that is none, at 10
abbrev pub small : Memory
small a = cond (a == 8 || a == 9) (Some (record { byte = Known 7; can_write = true; on_stack = true })) (cond (a == 10) (Some (record { byte = Known 7; can_write = true; on_stack = false })) None)

-- an unspecified byte is stored and loaded as it is
abbrev pub KeepsUnspecified : Type 0
KeepsUnspecified = bytes_at (put_all 0x1000 (Known 1 ∷ Unspecified ∷ Known 3 ∷ []) half_open) 0x0FFF 5 ≡ Known 0 ∷ Known 1 ∷ Unspecified ∷ Known 3 ∷ Known 0 ∷ []

-- the byte after the last address is that at 0
abbrev pub Wraps : Type 0
Wraps = (put_all 0xFFFFFFFF (Known 1 ∷ Known 2 ∷ []) half_open 0 ≡ Some (record { byte = Known 2; can_write = true; on_stack = false })) × (bytes_at (put_all 0 (Known 2 ∷ []) half_open) 0xFFFFFFFF 2 ≡ Known 0 ∷ Known 2 ∷ [])

-- a store maps nothing, and keeps what may be done with a place
abbrev pub MapsNothing : Type 0
MapsNothing = (put_all 10 (Known 1 ∷ Known 2 ∷ []) small 11 ≡ None) × (put_all 10 (Known 1 ∷ Known 2 ∷ []) small 10 ≡ Some (record { byte = Known 1; can_write = true; on_stack = false }))

-- a load wants mapped places, a store those that can be written; each place of the range is looked at, also past the end of the
-- addresses
abbrev pub Allows : Type 0
Allows = (allows_all Load half_open 0x80000000 4 ≡ true) × (allows_all Store half_open 0x7FFFFFFC 4 ≡ true) × (allows_all Store half_open 0x7FFFFFFD 4 ≡ false) × (allows_all Store half_open 0xFFFFFFFF 2 ≡ false) × (allows_all Load small 8 3 ≡ true) × (allows_all Load small 8 4 ≡ false) × (allows_all Load small 7 1 ≡ false)

-- below esp the bytes of the stack alone are forgotten
abbrev pub Forgets : Type 0
Forgets = bytes_at (forget_below 9 small) 8 3 ≡ Unspecified ∷ Known 7 ∷ Known 7 ∷ []

abbrev pub ForgetsStackAlone : Type 0
ForgetsStackAlone = bytes_at (forget_below 11 small) 8 3 ≡ Unspecified ∷ Unspecified ∷ Known 7 ∷ []

-- a read may end at 2^32, and not after it
abbrev pub EndsBelow : Type 0
EndsBelow = (read_plan (λ a. Some (record { byte = Known 0; can_write = true; on_stack = false })) 0 0xFFFFFFFE 2 ≡ Asks 2) × (read_plan (λ a. Some (record { byte = Known 0; can_write = true; on_stack = false })) 0 0xFFFFFFFE 3 ≡ Refused (error EFAULT))

pub record WorkedMemory : Type 0 where
  pub keeps_unspecified : KeepsUnspecified
  pub wraps : Wraps
  pub maps_nothing : MapsNothing
  pub allows : Allows
  pub forgets : Forgets
  pub forgets_stack_alone : ForgetsStackAlone
  pub ends_below : EndsBelow

-- ---- ranges
-- one range may end where the other begins; behind the last address a range goes on at 0
pub record ApartRows : Type 0 where
  pub ends_before : AreApart 8 2 10 1
  pub ends_in_it : AreApart 8 3 10 1 → ⊥
  pub begins_behind : AreApart 10 1 8 2
  pub begins_in_it : AreApart 10 1 8 3 → ⊥
  pub empty : AreApart 8 0 8 1
  pub last_and_first : AreApart 0xFFFFFFFF 1 0 1
  pub first_wraps : AreApart 0xFFFFFFFF 2 0 1 → ⊥
  pub second_wraps : AreApart 0 1 0xFFFFFFFF 2 → ⊥

pub record WithinRows : Type 0 where
  pub whole : IsWithin 8 3 8 3
  pub begins_before : IsWithin 7 2 8 3 → ⊥
  pub ends_behind : IsWithin 9 3 8 3 → ⊥
  pub empty : IsWithin 5 0 8 0
  pub both_wrap : IsWithin 0xFFFFFFFF 2 0xFFFFFFFF 2
  pub second_wraps : IsWithin 0 1 0xFFFFFFFF 2

-- bytes are stored at 8 and 9: the memories differ there, and nowhere else
pub record OutsideRows : Type 0 where
  pub there : SameOutside 8 2 (put_all 8 (Known 1 ∷ Known 2 ∷ []) small) small
  pub without_first : SameOutside 9 1 (put_all 8 (Known 1 ∷ Known 2 ∷ []) small) small → ⊥
  pub without_last : SameOutside 8 1 (put_all 8 (Known 1 ∷ Known 2 ∷ []) small) small → ⊥
  pub wraps : SameOutside 0xFFFFFFFF 2 (put_all 0 (Known 1 ∷ []) half_open) half_open

-- the byte of the stack at 9 is known, and that at 10 is none of the stack
pub record ForgottenRows : Type 0 where
  pub below : IsForgottenBelow 9 (forget_below 9 small)
  pub known : IsForgottenBelow 10 (forget_below 9 small) → ⊥
  pub off_stack : IsForgottenBelow 11 (forget_below 11 small)

-- ---- less specified
abbrev pub place : Byte → Bool → Bool → Option Place
place b can_write on_stack = Some (record { byte = b; can_write = can_write; on_stack = on_stack })

pub record PlaceRows : Type 0 where
  pub known : PlaceLessSpecified (place (Known 255) true false) (place (Known 255) true false)
  pub unspecified : PlaceLessSpecified (place Unspecified false true) (place (Known 7) false true)
  pub more_specified : PlaceLessSpecified (place (Known 7) true true) (place Unspecified true true) → ⊥
  pub other_byte : PlaceLessSpecified (place (Known 7) true true) (place (Known 8) true true) → ⊥
  pub no_byte : PlaceLessSpecified (place (Known 256) true true) (place (Known 256) true true) → ⊥
  pub can_be_written : PlaceLessSpecified (place Unspecified false true) (place Unspecified true true) → ⊥
  pub cannot_be_written : PlaceLessSpecified (place Unspecified true true) (place Unspecified false true) → ⊥
  pub on_stack : PlaceLessSpecified (place Unspecified true false) (place Unspecified true true) → ⊥
  pub off_stack : PlaceLessSpecified (place Unspecified true true) (place Unspecified true false) → ⊥
  pub unmapped : PlaceLessSpecified None None
  pub mapped_on_left : PlaceLessSpecified (place Unspecified true true) None → ⊥
  pub mapped_on_right : PlaceLessSpecified None (place Unspecified true true) → ⊥

pub record MemoryRows : Type 0 where
  pub forgotten : MemoryLessSpecified (forget_below 9 small) small
  pub known_again : MemoryLessSpecified small (forget_below 9 small) → ⊥

abbrev pub stored : ℕ → Byte → Stored
stored at b = record { at = at; bytes = b ∷ [] }

pub record StoreRows : Type 0 where
  pub none : StoresLessSpecified [] []
  pub two : StoresLessSpecified (stored 8 Unspecified ∷ stored 9 (Known 1) ∷ []) (stored 8 (Known 7) ∷ stored 9 (Known 1) ∷ [])
  pub other_order : StoresLessSpecified (stored 8 Unspecified ∷ stored 9 Unspecified ∷ []) (stored 9 (Known 1) ∷ stored 8 (Known 7) ∷ []) → ⊥
  pub other_bytes : StoresLessSpecified (stored 8 Unspecified ∷ stored 9 (Known 1) ∷ []) (stored 8 (Known 7) ∷ stored 9 (Known 2) ∷ []) → ⊥
  pub other_length : StoresLessSpecified (stored 8 Unspecified ∷ []) (record { at = 8; bytes = Known 7 ∷ Known 8 ∷ [] } ∷ []) → ⊥
  pub one_more : StoresLessSpecified [] (stored 8 (Known 7) ∷ []) → ⊥
  pub one_fewer : StoresLessSpecified (stored 8 Unspecified ∷ []) [] → ⊥

-- words whose lowest byte is this one, and whose others are 0
abbrev pub request : Byte → Byte → Byte → Byte → Request
request number fd at count = record { number = padded (number ∷ []); fd = padded (fd ∷ []); at = padded (at ∷ []); count = padded (count ∷ []) }

pub record RequestRows : Type 0 where
  pub known : RequestLessSpecified (request (Known 3) (Known 0) (Known 8) (Known 2)) (request (Known 3) (Known 0) (Known 8) (Known 2))
  pub unspecified : RequestLessSpecified (request Unspecified Unspecified Unspecified Unspecified) (request (Known 3) (Known 0) (Known 8) (Known 2))
  pub other_number : RequestLessSpecified (request (Known 4) (Known 0) (Known 8) (Known 2)) (request (Known 3) (Known 0) (Known 8) (Known 2)) → ⊥
  pub other_fd : RequestLessSpecified (request (Known 3) (Known 1) (Known 8) (Known 2)) (request (Known 3) (Known 0) (Known 8) (Known 2)) → ⊥
  pub other_at : RequestLessSpecified (request (Known 3) (Known 0) (Known 9) (Known 2)) (request (Known 3) (Known 0) (Known 8) (Known 2)) → ⊥
  pub other_count : RequestLessSpecified (request (Known 3) (Known 0) (Known 8) (Known 1)) (request (Known 3) (Known 0) (Known 8) (Known 2)) → ⊥

abbrev pub nothing_left : Environment
nothing_left = record { input = []; answers = [] }

-- the end for the use of an unspecified value excuses every other outcome, and nothing else excuses one
pub record CallRows : Type 0 where
  pub unspecified : CalledLessSpecified (Ends trace.Unspecified) (Gives [] 0 [] nothing_left)
  pub same_end : (e : trace.End) → CalledLessSpecified (Ends e) (Ends e)
  pub exited : CalledLessSpecified (Ends (trace.Exited 0)) (Ends (trace.Exited 1)) → ⊥
  pub memory_fault : CalledLessSpecified (Ends trace.MemoryFault) (Ends trace.DivideFault) → ⊥
  pub divide_fault : CalledLessSpecified (Ends trace.DivideFault) (Ends trace.MemoryFault) → ⊥
  pub outside : CalledLessSpecified (Ends trace.Outside) (Ends trace.Unspecified) → ⊥
  pub other_call : CalledLessSpecified (Ends (trace.OtherCall 5)) (Ends (trace.OtherCall 6)) → ⊥
  pub guard : CalledLessSpecified (Ends (trace.Guard trace.Code 8)) (Ends (trace.Guard trace.Code 9)) → ⊥
  pub stopped : CalledLessSpecified (Ends (trace.Stopped 8)) (Ends (trace.Stopped 9)) → ⊥
  pub same_result : CalledLessSpecified (Gives [] 0 [] nothing_left) (Gives [] 0 [] nothing_left)
  pub ends_on_right : CalledLessSpecified (Gives [] 0 [] nothing_left) (Ends trace.Unspecified) → ⊥
  pub other_result : CalledLessSpecified (Gives [] 0 [] nothing_left) (Gives [] 1 [] nothing_left) → ⊥
  pub other_labels : CalledLessSpecified (Gives [] 0 [] nothing_left) (Gives (trace.Took ∷ []) 0 [] nothing_left) → ⊥
  pub other_stores : CalledLessSpecified (Gives [] 0 (stored 8 (Known 7) ∷ []) nothing_left) (Gives [] 0 [] nothing_left) → ⊥
  pub other_outside : CalledLessSpecified (Gives [] 0 [] nothing_left) (Gives [] 0 [] (record nothing_left { input = 1 ∷ [] })) → ⊥
