-- Memories, and requests and results of calls, that are less specified than others: what is known on the left is the same on the
-- right, and all else but bytes is the same.
use Rattle.std.specs.Prelude.{◌≡◌, ℕ, List, [], ◌∷◌, Option, Some, None}
use Rattle.x86_values.specs.LessSpecified.{ByteLessSpecified, WordLessSpecified, BytesLessSpecified}
use Rattle.traces.specs.Trace.{End, Exited, MemoryFault, DivideFault, Outside, OtherCall, Unspecified, Guard, Stopped}
use Rattle.memory.specs.Memory.{Place, Memory, Stored}
use Rattle.memory.specs.SystemCall.{Request, Called, Ends, Gives}

pub record IsLessSpecifiedPlace (p q : Place) : Type 0 where
  pub byte : ByteLessSpecified p.byte q.byte
  pub can_write : p.can_write ≡ q.can_write
  pub on_stack : p.on_stack ≡ q.on_stack

abbrev pub PlaceLessSpecified : Option Place → Option Place → Type 0
PlaceLessSpecified None None = Unit {0}
PlaceLessSpecified None (Some q) = ⊥
PlaceLessSpecified (Some p) None = ⊥
PlaceLessSpecified (Some p) (Some q) = IsLessSpecifiedPlace p q

pub record MemoryLessSpecified (m n : Memory) : Type 0 where
  pub places : (a : ℕ) → PlaceLessSpecified (m a) (n a)

-- stores at the same addresses, in the same order
abbrev pub StoresLessSpecified : List Stored → List Stored → Type 0
StoresLessSpecified [] ys = ys ≡ []
StoresLessSpecified (x ∷ xs) [] = ⊥
StoresLessSpecified (x ∷ xs) (y ∷ ys) = (x.at ≡ y.at) × BytesLessSpecified x.bytes y.bytes × StoresLessSpecified xs ys

pub record RequestLessSpecified (q r : Request) : Type 0 where
  pub number : WordLessSpecified q.number r.number
  pub fd : WordLessSpecified q.fd r.fd
  pub at : WordLessSpecified q.at r.at
  pub count : WordLessSpecified q.count r.count

-- an end for the use of an unspecified value excuses everything; another end is the same on the right
abbrev pub EndLessSpecified : {A : Type 0} → End → A → A → Type 0
EndLessSpecified Unspecified x y = Unit {0}
EndLessSpecified (Exited n) x y = x ≡ y
EndLessSpecified MemoryFault x y = x ≡ y
EndLessSpecified DivideFault x y = x ≡ y
EndLessSpecified Outside x y = x ≡ y
EndLessSpecified (OtherCall n) x y = x ≡ y
EndLessSpecified (Guard k a) x y = x ≡ y
EndLessSpecified (Stopped a) x y = x ≡ y

-- what a call gives is the same, since it shows and stores known bytes alone
abbrev pub CalledLessSpecified : Called → Called → Type 0
CalledLessSpecified (Ends e) y = EndLessSpecified e (Ends e) y
CalledLessSpecified (Gives ls result stores left) y = y ≡ Gives ls result stores left
