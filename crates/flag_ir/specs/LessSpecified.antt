-- Storages that are less specified than others: what is known on the left is the same on the right, and all else but bytes is the same.
use Rattle.std.specs.Prelude.{◌≡◌, ℕ, List, [], ◌∷◌, Result, Ok, Err}
use Rattle.x86_values.specs.declared.word.Word.{Word}
use Rattle.x86_values.specs.LessSpecified.{ByteLessSpecified, WordLessSpecified}
use Rattle.outside.specs.Environment.{IsEnvironment}
use Rattle.traces.specs.Trace.{End, Move, Stand, Go, Halt}
use Rattle.memory.specs.LessSpecified.{MemoryLessSpecified, EndLessSpecified}
use Rattle.flag_ir.specs.Storage.{Frame, Storage}
use Rattle.flag_ir.specs.UnitRun.{UnitState}

pub record FrameLessSpecified (f g : Frame) : Type 0 where
  pub proc : f.proc ≡ g.proc
  pub height : f.height ≡ g.height
  pub word : WordLessSpecified f.word g.word
  pub ebp : WordLessSpecified f.ebp g.ebp
  pub back : f.back ≡ g.back
  pub image : (a : ℕ) → ByteLessSpecified (f.image a) (g.image a)
  pub locals : (n : ℕ) → WordLessSpecified (f.locals n) (g.locals n)

abbrev pub FramesLessSpecified : List Frame → List Frame → Type 0
FramesLessSpecified [] ys = ys ≡ []
FramesLessSpecified (x ∷ xs) [] = ⊥
FramesLessSpecified (x ∷ xs) (y ∷ ys) = FrameLessSpecified x y × FramesLessSpecified xs ys

abbrev pub WordsLessSpecified : (ℕ → Word) → (ℕ → Word) → Type 0
WordsLessSpecified v w = (k : ℕ) → WordLessSpecified (v k) (w k)

-- the input is one of bytes, so that what is read into memory is
pub record StorageLessSpecified (u v : Storage) : Type 0 where
  pub regs : WordsLessSpecified u.regs v.regs
  pub flags : WordsLessSpecified u.flags v.flags
  pub temps : WordsLessSpecified u.temps v.temps
  pub memory : MemoryLessSpecified u.memory v.memory
  pub left : u.left ≡ v.left
  pub environment : IsEnvironment u.left
  pub frames : FramesLessSpecified u.frames v.frames
  pub esp0 : u.esp0 ≡ v.esp0

-- an operation that goes on on the left goes on on the right; an end for the use of an unspecified value excuses everything, and another
-- is the same
abbrev pub ResultLessSpecified : Result Storage End → Result Storage End → Type 0
ResultLessSpecified (Ok u) (Ok v) = StorageLessSpecified u v
ResultLessSpecified (Ok u) (Err e) = ⊥
ResultLessSpecified (Err e) y = EndLessSpecified e (Err e) y

-- so with onward places and moves
abbrev pub OnwardLessSpecified : Result (ℕ × Storage) End → Result (ℕ × Storage) End → Type 0
OnwardLessSpecified (Ok p) (Ok q) = (p.0 ≡ q.0) × StorageLessSpecified p.1 q.1
OnwardLessSpecified (Ok p) (Err e) = ⊥
OnwardLessSpecified (Err e) y = EndLessSpecified e (Err e) y

pub record UnitStateLessSpecified (s t : UnitState) : Type 0 where
  pub storage : StorageLessSpecified s.storage t.storage
  pub turn : s.turn ≡ t.turn
  pub point : s.point ≡ t.point

abbrev pub MoveLessSpecified : Move UnitState → Move UnitState → Type 0
MoveLessSpecified (Go ls s) (Go ks t) = (ls ≡ ks) × UnitStateLessSpecified s t
MoveLessSpecified (Go ls s) (Stand ks e) = ⊥
MoveLessSpecified (Go ls s) (Halt ks e) = ⊥
MoveLessSpecified (Stand ls e) m = EndLessSpecified e (Stand ls e) m
MoveLessSpecified (Halt ls e) m = EndLessSpecified e (Halt ls e) m
