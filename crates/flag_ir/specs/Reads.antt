-- What operations read and write of a storage. All of this is own.
use Rattle.std.specs.Prelude.{◌≡◌, ℕ, List, [], ◌∷◌, ◌++◌, map, Contains, Option, Result, Ok, Err}
use Rattle.x86_values.specs.declared.byte.Byte.{Byte}
use Rattle.x86_values.specs.declared.word.Word.{Word}
use Rattle.traces.specs.Trace.{End}
use Rattle.flag_ir.specs.declared.variable.Var.{Var}
use Rattle.flag_ir.specs.declared.variable.Var.TheVariants as var
use Rattle.flag_ir.specs.declared.variable.Term.{Term}
use Rattle.flag_ir.specs.declared.variable.Term.TheVariants as term
use Rattle.flag_ir.specs.declared.operation.Op.{Op}
use Rattle.flag_ir.specs.declared.operation.Op.TheVariants as op
use Rattle.flag_ir.specs.declared.procedure.Proc.{Proc}
use Rattle.flag_ir.specs.Storage.{Frame, Storage, var_in}

-- a variable, memory, what is left of the outside, or the bytes of the open frames
pub data StorageLocation : Type 0 where
  InVar : (variable : Var) → StorageLocation
  InMemory : StorageLocation
  InOutside : StorageLocation
  InFrames : StorageLocation

-- ---- what an operation reads
abbrev pub read_in : Term → List StorageLocation
read_in (term.Var v) = InVar v ∷ []
read_in (term.Word n) = []

-- the registers by which a call is asked
abbrev pub request_reads : List StorageLocation
request_reads = InVar (var.Reg 0) ∷ InVar (var.Reg 3) ∷ InVar (var.Reg 1) ∷ InVar (var.Reg 2) ∷ []

abbrev pub reads_of : Op → List StorageLocation
reads_of (op.Set to from) = read_in from
reads_of (op.Calc to calc left right) = read_in left ++ read_in right
reads_of (op.Forget to) = []
reads_of (op.Pick to test x y) = read_in test ++ read_in x ++ read_in y
reads_of (op.Need from) = read_in from
reads_of (op.Divide quotient remainder high low by size signed) = read_in high ++ read_in low ++ read_in by
reads_of (op.Load to size at) = InMemory ∷ read_in at
reads_of (op.Store size at from) = InMemory ∷ read_in at ++ read_in from
reads_of (op.NearLoad to size at) = InMemory ∷ InFrames ∷ read_in at
reads_of (op.NearStore size at from) = InMemory ∷ InFrames ∷ read_in at ++ read_in from
reads_of (op.Get to size offset) = InFrames ∷ []
reads_of (op.Put size offset from) = InFrames ∷ read_in from
reads_of op.System = InMemory ∷ InOutside ∷ request_reads
reads_of op.NearSystem = InMemory ∷ InOutside ∷ InFrames ∷ request_reads

-- ---- what it may write
abbrev pub writes_of : Op → List StorageLocation
writes_of (op.Set to from) = InVar to ∷ []
writes_of (op.Calc to calc left right) = InVar to ∷ []
writes_of (op.Forget to) = InVar to ∷ []
writes_of (op.Pick to test x y) = InVar to ∷ []
writes_of (op.Need from) = []
writes_of (op.Divide quotient remainder high low by size signed) = InVar remainder ∷ InVar quotient ∷ []
writes_of (op.Load to size at) = InVar to ∷ []
writes_of (op.Store size at from) = InMemory ∷ []
writes_of (op.NearLoad to size at) = InVar to ∷ []
writes_of (op.NearStore size at from) = InFrames ∷ InMemory ∷ []
writes_of (op.Get to size offset) = InVar to ∷ []
writes_of (op.Put size offset from) = InFrames ∷ []
writes_of op.System = InVar (var.Reg 0) ∷ InMemory ∷ InOutside ∷ []
writes_of op.NearSystem = InVar (var.Reg 0) ∷ InMemory ∷ InOutside ∷ InFrames ∷ []

-- ---- the same at a location
abbrev pub images : List Frame → List (ℕ → Byte)
images frames = map (λ f. f.image) frames

abbrev pub SameAt : StorageLocation → Storage → Storage → Type 0
SameAt (InVar x) u v = var_in x u ≡ var_in x v
SameAt InMemory u v = u.memory ≡ v.memory
SameAt InOutside u v = u.left ≡ v.left
SameAt InFrames u v = images u.frames ≡ images v.frames

-- what no operation changes: the open frames but for their bytes and locals, and esp0
pub record Outline : Type 0 where
  pub proc : Proc
  pub height : ℕ
  pub word : Word
  pub ebp : Word
  pub back : Option ℕ

abbrev pub outline : Frame → Outline
outline f = record { proc = f.proc; height = f.height; word = f.word; ebp = f.ebp; back = f.back }

abbrev pub outlines : List Frame → List Outline
outlines frames = map outline frames

pub record SameOutline (u v : Storage) : Type 0 where
  pub frames : outlines u.frames ≡ outlines v.frames
  pub esp0 : u.esp0 ≡ v.esp0

-- two storages are the same at each of some locations
pub record AgreesOn (ls : List StorageLocation) (u v : Storage) : Type 0 where
  pub outline : SameOutline u v
  pub same : (l : StorageLocation) → Contains ls l → SameAt l u v

-- so are two results, of which an end is the same
abbrev pub ResultsAgree : List StorageLocation → Result Storage End → Result Storage End → Type 0
ResultsAgree ls (Ok u) (Ok v) = AgreesOn ls u v
ResultsAgree ls (Ok u) (Err e) = ⊥
ResultsAgree ls (Err e) (Ok v) = ⊥
ResultsAgree ls (Err e) (Err f) = e ≡ f

-- two storages are the same everywhere else
pub record ChangesOnly (ls : List StorageLocation) (u v : Storage) : Type 0 where
  pub outline : SameOutline u v
  pub same : (l : StorageLocation) → (Contains ls l → ⊥) → SameAt l u v

-- ---- lists of operations
-- each operation reads from these locations or from what is written before it
abbrev pub AreAmong : List StorageLocation → List StorageLocation → Type 0
AreAmong xs ls = (l : StorageLocation) → Contains xs l → Contains ls l

abbrev pub ReadsAmong : List StorageLocation → List Op → Type 0
ReadsAmong ls [] = Unit {0}
ReadsAmong ls (o ∷ os) = AreAmong (reads_of o) ls × ReadsAmong (writes_of o ++ ls) os

-- these locations and all that are written
abbrev pub with_writes : List StorageLocation → List Op → List StorageLocation
with_writes ls [] = ls
with_writes ls (o ∷ os) = with_writes (writes_of o ++ ls) os
