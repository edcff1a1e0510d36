-- What a host tells of itself.
use Rattle.std.specs.Prelude.{◌≡◌, ℕ, ◌+◌, ◌-◌, ◌^◌, ◌≤◌, min, Bool, List, Option, Some, Result, Ok, Err}
use Rattle.std.specs.Ordering.{nat_cmp}
use Rattle.std.specs.Cmp.Lexicographic.{slice_cmp}
use Rattle.std.specs.FinMap.{FinMap}
use Rattle.outside.specs.declared.answer.Answer.{Answer}
use Rattle.sw_host.specs.declared.host.HostFault.{HostFault}
use Rattle.sw_host.specs.declared.host.HostFault.TheVariants.{Failed, Memory}

-- Files by their names; names and files are lists of bytes.
abbrev pub Files : Type 0
Files = FinMap (slice_cmp nat_cmp) (List ℕ)

-- All that a host tells.
pub record Told : Type 0 where
  pub files : Files
  -- the input not yet taken
  pub left : List ℕ
  -- the answers to reads and writes so far
  pub given : List Answer
  -- the file descriptor and the bytes of each write
  pub moved : List (ℕ × List ℕ)
  -- the texts of the lines
  pub lines : List (List ℕ)
  -- how many calls were made
  pub calls : ℕ
  -- whether the call of that number is to fail
  pub failing : ℕ → Bool

-- A host that tells before a call tells after it, and P holds of what it told before and after.
pub record Tells (old new : Option Told) (P : Told → Told → Type 0) : Type 0 where
  pub at : (a : Told) → old ≡ Some a → (b : Told) × (new ≡ Some b) × P a b

-- The greatest number that a count comes to.
abbrev pub last_count : ℕ
last_count = 2 ^ 64 - 1

-- A count has risen, or stands at its greatest number.
abbrev pub Rose : ℕ → ℕ → Type 0
Rose before now = min (before + 1) last_count ≤ now

-- A count of faults never falls, and `Failed` comes only where it rose.
abbrev pub HasCause : {T : Type 0} → ℕ → ℕ → Result T HostFault → Type 0
HasCause before now (Err Failed) = (before ≤ now) × Rose before now
HasCause before now (Err Memory) = before ≤ now
HasCause before now (Ok _) = before ≤ now
