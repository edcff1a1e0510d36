-- What a rewriting comes to: which answer comes, what the files are then, and how many calls were made.
use Rattle.std.specs.Prelude.{◌≡◌, ◌≢◌, ◌⊎◌, ◌<◌, ◌≤◌, ℕ, ◌+◌, ◌^◌, true, false, List, length, Some}
use Rattle.std.specs.FinMap.{get}
use Rattle.elf_image.specs.declared.refusal.Refusal.{Refusal}
use Rattle.rewrite_core.specs.Rewrites.{IsRefused, IsWritten}
use Rattle.rewrite_core.specs.Met.{IsRewritable}
use Rattle.sw_host.specs.Told.{Told}
use Rattle.sw_host.specs.Calls.{called, fails}
use Rattle.sw_top.specs.declared.command.Names.{Names}
use Rattle.sw_top.specs.declared.end.End.{End}
use Rattle.sw_top.specs.declared.end.End.TheVariants.{Done, Ran, Usage, TooLong, Refused, Host, Memory}
use Rattle.sw_top.specs.Loading.{HasFile}
use Rattle.sw_top.specs.Rewriting.{greatest_size, map_text}

-- IN is that file, and the next call, its load, isn't to fail.
abbrev pub IsGiven : Names → Told → List ℕ → Type 0
IsGiven names a file = HasFile names.from a file

-- The answer is the one that is due, or memory was wanting.
abbrev pub IsOrMemory : End → End → Type 0
IsOrMemory due end = (end ≡ due) ⊎ (end ≡ Memory)

-- Neither of the two calls after the load, the stores, is to fail.
pub record BothStore (a : Told) : Type 0 where
  pub out : fails (called (called a)) ≡ false
  pub map : fails (called (called (called a))) ≡ false

-- One of the two stores is to fail.
abbrev pub OneStoreFails : Told → Type 0
OneStoreFails a = (fails (called (called a)) ≡ true) ⊎ (fails (called (called (called a))) ≡ true)

-- Which answer comes where IN is a file whose load isn't to fail. `rose` says that the host's count of faults has risen in
-- the call.
pub record AnswersFile (file : List ℕ) (end : End) (rose : Type 0) (a : Told) : Type 0 where
  pub too_long : greatest_size < length file → IsOrMemory TooLong end
  pub refused : length file ≤ greatest_size → (r : Refusal) → IsRefused file r → IsOrMemory (Refused r) end
  pub done : length file ≤ greatest_size → IsRewritable file → BothStore a → IsOrMemory Done end
  pub no_fault : length file ≤ greatest_size → IsRewritable file → (rose → ⊥) → IsOrMemory Done end
  pub host : length file ≤ greatest_size → IsRewritable file → OneStoreFails a → IsOrMemory Host end

-- Which answer comes: Host where there is no such file.
pub record AnswersRewrite (names : Names) (end : End) (rose : Type 0) (a : Told) : Type 0 where
  pub no_file : ((file : List ℕ) → IsGiven names a file → ⊥) → IsOrMemory Host end
  pub file : (file : List ℕ) → IsGiven names a file → AnswersFile file end rose a

-- So many calls were made, where the count has room for them.
abbrev pub CallsMade : ℕ → Told → Told → Type 0
CallsMade n a b = a.calls < 2 ^ 63 → b.calls ≡ a.calls + n

-- So many calls were made, and no file changed.
pub record KeepsFiles (made : ℕ) (a b : Told) : Type 0 where
  pub calls : CallsMade made a b
  pub files : b.files ≡ a.files

-- The load, the store of OUT and the line were called. OUT holds anything, and no other file changed.
pub record LosesOut (names : Names) (a b : Told) : Type 0 where
  pub calls : CallsMade 3 a b
  pub others : (q : List ℕ) → q ≢ names.to → get b.files q ≡ get a.files q

-- OUT is the whole file that is written for IN, and no files but OUT and MAP changed.
pub record HasOut (names : Names) (a b : Told) : Type 0 where
  pub file : List ℕ
  pub out : List ℕ
  pub had : get a.files names.from ≡ Some file
  pub fits : length file ≤ greatest_size
  pub written : IsWritten file out
  pub has : get b.files names.to ≡ Some out
  pub others : (q : List ℕ) → q ≢ names.to → q ≢ names.map → get b.files q ≡ get a.files q

-- The load, both stores and the line were called. OUT is whole, and MAP holds anything.
pub record LosesMap (names : Names) (a b : Told) : Type 0 where
  pub calls : CallsMade 4 a b
  pub has_out : HasOut names a b

-- The load and both stores were called. OUT and MAP are whole.
pub record HasBoth (names : Names) (a b : Told) : Type 0 where
  pub calls : CallsMade 3 a b
  pub has_out : HasOut names a b
  pub map : get b.files names.map ≡ Some map_text

-- After a fault of the host or want of memory: before the first store, in the store of OUT, or in the store of MAP.
pub data AfterFault (names : Names) (a b : Told) : Type 0 where
  before_stores : KeepsFiles 2 a b → AfterFault names a b
  in_out : LosesOut names a b → AfterFault names a b
  in_map : LosesMap names a b → AfterFault names a b

-- The files after a rewriting with this answer, and how many calls were made. No rewriting answers Usage or Ran.
abbrev pub RewriteLeaves : Names → End → Told → Told → Type 0
RewriteLeaves names Done a b = HasBoth names a b
RewriteLeaves names (Ran end) a b = ⊥
RewriteLeaves names TooLong a b = KeepsFiles 2 a b
RewriteLeaves names (Refused r) a b = KeepsFiles 2 a b
RewriteLeaves names Host a b = AfterFault names a b
RewriteLeaves names Memory a b = AfterFault names a b
RewriteLeaves names Usage a b = ⊥
