-- What each call does to what a host tells.
use Rattle.std.specs.Prelude.{◌≡◌, ◌≢◌, ℕ, ◌+◌, ◌≤◌, min, Bool, true, false, cond, List, [], ◌∷◌, ◌++◌, length, take, drop, Option, Some, None, Result, Ok, Err, Vec}
use Rattle.std.specs.Option.{option_map}
use Rattle.std.specs.FinMap.{get, insert}
use Rattle.std.specs.declared.alloc.Global.{Global}
use Rattle.std.specs.declared.alloc.AllocError.{AllocError}
use Rattle.outside.specs.declared.answer.Answer.{Answer}
use Rattle.outside.specs.declared.answer.Answer.TheVariants.{Take, Fail}
use Rattle.sw_host.specs.Told.{Told, last_count}
use Rattle.sw_host.specs.declared.host.HostFault.{HostFault}
use Rattle.sw_host.specs.declared.host.HostFault.TheVariants.{Failed, Memory}

-- The host with one more call in its count, which stops at its greatest number. Nothing else changes.
unfoldable pub called : Told → Told
called a = record a { calls = min (a.calls + 1) last_count }

-- The call that was counted last is to fail.
abbrev pub fails : Told → Bool
fails a = a.failing a.calls

-- What a load of at most that many bytes gives, after it was counted: nothing where it is to fail or there is no such file,
-- and otherwise the front of the file.
unfoldable pub loaded : Told → List ℕ → ℕ → Option (List ℕ)
loaded a name limit = cond (fails a) None (option_map (take limit) (get a.files name))

-- What a load does, by its answer. It changes nothing but the count of calls. Memory may be wanting at any load.
abbrev pub Loads : List ℕ → ℕ → Result (Vec ℕ Global) HostFault → Told → Told → Type 0
Loads name limit (Ok v) a b = (b ≡ called a) × (loaded b name limit ≡ Some v.items)
Loads name limit (Err Failed) a b = (b ≡ called a) × (loaded b name limit ≡ None)
Loads name limit (Err Memory) a b = b ≡ called a

-- The host with these bytes as the file of that name. Nothing else changes.
unfoldable pub with_file : Told → List ℕ → List ℕ → Told
with_file a name bytes = record a { files = insert a.files name bytes }

-- The file of that name holds anything or isn't there. Nothing else changed.
pub record Spoils (name : List ℕ) (a b : Told) : Type 0 where
  pub same : b ≡ record a { files = b.files }
  pub others : (q : List ℕ) → q ≢ name → get b.files q ≡ get a.files q

-- What a store does, by its answer. After Ok the file is these bytes, and the call wasn't to fail. After Failed the call was
-- to fail, and the file is spoiled, as it is after Memory.
abbrev pub Stores : List ℕ → List ℕ → Result (Unit {0}) HostFault → Told → Told → Type 0
Stores name bytes (Ok _) a b = (b ≡ with_file (called a) name bytes) × (fails (called a) ≡ false)
Stores name bytes (Err Failed) a b = Spoils name (called a) b × (fails (called a) ≡ true)
Stores name bytes (Err Memory) a b = Spoils name (called a) b

-- The host with one more line, after the others. Nothing else changes.
unfoldable pub with_line : Told → List ℕ → Told
with_line a text = record a { lines = a.lines ++ text ∷ [] }

-- What the call of a line does, by its answer. After Ok the line was added, and the call wasn't to fail. After Failed the call
-- was to fail. After a fault nothing but the count of calls changed.
abbrev pub Lines : List ℕ → Result (Unit {0}) HostFault → Told → Told → Type 0
Lines text (Ok _) a b = (b ≡ with_line (called a) text) × (fails (called a) ≡ false)
Lines text (Err Failed) a b = (b ≡ called a) × (fails (called a) ≡ true)
Lines text (Err Memory) a b = b ≡ called a

-- An answer to a call that is for n bytes at most: so many bytes or fewer, or an error number of Linux.
abbrev pub IsAnswerFor : ℕ → Answer → Type 0
IsAnswerFor n (Take k) = k ≤ n
IsAnswerFor n (Fail e) = (1 ≤ e) × (e ≤ 4095)

-- The host with one more answer, after the others. Nothing else changes.
unfoldable pub with_answer : Told → Answer → Told
with_answer a answer = record a { given = a.given ++ answer ∷ [] }

-- The host with that answer, which gave the first k bytes of its input. Nothing else changes.
unfoldable pub with_taken : Told → ℕ → Told
with_taken a k = record a { given = a.given ++ Take k ∷ []; left = drop k a.left }

-- What a take does, by the bytes of the buffer before and after and by its answer. After Take the front of the buffer is the
-- front of the input that was left. Otherwise the buffer and the input stay. Memory may be wanting at any take.
abbrev pub Takes : List ℕ → List ℕ → Result Answer AllocError → Told → Told → Type 0
Takes before now (Ok (Take k)) a b = (k ≤ length before) × (k ≤ length a.left) × (now ≡ take k a.left ++ drop k before) × (b ≡ with_taken (called a) k)
Takes before now (Ok (Fail e)) a b = (now ≡ before) × (b ≡ with_answer (called a) (Fail e))
Takes before now (Err _) a b = (now ≡ before) × (b ≡ called a)

-- The host with one more answer and one more write, each after the others. Nothing else changes.
unfoldable pub with_moved : Told → Answer → ℕ → List ℕ → Told
with_moved a answer fd bytes = record a { given = a.given ++ answer ∷ []; moved = a.moved ++ (fd, bytes) ∷ [] }

-- What a put of these bytes does, by its answer. After Take the front of the bytes was written, and after Fail none of them.
-- Memory may be wanting at any put, and then there was no write.
abbrev pub Puts : ℕ → List ℕ → Result Answer AllocError → Told → Told → Type 0
Puts fd bytes (Ok (Take k)) a b = (k ≤ length bytes) × (b ≡ with_moved (called a) (Take k) fd (take k bytes))
Puts fd bytes (Ok (Fail e)) a b = b ≡ with_moved (called a) (Fail e) fd []
Puts fd bytes (Err _) a b = b ≡ called a
