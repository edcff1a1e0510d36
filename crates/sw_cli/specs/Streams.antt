-- What one read or one write comes to, where the reader tells the bytes that it has left, or the writer those that it holds.
use Rattle.std.specs.Prelude.{◌≡◌, ◌<◌, ℕ, List, length, take, Option}
use Rattle.std.specs.Io.KnownBytes.{Appends, Consumes, Keeps, IsAtEnd}
use Rattle.outside.specs.declared.answer.Answer.{Answer}
use Rattle.outside.specs.declared.answer.Answer.TheVariants.{Take, Fail}

-- A read into this buffer: after Take the first k bytes of the buffer are those that the reader had first, and it has lost them;
-- there are none only at the end or without room. A failure has number 5 (Linux: EIO), and then no byte is lost.
abbrev pub ReadsOnce : Option (List ℕ) → Option (List ℕ) → Answer → List ℕ → Type 0
ReadsOnce old new (Take k) buf = Consumes old new (take k buf) × (k ≡ 0 → 0 < length buf → IsAtEnd new)
ReadsOnce old new (Fail e) buf = Keeps old new × (e ≡ 5)

-- A write of these bytes: after Take the writer has the first k of them after its own, and after a failure, of number 5, only its own.
abbrev pub WritesOnce : Option (List ℕ) → Option (List ℕ) → Answer → List ℕ → Type 0
WritesOnce old new (Take k) bytes = Appends old new (take k bytes)
WritesOnce old new (Fail e) bytes = Keeps old new × (e ≡ 5)
