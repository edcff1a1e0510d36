-- Memory and calls are monotone in what is specified.
use Rattle.std.specs.Prelude.{◌≡◌, ℕ, List}
use Rattle.x86_values.specs.declared.byte.Byte.{Byte}
use Rattle.x86_values.specs.LessSpecified.{BytesLessSpecified}
use Rattle.outside.specs.Environment.{Environment}
use Rattle.memory.specs.Memory.{Memory, Stored, AccessKind, HasBytes, put_all, store_all, allows_all, bytes_at, forget_below}
use Rattle.memory.specs.SystemCall.{Request, system_call}
use Rattle.memory.specs.LessSpecified.{MemoryLessSpecified, StoresLessSpecified, RequestLessSpecified, CalledLessSpecified}

pub record LessSpecifiedMemoryLaws : Type 0 where
  -- a memory of bytes is less specified than itself, and no other is; and it goes on from one to the next
  pub itself : (m : Memory) → HasBytes m → MemoryLessSpecified m m
  pub of_bytes : (m n : Memory) → MemoryLessSpecified m n → HasBytes m
  pub then : (l m n : Memory) → MemoryLessSpecified l m → MemoryLessSpecified m n → MemoryLessSpecified l n
  -- accesses are judged alike
  pub allows : (kind : AccessKind) (m n : Memory) (at count : ℕ) → MemoryLessSpecified m n → allows_all kind m at count ≡ allows_all kind n at count
  -- what is loaded is less specified; so is memory after stores, and after bytes are forgotten, on both sides or on the left alone
  pub bytes : (m n : Memory) (at count : ℕ) → MemoryLessSpecified m n → BytesLessSpecified (bytes_at m at count) (bytes_at n at count)
  pub put : (m n : Memory) (at : ℕ) (bs cs : List Byte) → BytesLessSpecified bs cs → MemoryLessSpecified m n → MemoryLessSpecified (put_all at bs m) (put_all at cs n)
  pub stored : (m n : Memory) (xs ys : List Stored) → StoresLessSpecified xs ys → MemoryLessSpecified m n → MemoryLessSpecified (store_all xs m) (store_all ys n)
  pub forget : (m n : Memory) (esp : ℕ) → MemoryLessSpecified m n → MemoryLessSpecified (forget_below esp m) (forget_below esp n)
  pub forget_left : (m n : Memory) (esp : ℕ) → MemoryLessSpecified m n → MemoryLessSpecified (forget_below esp m) n
  -- a call that goes on on the left comes to the same on the right
  pub call : (q r : Request) (m n : Memory) (left : Environment) → RequestLessSpecified q r → MemoryLessSpecified m n → CalledLessSpecified (system_call q m left) (system_call r n left)
