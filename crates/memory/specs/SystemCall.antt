-- The system call `int 0x80` (Linux for the i386): exit is 1, read 3, write 4. The order of the rules, which descriptors are
-- valid, that the whole buffer is looked at, and the cap of 65,536 bytes are own.
use Rattle.std.specs.Prelude.{ℕ, ◌+◌, ◌-◌, ◌==◌, ◌&&◌, ◌||◌, min, Bool, cond, leb, List, [], ◌∷◌, length, map, take, drop, Option, Some, None}
use Rattle.outside.specs.declared.answer.Answer.{Answer}
use Rattle.outside.specs.declared.answer.Answer.TheVariants.{Take, Fail}
use Rattle.outside.specs.Environment.{Environment, cap, next_answer, answers_after}
use Rattle.x86_values.specs.declared.byte.Byte.TheVariants.{Known}
use Rattle.x86_values.specs.declared.word.Word.{Word}
use Rattle.x86_values.specs.Words.{known, known_byte, all_known}
use Rattle.traces.specs.Trace.{Read, Write, Label, Took, Made, End, Exited, OtherCall, Unspecified}
use Rattle.memory.specs.Memory.{Memory, Stored, AccessKind, Load, Store, allows_all, bytes_at}

-- what a call looks at: eax, ebx, ecx, edx
pub record Request : Type 0 where
  pub number : Word
  pub fd : Word
  pub at : Word
  pub count : Word

-- the run ends, or the call has a result, which is shown with these labels, stores bytes, and leaves the outside so
pub data Called : Type 0 where
  Ends : (end : End) → Called
  Gives : (labels : List Label) → (result : ℕ) → (stores : List Stored) → (left : Environment) → Called

-- minus e, as a word
abbrev pub error : ℕ → ℕ
error e = 4294967296 - e

abbrev pub EBADF : ℕ
EBADF = 9

abbrev pub EFAULT : ℕ
EFAULT = 14

-- the whole buffer lies below 2^32, and each of its places allows the access
abbrev pub passes : AccessKind → Memory → ℕ → ℕ → Bool
passes kind m at count = leb (at + count) 4294967296 && allows_all kind m at count

-- what a read or a write comes to before the outside is asked
pub data Plan (A : Type 0) : Type 0 where
  Refused : (result : ℕ) → Plan A
  Stops : Plan A
  Asks : (what : A) → Plan A

-- a read asks for so many bytes
abbrev pub read_plan : Memory → ℕ → ℕ → ℕ → Plan ℕ
read_plan m fd at count =
    cond (fd == 0) (cond (count == 0) (Refused 0) (cond (passes Store m at count) (Asks (min count cap)) (Refused (error EFAULT)))) (Refused (error EBADF))

abbrev pub asks_known : Option (List ℕ) → Plan (List ℕ)
asks_known None = Stops
asks_known (Some bytes) = Asks bytes

-- a write offers these bytes; where one of them is unspecified the run stops (own)
abbrev pub write_plan : Memory → ℕ → ℕ → ℕ → Plan (List ℕ)
write_plan m fd at count =
    cond (fd == 1 || fd == 2) (cond (count == 0) (Refused 0) (cond (passes Load m at count) (asks_known (all_known (bytes_at m at (min count cap)))) (Refused (error EFAULT)))) (Refused (error EBADF))

-- the outside after an answer is taken
abbrev pub after_answer : Environment → Environment
after_answer left = record left { answers = answers_after left.answers }

-- a call that takes an answer: its event is shown behind it
abbrev pub answered : (event : Label) → ℕ → List Stored → Environment → Called
answered event result stores left = Gives (Took ∷ event ∷ []) result stores left

-- a read of at most n bytes, by the answer
abbrev pub read_by : Answer → ℕ → ℕ → ℕ → Environment → Called
read_by (Take k) fd at n left =
    let bytes = take (min k n) left.input in
    answered (Made (Read fd bytes (length bytes))) (length bytes) (record { at = at; bytes = map Known bytes } ∷ []) (record (after_answer left) { input = drop (min k n) left.input })
read_by (Fail e) fd at n left = answered (Made (Read fd [] (error e))) (error e) [] (after_answer left)

-- a write of these bytes, by the answer
abbrev pub write_by : Answer → ℕ → List ℕ → Environment → Called
write_by (Take k) fd bytes left =
    let moved = take k bytes in
    answered (Made (Write fd moved (length moved))) (length moved) [] (after_answer left)
write_by (Fail e) fd bytes left = answered (Made (Write fd [] (error e))) (error e) [] (after_answer left)

abbrev pub reads : Plan ℕ → ℕ → ℕ → Environment → Called
reads (Refused r) fd at left = Gives (Made (Read fd [] r) ∷ []) r [] left
reads Stops fd at left = Ends Unspecified
reads (Asks n) fd at left = read_by (next_answer left.answers) fd at n left

abbrev pub writes : Plan (List ℕ) → ℕ → Environment → Called
writes (Refused r) fd left = Gives (Made (Write fd [] r) ∷ []) r [] left
writes Stops fd left = Ends Unspecified
writes (Asks bytes) fd left = write_by (next_answer left.answers) fd bytes left

-- the calls read and write
unfoldable pub read_call : ℕ → ℕ → ℕ → Memory → Environment → Called
read_call fd at count m left = reads (read_plan m fd at count) fd at left

unfoldable pub write_call : ℕ → ℕ → ℕ → Memory → Environment → Called
write_call fd at count m left = writes (write_plan m fd at count) fd left

-- the status is the lowest byte of ebx; the run stops where it is unspecified (own)
abbrev pub exit_call : Option ℕ → Called
exit_call None = Ends Unspecified
exit_call (Some status) = Ends (Exited status)

-- the descriptor, the address and the count have to be known (own)
abbrev pub transfer_call : (ℕ → ℕ → ℕ → Memory → Environment → Called) → Option ℕ → Option ℕ → Option ℕ → Memory → Environment → Called
transfer_call call (Some fd) (Some at) (Some count) m left = call fd at count m left
transfer_call call _ _ _ m left = Ends Unspecified

-- so has the number; a number other than these three ends the run (own)
abbrev pub call_by : Option ℕ → Request → Memory → Environment → Called
call_by None q m left = Ends Unspecified
call_by (Some n) q m left =
    cond (n == 1) (exit_call (known_byte q.fd.b0))
    (cond (n == 3) (transfer_call read_call (known q.fd) (known q.at) (known q.count) m left)
    (cond (n == 4) (transfer_call write_call (known q.fd) (known q.at) (known q.count) m left)
    (Ends (OtherCall n))))

-- the effect of a call over a memory
unfoldable pub system_call : Request → Memory → Environment → Called
system_call q m left = call_by (known q.number) q m left
