-- The laws of system calls.
use Rattle.std.specs.Prelude.{◌≡◌, ℕ, ◌≤◌, true, false, min, Bool, List, length, All, Some}
use Rattle.x86_values.specs.Words.{IsByte, known}
use Rattle.outside.specs.Environment.{Environment, cap, IsEnvironment}
use Rattle.traces.specs.Trace.{End, Guard, Stopped, events, turns, input_left}
use Rattle.memory.specs.Memory.{Memory, Stored, Load, Store, bytes_at, SameIn}
use Rattle.memory.specs.SystemCall.{Request, Called, Ends, Gives, passes, system_call}

-- two memories have the same buffer for a call: whether it can be read or written, and, where it can be read, its bytes
pub record SameBuffer (at count : ℕ) (m n : Memory) : Type 0 where
  pub load : passes Load m at count ≡ passes Load n at count
  pub store : passes Store m at count ≡ passes Store n at count
  pub bytes : passes Load m at count ≡ true → bytes_at m at (min count cap) ≡ bytes_at n at (min count cap)

-- a call looks at no more of memory than its buffer
abbrev pub CallByBuffer : Type 0
CallByBuffer = (q : Request) (m n : Memory) (left : Environment) → ((at count : ℕ) → known q.at ≡ Some at → known q.count ≡ Some count → SameBuffer at count m n) → system_call q m left ≡ system_call q n left

-- memories that are the same in the buffer have the same buffer
abbrev pub SameInIsBuffer : Type 0
SameInIsBuffer = (at count : ℕ) (m n : Memory) → SameIn at count m n → SameBuffer at count m n

-- neither a stop nor a guard event, which no machine has of its own
abbrev pub is_own_end : End → Bool
is_own_end (Stopped a) = false
is_own_end (Guard k a) = false
is_own_end e = true

-- a call ends with an end of its own, or shows labels that begin no turn
abbrev pub IsPlainCall : Called → Type 0
IsPlainCall (Ends e) = is_own_end e ≡ true
IsPlainCall (Gives ls result stores left) = turns ls ≡ 0

abbrev pub CallsArePlain : Type 0
CallsArePlain = (q : Request) (m : Memory) (left : Environment) → IsPlainCall (system_call q m left)

-- a call shows at most one event
abbrev pub ShowsOneEvent : Called → Type 0
ShowsOneEvent (Ends e) = Unit {0}
ShowsOneEvent (Gives ls result stores left) = length (events ls) ≤ 1

abbrev pub CallsShowOneEvent : Type 0
CallsShowOneEvent = (q : Request) (m : Memory) (left : Environment) → ShowsOneEvent (system_call q m left)

-- what a call stores are known bytes of the input, and what it leaves is an environment again
abbrev pub StoresBytes : List Stored → Type 0
StoresBytes stores = All (λ (s : Stored). All IsByte s.bytes) stores

abbrev pub CallIsKept : Called → Type 0
CallIsKept (Ends e) = Unit {0}
CallIsKept (Gives ls result stores left) = StoresBytes stores × IsEnvironment left

abbrev pub CallsKeepEnvironment : Type 0
CallsKeepEnvironment = (q : Request) (m : Memory) (left : Environment) → IsEnvironment left → CallIsKept (system_call q m left)

-- of the input it leaves what its reads don't take
abbrev pub LeavesInput : List ℕ → Called → Type 0
LeavesInput input (Ends e) = Unit {0}
LeavesInput input (Gives ls result stores left) = left.input ≡ input_left input ls

abbrev pub CallsLeaveInput : Type 0
CallsLeaveInput = (q : Request) (m : Memory) (left : Environment) → LeavesInput left.input (system_call q m left)

-- what a call stores lies in its buffer, which can be written
pub record IsInBuffer (q : Request) (m : Memory) (s : Stored) : Type 0 where
  pub count : ℕ
  pub at : known q.at ≡ Some s.at
  pub counted : known q.count ≡ Some count
  pub within : length s.bytes ≤ count
  pub passed : passes Store m s.at count ≡ true

abbrev pub StoresInBuffer : Request → Memory → Called → Type 0
StoresInBuffer q m (Ends e) = Unit {0}
StoresInBuffer q m (Gives ls result stores left) = All (IsInBuffer q m) stores

abbrev pub CallsStoreInBuffer : Type 0
CallsStoreInBuffer = (q : Request) (m : Memory) (left : Environment) → StoresInBuffer q m (system_call q m left)

-- the laws of system calls
pub record CallLaws : Type 0 where
  pub by_buffer : CallByBuffer
  pub same_in_is_buffer : SameInIsBuffer
  pub are_plain : CallsArePlain
  pub show_one_event : CallsShowOneEvent
  pub keep_environment : CallsKeepEnvironment
  pub leave_input : CallsLeaveInput
  pub store_in_buffer : CallsStoreInBuffer
