-- The laws of system calls.
use Rattle.std.proofs.Common.{◌≡◌, ℕ, zero, suc, ◌+◌, ◌<◌, ◌≤◌, ◌==◌, ◌&&◌, ◌||◌, Bool, true, false, cond, leb, min, List, [], ◌∷◌, length, map, take, drop, All, Option, Some, None, refl, ◌∙◌, ap, arith}
use Rattle.std.proofs.lemmas.List.{length-map, length-take}
use Rattle.std.proofs.lemmas.List.Elements.{All-nil, All-cons, All-head, All-tail, All-take, All-drop}
use Rattle.outside.specs.declared.answer.Answer.{Answer}
use Rattle.outside.specs.declared.answer.Answer.TheVariants.{Take, Fail}
use Rattle.outside.specs.Environment.{Environment, cap, next_answer, answers_after, IsAnswer, IsEnvironment}
use Rattle.traces.specs.Trace.{OtherCall, Unspecified}
use Rattle.x86_values.specs.declared.byte.Byte.TheVariants.{Known}
use Rattle.x86_values.specs.Words.{IsByte, known, known_byte, all_known}
use Rattle.memory.specs.Memory.{Memory, Stored, Load, Store, bytes_at, SameIn}
use Rattle.memory.specs.SystemCall.{Request, Called, Ends, error, EBADF, EFAULT, passes, Plan, Refused, Stops, Asks, read_plan, asks_known, write_plan, after_answer, read_by, write_by, reads, writes, read_call, write_call, exit_call, transfer_call, call_by, system_call}
use Rattle.memory.specs.CallLaws.{SameBuffer, CallByBuffer, SameInIsBuffer, IsPlainCall, CallsArePlain, ShowsOneEvent, CallsShowOneEvent, StoresBytes, CallIsKept, CallsKeepEnvironment, LeavesInput, CallsLeaveInput, IsInBuffer, StoresInBuffer, CallsStoreInBuffer}
use Rattle.memory.proofs.Memories.{allows_in_same, bytes_in_same}

fewer : (at count k : ℕ) (m n : Memory) → k ≤ count → SameIn at count m n → SameIn at k m n
fewer at count k m n l h = record { places = λ i p. h.places i (omega arith) }

pub same_in_is_buffer : SameInIsBuffer
same_in_is_buffer at count m n h = record {
  load = ap (λ t. leb (at + count) 4294967296 && t) (allows_in_same Load m n at count h);
  store = ap (λ t. leb (at + count) 4294967296 && t) (allows_in_same Store m n at count h);
  bytes = λ p. bytes_in_same m n at (min count cap) (fewer at count (min count cap) m n (omega arith) h);
}

-- ---- what a call looks at
where_it_passes : (t : Bool) (x y r : Plan (List ℕ)) → (t ≡ true → x ≡ y) → cond t x r ≡ cond t y r
where_it_passes true x y r h = h refl
where_it_passes false x y r h = refl

module _ (m n : Memory) (left : Environment) where
  same_read : (fd at count : ℕ) → SameBuffer at count m n → read_call fd at count m left ≡ read_call fd at count n left
  unfolding read_call
  same_read fd at count h = ap (λ t. reads (cond (fd == 0) (cond (count == 0) (Refused 0) (cond t (Asks (min count cap)) (Refused (error EFAULT)))) (Refused (error EBADF))) fd at left) h.store

  same_offered : (at count : ℕ) → SameBuffer at count m n → cond (passes Load m at count) (asks_known (all_known (bytes_at m at (min count cap)))) (Refused (error EFAULT)) ≡ cond (passes Load n at count) (asks_known (all_known (bytes_at n at (min count cap)))) (Refused (error EFAULT))
  same_offered at count h =
      where_it_passes (passes Load m at count) _ _ (Refused (error EFAULT)) (λ p. ap (λ x. asks_known (all_known x)) (h.bytes p))
      ∙ ap (λ t. cond t (asks_known (all_known (bytes_at n at (min count cap)))) (Refused (error EFAULT))) h.load

  same_write : (fd at count : ℕ) → SameBuffer at count m n → write_call fd at count m left ≡ write_call fd at count n left
  unfolding write_call
  same_write fd at count h = ap (λ x. writes (cond (fd == 1 || fd == 2) (cond (count == 0) (Refused 0) x) (Refused (error EBADF))) fd left) (same_offered at count h)

  same_transfer : (call : ℕ → ℕ → ℕ → Memory → Environment → Called) → ((fd at count : ℕ) → SameBuffer at count m n → call fd at count m left ≡ call fd at count n left) → (fd at count : Option ℕ) → ((a c : ℕ) → at ≡ Some a → count ≡ Some c → SameBuffer a c m n) → transfer_call call fd at count m left ≡ transfer_call call fd at count n left
  same_transfer call h (Some fd) (Some at) (Some count) same = h fd at count (same at count refl refl)
  same_transfer call h None at count same = refl
  same_transfer call h (Some fd) None count same = refl
  same_transfer call h (Some fd) (Some at) None same = refl

  same_call : (o : Option ℕ) (q : Request) → ((at count : ℕ) → known q.at ≡ Some at → known q.count ≡ Some count → SameBuffer at count m n) → call_by o q m left ≡ call_by o q n left
  same_call None q same = refl
  same_call (Some k) q same =
      let r = same_transfer read_call same_read (known q.fd) (known q.at) (known q.count) same in
      let w = same_transfer write_call same_write (known q.fd) (known q.at) (known q.count) same in
      ap (λ x. cond (k == 1) (exit_call (known_byte q.fd.b0)) (cond (k == 3) x (cond (k == 4) (transfer_call write_call (known q.fd) (known q.at) (known q.count) m left) (Ends (OtherCall k))))) r
      ∙ ap (λ x. cond (k == 1) (exit_call (known_byte q.fd.b0)) (cond (k == 3) (transfer_call read_call (known q.fd) (known q.at) (known q.count) n left) (cond (k == 4) x (Ends (OtherCall k))))) w

pub by_buffer : CallByBuffer
unfolding system_call
by_buffer q m n left same = same_call m n left (known q.number) q same

-- ---- what holds of each outcome
either : (P : Called → Type 0) (b : Bool) (x y : Called) → P x → P y → P (cond b x y)
either P true x y p q = p
either P false x y p q = q

module _ (P : Called → Type 0) (left : Environment) where
  -- that the outcomes of reads, of writes, and of other calls have it
  pub record Holds : Type 0 where
    pub stopped : P (Ends Unspecified)
    pub exited : (status : ℕ) → P (exit_call (Some status))
    pub other : (number : ℕ) → P (Ends (OtherCall number))
    pub read_refused : (fd at r : ℕ) → P (reads (Refused r) fd at left)
    pub read : (fd at n : ℕ) (x : Answer) → next_answer left.answers ≡ x → P (read_by x fd at n left)
    pub write_refused : (fd r : ℕ) → P (writes (Refused r) fd left)
    pub written : (fd : ℕ) (bytes : List ℕ) (x : Answer) → next_answer left.answers ≡ x → P (write_by x fd bytes left)

  module _ (h : Holds) where
    reads_hold : (p : Plan ℕ) (fd at : ℕ) → P (reads p fd at left)
    reads_hold (Refused r) fd at = h.read_refused fd at r
    reads_hold Stops fd at = h.stopped
    reads_hold (Asks n) fd at = h.read fd at n (next_answer left.answers) refl

    writes_hold : (p : Plan (List ℕ)) (fd : ℕ) → P (writes p fd left)
    writes_hold (Refused r) fd = h.write_refused fd r
    writes_hold Stops fd = h.stopped
    writes_hold (Asks bytes) fd = h.written fd bytes (next_answer left.answers) refl

    read_holds : (fd at count : ℕ) (m : Memory) → P (read_call fd at count m left)
    unfolding read_call
    read_holds fd at count m = reads_hold (read_plan m fd at count) fd at

    write_holds : (fd at count : ℕ) (m : Memory) → P (write_call fd at count m left)
    unfolding write_call
    write_holds fd at count m = writes_hold (write_plan m fd at count) fd

    exit_holds : (o : Option ℕ) → P (exit_call o)
    exit_holds None = h.stopped
    exit_holds (Some status) = h.exited status

    transfer_holds : (call : ℕ → ℕ → ℕ → Memory → Environment → Called) → ((fd at count : ℕ) (m : Memory) → P (call fd at count m left)) → (fd at count : Option ℕ) (m : Memory) → P (transfer_call call fd at count m left)
    transfer_holds call k (Some fd) (Some at) (Some count) m = k fd at count m
    transfer_holds call k None at count m = h.stopped
    transfer_holds call k (Some fd) None count m = h.stopped
    transfer_holds call k (Some fd) (Some at) None m = h.stopped

    call_holds : (o : Option ℕ) (q : Request) (m : Memory) → P (call_by o q m left)
    call_holds None q m = h.stopped
    call_holds (Some n) q m =
        either P (n == 1) _ _ (exit_holds (known_byte q.fd.b0))
        (either P (n == 3) _ _ (transfer_holds read_call read_holds (known q.fd) (known q.at) (known q.count) m)
        (either P (n == 4) _ _ (transfer_holds write_call write_holds (known q.fd) (known q.at) (known q.count) m) (h.other n)))

    pub outcome_holds : (q : Request) (m : Memory) → P (system_call q m left)
    unfolding system_call
    outcome_holds q m = call_holds (known q.number) q m

-- ---- labels and ends
read_plain : (fd at n : ℕ) (x : Answer) (left : Environment) → IsPlainCall (read_by x fd at n left)
read_plain fd at n (Take k) left = refl
read_plain fd at n (Fail e) left = refl

write_plain : (fd : ℕ) (bytes : List ℕ) (x : Answer) (left : Environment) → IsPlainCall (write_by x fd bytes left)
write_plain fd bytes (Take k) left = refl
write_plain fd bytes (Fail e) left = refl

pub are_plain : CallsArePlain
are_plain q m left = outcome_holds IsPlainCall left (record {
  stopped = refl;
  exited = λ status. refl;
  other = λ number. refl;
  read_refused = λ fd at r. refl;
  read = λ fd at n x e. read_plain fd at n x left;
  write_refused = λ fd r. refl;
  written = λ fd bytes x e. write_plain fd bytes x left;
}) q m

read_shows_one : (fd at n : ℕ) (x : Answer) (left : Environment) → ShowsOneEvent (read_by x fd at n left)
read_shows_one fd at n (Take k) left = omega arith
read_shows_one fd at n (Fail e) left = omega arith

write_shows_one : (fd : ℕ) (bytes : List ℕ) (x : Answer) (left : Environment) → ShowsOneEvent (write_by x fd bytes left)
write_shows_one fd bytes (Take k) left = omega arith
write_shows_one fd bytes (Fail e) left = omega arith

pub show_one_event : CallsShowOneEvent
show_one_event q m left = outcome_holds ShowsOneEvent left (record {
  stopped = tt;
  exited = λ status. tt;
  other = λ number. tt;
  read_refused = λ fd at r. omega arith;
  read = λ fd at n x e. read_shows_one fd at n x left;
  write_refused = λ fd r. omega arith;
  written = λ fd bytes x e. write_shows_one fd bytes x left;
}) q m

-- ---- the environment
known_bytes : (ns : List ℕ) → All (λ b. b < 256) ns → All IsByte (map Known ns)
known_bytes [] h = All-nil IsByte
known_bytes (n ∷ ns) h = All-cons IsByte (Known n) (map Known ns) (All-head (λ b. b < 256) n ns h) (known_bytes ns (All-tail (λ b. b < 256) n ns h))

later_answers : (xs : List Answer) → All IsAnswer xs → All IsAnswer (answers_after xs)
later_answers [] h = h
later_answers (x ∷ xs) h = All-tail IsAnswer x xs h

after_kept : (left : Environment) → IsEnvironment left → IsEnvironment (after_answer left)
after_kept left h = record { input = h.input; answers = later_answers left.answers h.answers }

nothing_stored : StoresBytes []
nothing_stored = All-nil _

read_kept : (fd at n : ℕ) (x : Answer) (left : Environment) → IsEnvironment left → CallIsKept (read_by x fd at n left)
read_kept fd at n (Take k) left h = (
  All-cons (λ (s : Stored). All IsByte s.bytes) _ [] (known_bytes _ (All-take (λ b. b < 256) (min k n) left.input h.input)) nothing_stored,
  record { input = All-drop (λ b. b < 256) (min k n) left.input h.input; answers = later_answers left.answers h.answers },
)
read_kept fd at n (Fail e) left h = (nothing_stored, after_kept left h)

write_kept : (fd : ℕ) (bytes : List ℕ) (x : Answer) (left : Environment) → IsEnvironment left → CallIsKept (write_by x fd bytes left)
write_kept fd bytes (Take k) left h = (nothing_stored, after_kept left h)
write_kept fd bytes (Fail e) left h = (nothing_stored, after_kept left h)

pub keep_environment : CallsKeepEnvironment
keep_environment q m left h = outcome_holds CallIsKept left (record {
  stopped = tt;
  exited = λ status. tt;
  other = λ number. tt;
  read_refused = λ fd at r. (nothing_stored, h);
  read = λ fd at n x e. read_kept fd at n x left h;
  write_refused = λ fd r. (nothing_stored, h);
  written = λ fd bytes x e. write_kept fd bytes x left h;
}) q m

-- ---- the input
dropped : (n : ℕ) (xs : List ℕ) → drop n xs ≡ drop (length (take n xs)) xs
dropped zero xs = refl
dropped (suc n) [] = refl
dropped (suc n) (x ∷ xs) = dropped n xs

read_leaves : (fd at n : ℕ) (x : Answer) (left : Environment) → LeavesInput left.input (read_by x fd at n left)
read_leaves fd at n (Take k) left = dropped (min k n) left.input
read_leaves fd at n (Fail e) left = refl

write_leaves : (fd : ℕ) (bytes : List ℕ) (x : Answer) (left : Environment) → LeavesInput left.input (write_by x fd bytes left)
write_leaves fd bytes (Take k) left = refl
write_leaves fd bytes (Fail e) left = refl

pub leave_input : CallsLeaveInput
leave_input q m left = outcome_holds (LeavesInput left.input) left (record {
  stopped = tt;
  exited = λ status. tt;
  other = λ number. tt;
  read_refused = λ fd at r. refl;
  read = λ fd at n x e. read_leaves fd at n x left;
  write_refused = λ fd r. refl;
  written = λ fd bytes x e. write_leaves fd bytes x left;
}) q m

-- ---- the buffer
module _ (q : Request) (m : Memory) (left : Environment) where
  no_store : All (IsInBuffer q m) []
  no_store = All-nil (IsInBuffer q m)

  module _ (fd at count : ℕ) (at_is : known q.at ≡ Some at) (count_is : known q.count ≡ Some count) where
    length_of : (k : ℕ) → length (map Known (take (min k (min count cap)) left.input)) ≤ count
    length_of k =
        let mapped = length-map (take (min k (min count cap)) left.input) Known in
        let taken = length-take (min k (min count cap)) left.input in
        omega arith

    read_in : (x : Answer) → passes Store m at count ≡ true → StoresInBuffer q m (read_by x fd at (min count cap) left)
    read_in (Take k) passed = All-cons (IsInBuffer q m) _ [] (record { count = count; at = at_is; counted = count_is; within = length_of k; passed = passed }) no_store
    read_in (Fail e) passed = no_store

    reads_in : (is_input is_empty can : Bool) → (can ≡ true → passes Store m at count ≡ true)
        → StoresInBuffer q m (reads (cond is_input (cond is_empty (Refused 0) (cond can (Asks (min count cap)) (Refused (error EFAULT)))) (Refused (error EBADF))) fd at left)
    reads_in false is_empty can passed = no_store
    reads_in true true can passed = no_store
    reads_in true false false passed = no_store
    reads_in true false true passed = read_in (next_answer left.answers) (passed refl)

    read_call_in : StoresInBuffer q m (read_call fd at count m left)
    unfolding read_call
    read_call_in = reads_in (fd == 0) (count == 0) (passes Store m at count) (λ p. p)

  write_in : (fd : ℕ) (bytes : List ℕ) (x : Answer) → StoresInBuffer q m (write_by x fd bytes left)
  write_in fd bytes (Take k) = no_store
  write_in fd bytes (Fail e) = no_store

  writes_in : (p : Plan (List ℕ)) (fd : ℕ) → StoresInBuffer q m (writes p fd left)
  writes_in (Refused r) fd = no_store
  writes_in Stops fd = tt
  writes_in (Asks bytes) fd = write_in fd bytes (next_answer left.answers)

  write_call_in : (fd at count : ℕ) → StoresInBuffer q m (write_call fd at count m left)
  unfolding write_call
  write_call_in fd at count = writes_in (write_plan m fd at count) fd

  read_transfer_in : (fd at count : Option ℕ) → known q.at ≡ at → known q.count ≡ count → StoresInBuffer q m (transfer_call read_call fd at count m left)
  read_transfer_in (Some fd) (Some at) (Some count) at_is count_is = read_call_in fd at count at_is count_is
  read_transfer_in (Some fd) (Some at) None at_is count_is = tt
  read_transfer_in (Some fd) None count at_is count_is = tt
  read_transfer_in None at count at_is count_is = tt

  write_transfer_in : (fd at count : Option ℕ) → StoresInBuffer q m (transfer_call write_call fd at count m left)
  write_transfer_in (Some fd) (Some at) (Some count) = write_call_in fd at count
  write_transfer_in (Some fd) (Some at) None = tt
  write_transfer_in (Some fd) None count = tt
  write_transfer_in None at count = tt

  exit_in : (status : Option ℕ) → StoresInBuffer q m (exit_call status)
  exit_in None = tt
  exit_in (Some status) = tt

  numbered_in : (n : ℕ) (is_exit is_read is_write : Bool) → StoresInBuffer q m (cond is_exit (exit_call (known_byte q.fd.b0)) (cond is_read (transfer_call read_call (known q.fd) (known q.at) (known q.count) m left) (cond is_write (transfer_call write_call (known q.fd) (known q.at) (known q.count) m left) (Ends (OtherCall n)))))
  numbered_in n true is_read is_write = exit_in (known_byte q.fd.b0)
  numbered_in n false true is_write = read_transfer_in (known q.fd) (known q.at) (known q.count) refl refl
  numbered_in n false false true = write_transfer_in (known q.fd) (known q.at) (known q.count)
  numbered_in n false false false = tt

  call_in : (n : Option ℕ) → StoresInBuffer q m (call_by n q m left)
  call_in None = tt
  call_in (Some n) = numbered_in n (n == 1) (n == 3) (n == 4)

pub store_in_buffer : CallsStoreInBuffer
unfolding system_call
store_in_buffer q m left = call_in q m left (known q.number)
