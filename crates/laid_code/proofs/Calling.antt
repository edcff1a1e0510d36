-- A system call over two memories that are the same in its buffer, where it has one that is allowed.
use Rattle.std.proofs.Common.{◌≡◌, ◌⊎◌, inl, inr, ℕ, ◌+◌, ◌<◌, ◌==◌, ◌&&◌, ◌||◌, Bool, true, false, not, cond, leb, min, List, [], All, Option, Some, None, refl, sym, ap, ◌∙◌, subst, arith}
use Rattle.std.proofs.lemmas.Bool.{and_parts, eqb-true}
use Rattle.std.proofs.lemmas.List.Elements.{All-nil}
use Rattle.outside.specs.declared.answer.Answer.{Answer}
use Rattle.outside.specs.declared.answer.Answer.TheVariants.{Take, Fail}
use Rattle.outside.specs.Environment.{Environment, cap, next_answer}
use Rattle.traces.specs.Trace.{Label}
use Rattle.x86_values.specs.Words.{known, known_byte, all_known}
use Rattle.memory.specs.Memory.{Memory, Stored, AccessKind, Load, Store, wrapped, allows_all, bytes_at, SameIn}
use Rattle.memory.specs.SystemCall.{Request, Called, Ends, Gives, EBADF, EFAULT, error, passes, Plan, Refused, Stops, Asks, write_plan, asks_known, reads, writes, read_by, write_by, exit_call, read_call, write_call, transfer_call, call_by, system_call}
use Rattle.memory.specs.CallLaws.{CallLaws, IsInBuffer, StoresInBuffer}
use Rattle.flag_ir.specs.Operations.{has_buffer}
use Rattle.private_memory.specs.PrivateArea.{is_unreserved}
use Rattle.laid_code.proofs.Memories.{IsUnreservedStore}

abbrev pub buffer_kind : ℕ → AccessKind
buffer_kind number = cond (number == 3) Store Load

-- judged alike, and the same where it is allowed
pub record IsSameFor (k : AccessKind) (at count : ℕ) (m n : Memory) : Type 0 where
  pub judged : allows_all k m at count ≡ allows_all k n at count
  pub same : allows_all k m at count ≡ true → SameIn at count m n

-- so is the buffer of a call, where it has one
abbrev pub SameWhereAsked : Request → Memory → Memory → Type 0
SameWhereAsked q m n = (number fd at count : ℕ) → known q.number ≡ Some number → known q.fd ≡ Some fd → known q.at ≡ Some at → known q.count ≡ Some count → has_buffer number fd count ≡ true → IsSameFor (buffer_kind number) at count m n

plan_same : {A : Type 0} (s t : Bool) (a b c d : A) → ((not t && s) ≡ true → b ≡ c) → cond s (cond t a b) d ≡ cond s (cond t a c) d
plan_same true true a b c d h = refl
plan_same true false a b c d h = h refl
plan_same false t a b c d h = refl

with_false : (s t : Bool) → (not t && s) ≡ true → (not t && (s || false)) ≡ true
with_false true t h = h
with_false false true h = h
with_false false false h = h

passes_same : (k : AccessKind) (at count : ℕ) (m n : Memory) → allows_all k m at count ≡ allows_all k n at count → passes k m at count ≡ passes k n at count
passes_same k at count m n h = ap (λ b. leb (at + count) 4294967296 && b) h

module _ (calls : CallLaws) where
  read_same : (fd at count : ℕ) (m n : Memory) (left : Environment) → (has_buffer 3 fd count ≡ true → IsSameFor Store at count m n) → read_call fd at count m left ≡ read_call fd at count n left
  unfolding read_call
  read_same fd at count m n left h =
      ap (λ (p : Plan ℕ). reads p fd at left)
      (plan_same (fd == 0) (count == 0) _ _ _ _ (λ asked. ap (λ b. cond b (Asks (min count cap)) (Refused (error EFAULT))) (passes_same Store at count m n (h (with_false (fd == 0) (count == 0) asked)).judged)))

  offered : (at count : ℕ) (m n : Memory) → IsSameFor Load at count m n → (b : Bool) → passes Load m at count ≡ b →
      cond (passes Load m at count) (asks_known (all_known (bytes_at m at (min count cap)))) (Refused (error EFAULT)) ≡ cond (passes Load n at count) (asks_known (all_known (bytes_at n at (min count cap)))) (Refused (error EFAULT))
  offered at count m n h true e =
      let all = (and_parts (leb (at + count) 4294967296) (allows_all Load m at count) e).1 in
      let bytes = (calls.same_in_is_buffer at count m n (h.same all)).bytes e in
      ap (λ b. cond b (asks_known (all_known (bytes_at m at (min count cap)))) (Refused (error EFAULT))) (passes_same Load at count m n h.judged)
      ∙ ap (λ bs. cond (passes Load n at count) (asks_known (all_known bs)) (Refused (error EFAULT))) bytes
  offered at count m n h false e =
      ap (λ b. cond b (asks_known (all_known (bytes_at m at (min count cap)))) (Refused (error EFAULT))) e
      ∙ ap (λ b. cond b (asks_known (all_known (bytes_at n at (min count cap)))) (Refused (error EFAULT))) (sym (sym (passes_same Load at count m n h.judged) ∙ e))

  write_same : (fd at count : ℕ) (m n : Memory) (left : Environment) → (has_buffer 4 fd count ≡ true → IsSameFor Load at count m n) → write_call fd at count m left ≡ write_call fd at count n left
  unfolding write_call
  write_same fd at count m n left h =
      ap (λ (p : Plan (List ℕ)). writes p fd left)
      (plan_same (fd == 1 || fd == 2) (count == 0) _ _ _ _ (λ asked. offered at count m n (h asked) (passes Load m at count) refl))

  transfer_same : (call : ℕ → ℕ → ℕ → Memory → Environment → Called) (o p q : Option ℕ) (m n : Memory) (left : Environment) → ((fd at count : ℕ) → o ≡ Some fd → p ≡ Some at → q ≡ Some count → call fd at count m left ≡ call fd at count n left) → transfer_call call o p q m left ≡ transfer_call call o p q n left
  transfer_same call (Some fd) (Some at) (Some count) m n left h = h fd at count refl refl refl
  transfer_same call (Some fd) (Some at) None m n left h = refl
  transfer_same call (Some fd) None q m n left h = refl
  transfer_same call None p q m n left h = refl

  choice_same : {A : Type 0} (a b c : Bool) (x y z w p q : A) → (b ≡ true → y ≡ p) → (c ≡ true → z ≡ q) → cond a x (cond b y (cond c z w)) ≡ cond a x (cond b p (cond c q w))
  choice_same true b c x y z w p q h k = refl
  choice_same false true c x y z w p q h k = h refl
  choice_same false false true x y z w p q h k = k refl
  choice_same false false false x y z w p q h k = refl

  number_same : (q : Request) (number : ℕ) (m n : Memory) (left : Environment) → ((fd at count : ℕ) → known q.fd ≡ Some fd → known q.at ≡ Some at → known q.count ≡ Some count → has_buffer number fd count ≡ true → IsSameFor (buffer_kind number) at count m n) → call_by (Some number) q m left ≡ call_by (Some number) q n left
  number_same q number m n left h =
      choice_same (number == 1) (number == 3) (number == 4) _ _ _ _ _ _
      (λ b. transfer_same read_call (known q.fd) (known q.at) (known q.count) m n left (λ fd at count e f g. read_same fd at count m n left (asked 3 Store (eqb-true number 3 b) refl fd at count e f g)))
      (λ c. transfer_same write_call (known q.fd) (known q.at) (known q.count) m n left (λ fd at count e f g. write_same fd at count m n left (asked 4 Load (eqb-true number 4 c) refl fd at count e f g)))
    where
      asked : (k : ℕ) (kind : AccessKind) → number ≡ k → buffer_kind k ≡ kind → (fd at count : ℕ) → known q.fd ≡ Some fd → known q.at ≡ Some at → known q.count ≡ Some count → has_buffer k fd count ≡ true → IsSameFor kind at count m n
      asked k kind is kinds fd at count e f g has = subst (λ x. IsSameFor x at count m n) (ap buffer_kind is ∙ kinds) (h fd at count e f g (subst (λ x. has_buffer x fd count ≡ true) (sym is) has))

  pub call_same : (q : Request) (m n : Memory) (left : Environment) → SameWhereAsked q m n → system_call q m left ≡ system_call q n left
  unfolding system_call
  call_same q m n left h = go (known q.number) refl
    where
      go : (o : Option ℕ) → known q.number ≡ o → call_by o q m left ≡ call_by o q n left
      go None e = refl
      go (Some number) e = number_same q number m n left (λ fd at count f g i. h number fd at count e f g i)

-- ---- where a call stores: a read alone does, to its buffer
pub record ReadsToBuffer (q : Request) : Type 0 where
  pub fd : ℕ
  pub at : ℕ
  pub count : ℕ
  pub number : known q.number ≡ Some 3
  pub is_fd : known q.fd ≡ Some fd
  pub is_at : known q.at ≡ Some at
  pub is_count : known q.count ≡ Some count
  pub has : has_buffer 3 fd count ≡ true

module _ (P : Type 0) where
  abbrev StoresIf : Called → Type 0
  StoresIf (Ends e) = Unit {0}
  StoresIf (Gives ls result stores left) = (stores ≡ []) ⊎ P

  written : (a : Answer) (fd : ℕ) (bytes : List ℕ) (left : Environment) → StoresIf (write_by a fd bytes left)
  written (Take k) fd bytes left = inl refl
  written (Fail e) fd bytes left = inl refl

  writes_none : (p : Plan (List ℕ)) (fd : ℕ) (left : Environment) → StoresIf (writes p fd left)
  writes_none (Refused r) fd left = inl refl
  writes_none Stops fd left = tt
  writes_none (Asks bytes) fd left = written (next_answer left.answers) fd bytes left

  is_read : (a : Answer) (fd at n : ℕ) (left : Environment) → P → StoresIf (read_by a fd at n left)
  is_read (Take k) fd at n left h = inr h
  is_read (Fail e) fd at n left h = inl refl

  reads_by : (b c d : Bool) (fd at n : ℕ) (left : Environment) → (b ≡ true → c ≡ false → P) → StoresIf (reads (cond b (cond c (Refused 0) (cond d (Asks n) (Refused (error EFAULT)))) (Refused (error EBADF))) fd at left)
  reads_by true true d fd at n left h = inl refl
  reads_by true false true fd at n left h = is_read (next_answer left.answers) fd at n left (h refl refl)
  reads_by true false false fd at n left h = inl refl
  reads_by false c d fd at n left h = inl refl

  transfers : (call : ℕ → ℕ → ℕ → Memory → Environment → Called) (o p q : Option ℕ) (m : Memory) (left : Environment) → ((fd at count : ℕ) → o ≡ Some fd → p ≡ Some at → q ≡ Some count → StoresIf (call fd at count m left)) → StoresIf (transfer_call call o p q m left)
  transfers call (Some fd) (Some at) (Some count) m left h = h fd at count refl refl refl
  transfers call (Some fd) (Some at) None m left h = tt
  transfers call (Some fd) None q m left h = tt
  transfers call None p q m left h = tt

  exits : (o : Option ℕ) → StoresIf (exit_call o)
  exits None = tt
  exits (Some status) = tt

  chooses : (a b c : Bool) (x y z w : Called) → StoresIf x → (b ≡ true → StoresIf y) → (c ≡ true → StoresIf z) → StoresIf w → StoresIf (cond a x (cond b y (cond c z w)))
  chooses true b c x y z w f g h i = f
  chooses false true c x y z w f g h i = g refl
  chooses false false true x y z w f g h i = h refl
  chooses false false false x y z w f g h i = i

asks_buffer : (s t : Bool) → s ≡ true → t ≡ false → (not t && (s || false)) ≡ true
asks_buffer true false e f = refl
asks_buffer true true e f = absurd (cc f)
asks_buffer false t e f = absurd (cc e)

pub call_stores : (q : Request) (m : Memory) (left : Environment) → StoresIf (ReadsToBuffer q) (system_call q m left)
unfolding system_call read_call write_call
call_stores q m left = go (known q.number) refl
  where
    go : (o : Option ℕ) → known q.number ≡ o → StoresIf (ReadsToBuffer q) (call_by o q m left)
    go None e = tt
    go (Some number) e =
        chooses (ReadsToBuffer q) (number == 1) (number == 3) (number == 4) _ _ _ _
        (exits (ReadsToBuffer q) (known_byte q.fd.b0))
        (λ three. transfers (ReadsToBuffer q) read_call (known q.fd) (known q.at) (known q.count) m left
        (λ fd at count f g h. reads_by (ReadsToBuffer q) (fd == 0) (count == 0) (passes Store m at count) fd at (min count cap) left
        (λ zero_fd some. record { fd = fd; at = at; count = count; number = e ∙ ap (λ n. Some n) (eqb-true number 3 three); is_fd = f; is_at = g; is_count = h; has = asks_buffer (fd == 0) (count == 0) zero_fd some })))
        (λ four. transfers (ReadsToBuffer q) write_call (known q.fd) (known q.at) (known q.count) m left (λ fd at count f g h. writes_none (ReadsToBuffer q) (write_plan m fd at count) fd left))
        tt

-- so it stores to nothing that is reserved, where its buffer reaches nothing that is
abbrev pub UnreservedWhereAsked : Request → Memory → Type 0
UnreservedWhereAsked q m = (fd at count : ℕ) → known q.number ≡ Some 3 → known q.fd ≡ Some fd → known q.at ≡ Some at → known q.count ≡ Some count → has_buffer 3 fd count ≡ true → allows_all Store m at count ≡ true → (j : ℕ) → j < count → is_unreserved (wrapped (at + j)) ≡ true

module _ (q : Request) (m : Memory) where
  one_unreserved : UnreservedWhereAsked q m → ReadsToBuffer q → (s : Stored) → IsInBuffer q m s → IsUnreservedStore s
  one_unreserved asked r s h j less =
      let at : r.at ≡ s.at = some_same r.at s.at (sym r.is_at ∙ h.at) in
      let count : r.count ≡ h.count = some_same r.count h.count (sym r.is_count ∙ h.counted) in
      let allowed : allows_all Store m s.at h.count ≡ true = (and_parts (leb (s.at + h.count) 4294967296) (allows_all Store m s.at h.count) h.passed).1 in
      let allowed' : allows_all Store m r.at r.count ≡ true = rw (at, count) allowed in
      subst (λ a. is_unreserved (wrapped (a + j)) ≡ true) at (asked r.fd r.at r.count r.number r.is_fd r.is_at r.is_count r.has allowed' j (let w = h.within in omega (arith, less, w, count)))
    where
      number_or : Option ℕ → ℕ
      number_or None = 0
      number_or (Some n) = n

      some_same : (a b : ℕ) → Some a ≡ Some b → a ≡ b
      some_same a b e = ap number_or e

  each_unreserved : UnreservedWhereAsked q m → ReadsToBuffer q → (ss : List Stored) → All (IsInBuffer q m) ss → All IsUnreservedStore ss
  each_unreserved asked r ss h k d less = one_unreserved asked r _ (h k d less)

  pub stores_unreserved : UnreservedWhereAsked q m → (ls : List Label) (result : ℕ) (ss : List Stored) (left left' : Environment) → system_call q m left ≡ Gives ls result ss left' → CallLaws → All IsUnreservedStore ss
  stores_unreserved asked ls result ss left left' e calls =
      by (subst (StoresIf (ReadsToBuffer q)) e (call_stores q m left)) (subst (StoresInBuffer q m) e (calls.store_in_buffer q m left))
    where
      by : (ss ≡ []) ⊎ ReadsToBuffer q → All (IsInBuffer q m) ss → All IsUnreservedStore ss
      by (inl none) h = subst (All IsUnreservedStore) (sym none) (All-nil IsUnreservedStore)
      by (inr r) h = each_unreserved asked r ss h
