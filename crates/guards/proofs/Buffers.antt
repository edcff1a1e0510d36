-- System calls over a memory with the private area, and without it.
use Rattle.std.proofs.Common.{◌≡◌, ℕ, zero, suc, ◌+◌, ◌<◌, ◌≤◌, ◌==◌, ◌&&◌, ◌||◌, min, Bool, true, false, cond, leb, List, [], ◌∷◌, length, map, take, Option, Some, None, refl, sym, ap, ◌∙◌, arith}
use Rattle.std.proofs.lemmas.Bool.{and_parts}
use Rattle.std.proofs.lemmas.List.{length-map, length-take}
use Rattle.outside.specs.declared.answer.Answer.{Answer}
use Rattle.outside.specs.declared.answer.Answer.TheVariants.{Take, Fail}
use Rattle.outside.specs.Environment.{Environment, cap, next_answer}
use Rattle.x86_values.specs.declared.byte.Byte.TheVariants.{Known}
use Rattle.x86_values.specs.declared.word.Word.{Word}
use Rattle.x86_values.specs.Words.{known, known_byte, all_known}
use Rattle.traces.specs.Trace.{OtherCall, Unspecified}
use Rattle.memory.specs.Memory.{Memory, Stored, AccessKind, Load, Store, wrapped, allows_all, bytes_at}
use Rattle.memory.specs.MemoryLaws.{MemoryLaws}
use Rattle.memory.specs.SystemCall.{Called, Ends, Gives, Plan, Refused, Stops, Asks, EBADF, EFAULT, error, passes, asks_known, write_plan, read_by, write_by, reads, writes, read_call, write_call, exit_call, transfer_call, call_by, system_call}
use Rattle.private_memory.specs.PrivateArea.{is_private, without_private, HasPrivateArea}
use Rattle.private_memory.specs.PrivateAreaLaws.{PrivateAccessLaws}
use Rattle.guards.proofs.Addresses.{StandsFor}

-- ---- refused buffers
refused_reads : (b z p q : Bool) (n k fd a at : ℕ) (left : Environment) → p ≡ false → q ≡ false →
    reads (cond b (cond z (Refused 0) (cond p (Asks n) (Refused (error EFAULT)))) (Refused (error EBADF))) fd a left ≡ reads (cond b (cond z (Refused 0) (cond q (Asks k) (Refused (error EFAULT)))) (Refused (error EBADF))) fd at left
refused_reads false z p q n k fd a at left e f = refl
refused_reads true true p q n k fd a at left e f = refl
refused_reads true false true q n k fd a at left e f = absurd cc
refused_reads true false false true n k fd a at left e f = absurd cc
refused_reads true false false false n k fd a at left e f = refl

refused_writes : (b z p q : Bool) (n k : Plan (List ℕ)) (fd : ℕ) (left : Environment) → p ≡ false → q ≡ false →
    writes (cond b (cond z (Refused 0) (cond p n (Refused (error EFAULT)))) (Refused (error EBADF))) fd left ≡ writes (cond b (cond z (Refused 0) (cond q k (Refused (error EFAULT)))) (Refused (error EBADF))) fd left
refused_writes false z p q n k fd left e f = refl
refused_writes true true p q n k fd left e f = refl
refused_writes true false true q n k fd left e f = absurd cc
refused_writes true false false true n k fd left e f = absurd cc
refused_writes true false false false n k fd left e f = refl

none_reads : (b : Bool) (fd a at : ℕ) (left : Environment) → reads (cond b (Refused 0) (Refused (error EBADF))) fd a left ≡ reads (cond b (Refused 0) (Refused (error EBADF))) fd at left
none_reads true fd a at left = refl
none_reads false fd a at left = refl

fails_after : (b c : Bool) → c ≡ false → (b && c) ≡ false
fails_after true c e = e
fails_after false c e = refl

-- ---- stores outside the area
abbrev pub AreOutside : List Stored → Type 0
AreOutside [] = Unit {0}
AreOutside (s ∷ ss) = ((k : ℕ) → k < length s.bytes → is_private (wrapped (s.at + k)) ≡ false) × AreOutside ss

abbrev pub StoresOutside : Called → Type 0
StoresOutside (Ends e) = Unit {0}
StoresOutside (Gives labels result stores left) = AreOutside stores

module _ (memory : MemoryLaws) (area : PrivateAccessLaws) (m : Memory) (has : HasPrivateArea m) where
  small_wraps : (a : ℕ) → a < 4294967296 → wrapped a ≡ a
  small_wraps a l = omega arith

  -- ---- a buffer that starts in the area
  passes_inside : (kind : AccessKind) (a n : ℕ) → is_private (wrapped a) ≡ true → passes kind (without_private m) a (suc n) ≡ false
  passes_inside kind a n p = fails_after (leb (a + suc n) 4294967296) _ (area.refuses kind m a n p)

  passes_zero : (kind : AccessKind) (n : ℕ) → passes kind m 0 (suc n) ≡ false
  passes_zero kind n = fails_after (leb (0 + suc n) 4294967296) _ (area.refuses_zero kind m n has)

  read_inside : (fd a count : ℕ) (left : Environment) → is_private (wrapped a) ≡ true → read_call fd a count (without_private m) left ≡ read_call fd 0 count m left
  unfolding read_call
  read_inside fd a zero left p = none_reads (fd == 0) fd a 0 left
  read_inside fd a (suc n) left p = refused_reads (fd == 0) (suc n == 0) _ _ _ _ fd a 0 left (passes_inside Store a n p) (passes_zero Store n)

  write_inside : (fd a count : ℕ) (left : Environment) → is_private (wrapped a) ≡ true → write_call fd a count (without_private m) left ≡ write_call fd 0 count m left
  unfolding write_call
  write_inside fd a zero left p = refl
  write_inside fd a (suc n) left p = refused_writes (fd == 1 || fd == 2) (suc n == 0) _ _ _ _ fd left (passes_inside Load a n p) (passes_zero Load n)

  -- ---- one that starts outside
  passes_same : (kind : AccessKind) (a n : ℕ) → is_private (wrapped a) ≡ false → passes kind (without_private m) a n ≡ passes kind m a n
  passes_same kind a n p = ap (λ b. leb (a + n) 4294967296 && b) (area.allows kind m a n has p)

  shown_outside : (a : ℕ) → is_private a ≡ false → without_private m a ≡ m a
  unfolding without_private
  shown_outside a p = ap (λ b. cond b None (m a)) p

  bytes_same : (a n k : ℕ) → is_private (wrapped a) ≡ false → k ≤ n → allows_all Load m a n ≡ true → bytes_at (without_private m) a k ≡ bytes_at m a k
  bytes_same a n k p few all = memory.bytes_in_same (without_private m) m a k (record { places = λ j l. shown_outside (wrapped (a + j)) (area.outside Load m a n has p all j (omega arith)) })

  read_outside : (fd a count : ℕ) (left : Environment) → is_private (wrapped a) ≡ false → read_call fd a count (without_private m) left ≡ read_call fd a count m left
  unfolding read_call
  read_outside fd a count left p = ap (λ b. reads (cond (fd == 0) (cond (count == 0) (Refused 0) (cond b (Asks (min count cap)) (Refused (error EFAULT)))) (Refused (error EBADF))) fd a left) (passes_same Store a count p)

  if_passes : (b : Bool) (x y : Plan (List ℕ)) → (b ≡ true → x ≡ y) → cond b x (Refused (error EFAULT)) ≡ cond b y (Refused (error EFAULT))
  if_passes true x y h = h refl
  if_passes false x y h = refl

  write_outside : (fd a count : ℕ) (left : Environment) → is_private (wrapped a) ≡ false → write_call fd a count (without_private m) left ≡ write_call fd a count m left
  unfolding write_call
  write_outside fd a count left p =
      ap (λ b. writes (cond (fd == 1 || fd == 2) (cond (count == 0) (Refused 0) (cond b (asks_known (all_known (bytes_at (without_private m) a (min count cap)))) (Refused (error EFAULT)))) (Refused (error EBADF))) fd left) (passes_same Load a count p)
      ∙ ap (λ (x : Plan (List ℕ)). writes (cond (fd == 1 || fd == 2) (cond (count == 0) (Refused 0) x) (Refused (error EBADF))) fd left)
      (if_passes (passes Load m a count) _ _ (λ e. ap (λ bs. asks_known (all_known bs)) (bytes_same a count (min count cap) p (omega arith) (and_parts (leb (a + count) 4294967296) (allows_all Load m a count) e).1)))

  -- ---- a call
  by_place : (call : ℕ → ℕ → ℕ → Memory → Environment → Called) → ((fd a count : ℕ) (left : Environment) → is_private (wrapped a) ≡ true → call fd a count (without_private m) left ≡ call fd 0 count m left) → ((fd a count : ℕ) (left : Environment) → is_private (wrapped a) ≡ false → call fd a count (without_private m) left ≡ call fd a count m left) →
      (fd : ℕ) (w z : Word) (a count : ℕ) (left : Environment) → StandsFor w z → known w ≡ Some a → transfer_call call (Some fd) (Some a) (Some count) (without_private m) left ≡ transfer_call call (Some fd) (known z) (Some count) m left
  by_place call inside outside fd w z a count left s e = cases (is_private a) refl
    where
      wraps : wrapped a ≡ a
      wraps = small_wraps a (s.small a e)

      cases : (b : Bool) → is_private a ≡ b → call fd a count (without_private m) left ≡ transfer_call call (Some fd) (known z) (Some count) m left
      cases true p = inside fd a count left (ap is_private wraps ∙ p) ∙ sym (ap (λ o. transfer_call call (Some fd) o (Some count) m left) (s.inside a e p))
      cases false p = outside fd a count left (ap is_private wraps ∙ p) ∙ sym (ap (λ o. transfer_call call (Some fd) o (Some count) m left) (s.outside a e p))

  transfer_same : (call : ℕ → ℕ → ℕ → Memory → Environment → Called) → ((fd a count : ℕ) (left : Environment) → is_private (wrapped a) ≡ true → call fd a count (without_private m) left ≡ call fd 0 count m left) → ((fd a count : ℕ) (left : Environment) → is_private (wrapped a) ≡ false → call fd a count (without_private m) left ≡ call fd a count m left) →
      (fd : Option ℕ) (w z : Word) (count : Option ℕ) (left : Environment) → StandsFor w z → transfer_call call fd (known w) count (without_private m) left ≡ transfer_call call fd (known z) count m left
  transfer_same call inside outside None w z count left s = refl
  transfer_same call inside outside (Some fd) w z count left s = by_address (known w) refl count
    where
      nothing : (o : Option ℕ) → transfer_call call (Some fd) o None (without_private m) left ≡ Ends Unspecified
      nothing None = refl
      nothing (Some a) = refl

      nothing' : (o : Option ℕ) → transfer_call call (Some fd) o None m left ≡ Ends Unspecified
      nothing' None = refl
      nothing' (Some a) = refl

      by_address : (o : Option ℕ) → known w ≡ o → (count : Option ℕ) → transfer_call call (Some fd) o count (without_private m) left ≡ transfer_call call (Some fd) (known z) count m left
      by_address None e count = sym (ap (λ p. transfer_call call (Some fd) p count m left) (s.none e))
      by_address (Some a) e None = sym (nothing' (known z))
      by_address (Some a) e (Some count) = by_place call inside outside fd w z a count left s e

  pub call_same : (number fd w z count : Word) (left : Environment) → StandsFor w z → system_call (record { number = number; fd = fd; at = w; count = count }) (without_private m) left ≡ system_call (record { number = number; fd = fd; at = z; count = count }) m left
  unfolding system_call
  call_same number fd w z count left s = by_number (known number)
    where
      by_number : (o : Option ℕ) → call_by o (record { number = number; fd = fd; at = w; count = count }) (without_private m) left ≡ call_by o (record { number = number; fd = fd; at = z; count = count }) m left
      by_number None = refl
      by_number (Some n) =
          λ i. cond (n == 1) (exit_call (known_byte fd.b0))
          (cond (n == 3) (transfer_same read_call read_inside read_outside (known fd) w z (known count) left s i)
          (cond (n == 4) (transfer_same write_call write_inside write_outside (known fd) w z (known count) left s i) (Ends (OtherCall n))))

  -- ---- what it stores

  taken_few : (n : ℕ) (xs : List ℕ) → length (map Known (take n xs)) ≤ n
  taken_few n xs = omega (arith, length-map (take n xs) (λ x. Known x), length-take n xs)

  read_by_outside : (answer : Answer) (fd a n count : ℕ) (left : Environment) → n ≤ count → ((k : ℕ) → k < count → is_private (wrapped (a + k)) ≡ false) → StoresOutside (read_by answer fd a n left)
  read_by_outside (Take j) fd a n count left few out = (λ k l. out k (let t = taken_few (min j n) left.input in let less : k < length (map Known (take (min j n) left.input)) = l in omega arith), tt)
  read_by_outside (Fail e) fd a n count left few out = tt

  read_stores : (fd a count : ℕ) (left : Environment) → is_private (wrapped a) ≡ false → StoresOutside (read_call fd a count m left)
  unfolding read_call
  read_stores fd a count left p = by (fd == 0) (count == 0) (passes Store m a count) refl
    where
      by : (b z q : Bool) → passes Store m a count ≡ q → StoresOutside (reads (cond b (cond z (Refused 0) (cond q (Asks (min count cap)) (Refused (error EFAULT)))) (Refused (error EBADF))) fd a left)
      by false z q e = tt
      by true true q e = tt
      by true false false e = tt
      by true false true e = read_by_outside (next_answer left.answers) fd a (min count cap) count left (omega arith) (area.outside Store m a count has p (and_parts (leb (a + count) 4294967296) (allows_all Store m a count) e).1)

  write_by_outside : (answer : Answer) (fd : ℕ) (bs : List ℕ) (left : Environment) → StoresOutside (write_by answer fd bs left)
  write_by_outside (Take j) fd bs left = tt
  write_by_outside (Fail e) fd bs left = tt

  write_stores : (fd a count : ℕ) (left : Environment) → StoresOutside (write_call fd a count m left)
  unfolding write_call
  write_stores fd a count left = by (write_plan m fd a count)
    where
      by : (p : Plan (List ℕ)) → StoresOutside (writes p fd left)
      by (Refused r) = tt
      by Stops = tt
      by (Asks bytes) = write_by_outside (next_answer left.answers) fd bytes left

  pub call_stores : (number fd z count : Word) (left : Environment) → ((a : ℕ) → known z ≡ Some a → is_private (wrapped a) ≡ false) → StoresOutside (system_call (record { number = number; fd = fd; at = z; count = count }) m left)
  unfolding system_call
  call_stores number fd z count left plain = by_number (known number)
    where
      ended : (o : Option ℕ) → StoresOutside (exit_call o)
      ended None = tt
      ended (Some n) = tt

      read_all : (f o n : Option ℕ) → known z ≡ o → StoresOutside (transfer_call read_call f o n m left)
      read_all None o n e = tt
      read_all (Some f) None n e = tt
      read_all (Some f) (Some a) None e = tt
      read_all (Some f) (Some a) (Some n) e = read_stores f a n left (plain a e)

      write_all : (f o n : Option ℕ) → StoresOutside (transfer_call write_call f o n m left)
      write_all None o n = tt
      write_all (Some f) None n = tt
      write_all (Some f) (Some a) None = tt
      write_all (Some f) (Some a) (Some n) = write_stores f a n left

      either : (b : Bool) (x y : Called) → StoresOutside x → StoresOutside y → StoresOutside (cond b x y)
      either true x y p q = p
      either false x y p q = q

      by_number : (o : Option ℕ) → StoresOutside (call_by o (record { number = number; fd = fd; at = z; count = count }) m left)
      by_number None = tt
      by_number (Some n) =
          either (n == 1) _ _ (ended (known_byte fd.b0))
          (either (n == 3) _ _ (read_all (known fd) (known z) (known count) refl) (either (n == 4) _ _ (write_all (known fd) (known z) (known count)) tt))
