-- A system call over two memories that are the same but for the cells, which its buffer misses: it comes to the same, and stores nothing
-- there.
use Rattle.std.proofs.Common.{◌≡◌, ℕ, ◌+◌, ◌≤◌, ◌==◌, ◌&&◌, ◌||◌, min, Bool, true, false, cond, leb, List, [], ◌∷◌, map, take, length, Option, Some, None, refl, ap, ◌∙◌, subst, arith}
use Rattle.std.proofs.lemmas.Bool.{eqb-true, and_parts}
use Rattle.std.proofs.lemmas.List.{length-map, length-take}
use Rattle.outside.specs.declared.answer.Answer.{Answer}
use Rattle.outside.specs.declared.answer.Answer.TheVariants.{Take, Fail}
use Rattle.outside.specs.Environment.{Environment, cap, next_answer}
use Rattle.x86_values.specs.declared.byte.Byte.TheVariants.{Known}
use Rattle.x86_values.specs.Words.{known, known_byte, all_known}
use Rattle.traces.specs.Trace.{OtherCall}
use Rattle.memory.specs.Memory.{Memory, AccessKind, Load, Store, allows_all, bytes_at, AreApart}
use Rattle.memory.specs.MemoryLaws.{MemoryLaws}
use Rattle.memory.specs.SystemCall.{Request, Called, Ends, Gives, error, EBADF, EFAULT, passes, Plan, Refused, Stops, Asks, asks_known, read_by, write_by, reads, writes, read_call, write_call, exit_call, transfer_call, call_by, system_call}
use Rattle.x86_meaning.specs.Operands.{Access}
use Rattle.x86_meaning.specs.StepLaws.{stored_range}
use Rattle.flag_ir.specs.Operations.{has_buffer}
use Rattle.flag_ir.specs.Accesses.{buffer_accessed}
use Rattle.name_cells.specs.OwnSteps.{MissCells, SameButCells}
use Rattle.name_cells.proofs.OwnSteps.{RangesMiss}

-- ---- choices
plan_by : {A : Type 0} (o z b c : Bool) (r x y t u : A) → b ≡ c → (o ≡ true → z ≡ false → b ≡ true → x ≡ y) → cond o (cond z r (cond b x t)) u ≡ cond o (cond z r (cond c y t)) u
plan_by false z b c r x y t u e h = refl
plan_by true true b c r x y t u e h = refl
plan_by true false true c r x y t u e h = h refl refl refl ∙ ap (λ (d : Bool). cond d y t) e
plan_by true false false c r x y t u e h = ap (λ (d : Bool). cond d y t) e

choice_same : {A : Type 0} (a b c : Bool) (x y z w p q : A) → (b ≡ true → y ≡ p) → (c ≡ true → z ≡ q) → cond a x (cond b y (cond c z w)) ≡ cond a x (cond b p (cond c q w))
choice_same true b c x y z w p q h k = refl
choice_same false true c x y z w p q h k = h refl
choice_same false false true x y z w p q h k = k refl
choice_same false false false x y z w p q h k = refl

-- ---- a buffer that misses the cells
abbrev Misses : ℕ → ℕ → Type 0
Misses at count = AreApart at count 0x75220000 0x5E0000

fewer_miss : (at count n : ℕ) → n ≤ count → Misses at count → Misses at n
fewer_miss at count n few h = record { apart = λ j k less small. h.apart j k (omega (arith, less, few)) small }

capped_few : (count : ℕ) → min count cap ≤ count
capped_few count = grind (arith)

-- what a call stores misses the cells
abbrev pub StoresMiss : Called → Type 0
StoresMiss (Ends e) = Unit {0}
StoresMiss (Gives labels result stores after) = RangesMiss (map stored_range stores)

module _ (memories : MemoryLaws) (l m : Memory) (same : SameButCells l m) (left : Environment) where
  passes_same : (kind : AccessKind) (at count : ℕ) → passes kind l at count ≡ passes kind m at count
  passes_same kind at count = ap (λ (b : Bool). leb (at + count) 4294967296 && b) (memories.allows_by_kinds kind l m same.kinds at count)

  -- ---- the same calls
  read_same : (fd at count : ℕ) → read_call fd at count l left ≡ read_call fd at count m left
  unfolding read_call
  read_same fd at count =
      ap (λ (b : Bool). reads (cond (fd == 0) (cond (count == 0) (Refused 0) (cond b (Asks (min count cap)) (Refused (error EFAULT)))) (Refused (error EBADF))) fd at left) (passes_same Store at count)

  write_same : (fd at count : ℕ) → MissCells (buffer_accessed (Some 4) (Some fd) (Some at) (Some count)) l → write_call fd at count l left ≡ write_call fd at count m left
  unfolding write_call
  write_same fd at count miss =
      ap (λ (p : Plan (List ℕ)). writes p fd left)
      (plan_by (fd == 1 || fd == 2) (count == 0) (passes Load l at count) (passes Load m at count) (Refused 0) _ _ (Refused (error EFAULT)) (Refused (error EBADF)) (passes_same Load at count)
      (λ fits some passed. ap (λ bs. asks_known (all_known bs)) (bytes_same fits some passed)))
    where
      bytes_same : (fd == 1 || fd == 2) ≡ true → (count == 0) ≡ false → passes Load l at count ≡ true → bytes_at l at (min count cap) ≡ bytes_at m at (min count cap)
      bytes_same fits some passed =
          let has : has_buffer 4 fd count ≡ true = rw (some, fits) refl in
          let listed : MissCells (record { kind = Load; at = at; size = count } ∷ []) l = subst (λ (b : Bool). MissCells (cond b (record { kind = Load; at = at; size = count } ∷ []) []) l) has miss in
          let apart : Misses at count = listed.0 (and_parts (leb (at + count) 4294967296) (allows_all Load l at count) passed).1 in
          memories.bytes_outside 0x75220000 0x5E0000 at (min count cap) l m (fewer_miss at count (min count cap) (capped_few count) apart) same.outside

  reads_same : (o p q : Option ℕ) → transfer_call read_call o p q l left ≡ transfer_call read_call o p q m left
  reads_same (Some fd) (Some at) (Some count) = read_same fd at count
  reads_same (Some fd) (Some at) None = refl
  reads_same (Some fd) None q = refl
  reads_same None p q = refl

  writes_same : (o p q : Option ℕ) → MissCells (buffer_accessed (Some 4) o p q) l → transfer_call write_call o p q l left ≡ transfer_call write_call o p q m left
  writes_same (Some fd) (Some at) (Some count) miss = write_same fd at count miss
  writes_same (Some fd) (Some at) None miss = refl
  writes_same (Some fd) None q miss = refl
  writes_same None p q miss = refl

  module _ (q : Request) where
    abbrev buffer : Option ℕ → List Access
    buffer o = buffer_accessed o (known q.fd) (known q.at) (known q.count)

    pub call_same : MissCells (buffer (known q.number)) l → system_call q l left ≡ system_call q m left
    unfolding system_call
    call_same h = by (known q.number) h
      where
        by : (o : Option ℕ) → MissCells (buffer o) l → call_by o q l left ≡ call_by o q m left
        by None h = refl
        by (Some n) h =
            choice_same (n == 1) (n == 3) (n == 4) _ _ _ _ _ _ (λ three. reads_same (known q.fd) (known q.at) (known q.count))
            (λ four. writes_same (known q.fd) (known q.at) (known q.count) (subst (λ (k : ℕ). MissCells (buffer (Some k)) l) (eqb-true n 4 four) h))

    -- ---- what is stored
    written : (p : Plan (List ℕ)) (fd : ℕ) → StoresMiss (writes p fd left)
    written (Refused r) fd = tt
    written Stops fd = tt
    written (Asks bytes) fd = by (next_answer left.answers)
      where
        by : (a : Answer) → StoresMiss (write_by a fd bytes left)
        by (Take k) = tt
        by (Fail e) = tt

    taken : (fd at n : ℕ) → Misses at n → (a : Answer) → StoresMiss (read_by a fd at n left)
    taken fd at n h (Take k) = (fewer_miss at n _ few h, tt)
      where
        few : length (map Known (take (min k n) left.input)) ≤ n
        few =
            let e : length (map Known (take (min k n) left.input)) ≡ length (take (min k n) left.input) = length-map (take (min k n) left.input) Known in
            let f : length (take (min k n) left.input) ≡ min (min k n) (length left.input) = length-take (min k n) left.input in
            let g : min (min k n) (length left.input) ≤ n = grind (arith) in
            omega (arith, e, f, g)
    taken fd at n h (Fail e) = tt

    read_stores : (fd at count : ℕ) → MissCells (buffer_accessed (Some 3) (Some fd) (Some at) (Some count)) l → StoresMiss (read_call fd at count l left)
    unfolding read_call
    read_stores fd at count miss = by (fd == 0) (count == 0) (passes Store l at count) refl refl refl
      where
        by : (o z b : Bool) → (fd == 0) ≡ o → (count == 0) ≡ z → passes Store l at count ≡ b → StoresMiss (reads (cond o (cond z (Refused 0) (cond b (Asks (min count cap)) (Refused (error EFAULT)))) (Refused (error EBADF))) fd at left)
        by false z b e f g = tt
        by true true b e f g = tt
        by true false false e f g = tt
        by true false true e f g =
            let has : has_buffer 3 fd count ≡ true = rw (f, e) refl in
            let listed : MissCells (record { kind = Store; at = at; size = count } ∷ []) l = subst (λ (b : Bool). MissCells (cond b (record { kind = Store; at = at; size = count } ∷ []) []) l) has miss in
            let apart : Misses at count = listed.0 (and_parts (leb (at + count) 4294967296) (allows_all Store l at count) g).1 in
            taken fd at (min count cap) (fewer_miss at count (min count cap) (capped_few count) apart) (next_answer left.answers)

    reads_store : (o p c : Option ℕ) → MissCells (buffer_accessed (Some 3) o p c) l → StoresMiss (transfer_call read_call o p c l left)
    reads_store (Some fd) (Some at) (Some count) miss = read_stores fd at count miss
    reads_store (Some fd) (Some at) None miss = tt
    reads_store (Some fd) None c miss = tt
    reads_store None p c miss = tt

    writes_store : (o p c : Option ℕ) → StoresMiss (transfer_call write_call o p c l left)
    unfolding write_call
    writes_store (Some fd) (Some at) (Some count) = written _ fd
    writes_store (Some fd) (Some at) None = tt
    writes_store (Some fd) None c = tt
    writes_store None p c = tt

    exit_stores : (o : Option ℕ) → StoresMiss (exit_call o)
    exit_stores None = tt
    exit_stores (Some n) = tt

    pub call_stores : MissCells (buffer (known q.number)) l → StoresMiss (system_call q l left)
    unfolding system_call
    call_stores h = by (known q.number) h
      where
        by : (o : Option ℕ) → MissCells (buffer o) l → StoresMiss (call_by o q l left)
        by None h = tt
        by (Some n) h = choice (n == 1) (n == 3) (n == 4) (λ three. subst (λ (k : ℕ). MissCells (buffer (Some k)) l) (eqb-true n 3 three) h)
          where
            choice : (a b c : Bool) → (b ≡ true → MissCells (buffer (Some 3)) l) → StoresMiss (cond a (exit_call (known_byte q.fd.b0)) (cond b (transfer_call read_call (known q.fd) (known q.at) (known q.count) l left) (cond c (transfer_call write_call (known q.fd) (known q.at) (known q.count) l left) (Ends (OtherCall n)))))
            choice true b c k = exit_stores (known_byte q.fd.b0)
            choice false true c k = reads_store (known q.fd) (known q.at) (known q.count) (k refl)
            choice false false true k = writes_store (known q.fd) (known q.at) (known q.count)
            choice false false false k = tt
