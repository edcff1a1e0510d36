-- Operations that make no call.
use Rattle.std.proofs.Common.{◌≡◌, ℕ, zero, suc, ◌+◌, ◌≤◌, ◌==◌, ◌&&◌, ◌||◌, Bool, true, false, cond, length, take, Option, Some, None, Result, Ok, Err, refl, sym, ap, ◌∙◌, arith}
use Rattle.std.proofs.lemmas.Bool.{eqb-true}
use Rattle.outside.specs.Environment.{Environment}
use Rattle.x86_values.specs.declared.word.Word.{Word}
use Rattle.x86_values.specs.Words.{known, padded, word_list}
use Rattle.x86_values.specs.Sizes.{IsSize, no_word}
use Rattle.x86_values.specs.Divisions.{divide}
use Rattle.x86_values.specs.declared.divided.Divided.{Divided}
use Rattle.x86_values.specs.declared.divided.Divided.TheVariants as divided
use Rattle.std.specs.declared.alloc.AllocError.{AllocError}
use Rattle.std.proofs.lemmas.List.{length-take-le}
use Rattle.mem_pages.specs.declared.end.RunEnd.{RunEnd}
use Rattle.traces.specs.Trace.{End}
use Rattle.traces.specs.Trace as trace
use Rattle.memory.specs.Memory.{Place, Memory, Load, Store, wrapped, allows, allows_all, bytes_at, put_all}
use Rattle.mem_pages.specs.Accesses.{loaded}
use Rattle.mem_pages.specs.declared.end.RunEnd.TheVariants as run
use Rattle.flag_ir.specs.declared.variable.Var.{Var}
use Rattle.flag_ir.specs.declared.variable.Term.{Term}
use Rattle.flag_ir.specs.declared.operation.Op.TheVariants as op
use Rattle.flag_ir.specs.declared.operation.Calc.{Calc}
use Rattle.flag_ir.specs.Calculations.{calculate}
use Rattle.flag_ir.specs.Storage.{Storage, put_var, term_in}
use Rattle.flag_ir.specs.Operations as operations
use Rattle.flag_ir.specs.Operations.{and_then, needed, picked, perform}
use Rattle.unit_machine.specs.declared.values.Values.{Values}
use Rattle.unit_machine.specs.Standing.{storage_of, Puts}
use Rattle.unit_machine.specs.Computing.{ComesTo, ComesOut, Computes}

-- the word of a term, whatever else the storage has
abbrev pub IsTermWord : Word → Term → Values → Type 0
IsTermWord w t v = (m : Memory) (left : Environment) → w ≡ term_in t (storage_of v m left)

-- a word is put, by the storage
puts_word : (f : Storage → Result Storage End) (g : Storage → Word) (to : Var) (word : Word) (v w : Values) (m : Memory) → ((u : Storage) → f u ≡ Ok (put_var to (g u) u)) → ((left : Environment) → word ≡ g (storage_of v m left)) → Puts to word v w
    → ComesOut f (Ok None) v m w m
puts_word f g to word v w m is same puts left =
    is (storage_of v m left) ∙ ap (λ x. Ok (put_var to x (storage_of v m left))) (sym (same left)) ∙ ap Ok (sym (puts m left))

module _ (v w : Values) (to : Var) (m : Memory) where
  pub sets : (from : Term) (word : Word) → IsTermWord word from v → Puts to word v w → Computes (op.Set to from) (Ok None) v m w m
  unfolding perform
  sets from word is puts turn = puts_word (perform turn (op.Set to from)) (term_in from) to word v w m (λ u. refl) (is m) puts

  pub calculates : (c : Calc) (left right : Term) (x y word : Word) → IsTermWord x left v → IsTermWord y right v → word ≡ calculate c x y → Puts to word v w → Computes (op.Calc to c left right) (Ok None) v m w m
  unfolding perform
  calculates c left right x y word is_x is_y is puts turn =
      puts_word (perform turn (op.Calc to c left right)) (λ u. calculate c (term_in left u) (term_in right u)) to word v w m (λ u. refl)
      (λ rest. is ∙ ap (λ z. calculate c z y) (is_x m rest) ∙ ap (λ z. calculate c (term_in left (storage_of v m rest)) z) (is_y m rest)) puts

  pub forgets : (word : Word) → word ≡ no_word → Puts to word v w → Computes (op.Forget to) (Ok None) v m w m
  unfolding perform
  forgets word is puts turn = puts_word (perform turn (op.Forget to)) (λ u. no_word) to word v w m (λ u. refl) (λ left. is) puts

  pub picks : (test first second : Term) (x y z word : Word) (o : Option ℕ) → IsTermWord x test v → IsTermWord y first v → IsTermWord z second v → o ≡ known x → word ≡ picked o y z → Puts to word v w → Computes (op.Pick to test first second) (Ok None) v m w m
  unfolding perform
  picks test first second x y z word o is_x is_y is_z is_o is puts turn =
      puts_word (perform turn (op.Pick to test first second)) (λ u. picked (known (term_in test u)) (term_in first u) (term_in second u)) to word v w m (λ u. refl)
      (λ rest. let u = storage_of v m rest in is ∙ ap (λ (p : Option ℕ). picked p y z) (is_o ∙ ap known (is_x m rest)) ∙ ap (λ (p : Word). picked (known (term_in test u)) p z) (is_y m rest) ∙ ap (λ (p : Word). picked (known (term_in test u)) (term_in first u) p) (is_z m rest)) puts

-- ---- what has to be known
known_at : (v : Values) (m : Memory) (t : Term) (x : Word) (o : Option ℕ) → IsTermWord x t v → known x ≡ o → (left : Environment) → known (term_in t (storage_of v m left)) ≡ o
known_at v m t x o is is_o left = ap known (sym (is m left)) ∙ is_o

module _ (v : Values) (m : Memory) (t : Term) (x : Word) (is : IsTermWord x t v) where
  -- an operation that begins with what has to be known
  module _ (f : Storage → Result Storage End) (g : ℕ → Storage → Result Storage End) (by : (u : Storage) → f u ≡ and_then (needed (known (term_in t u))) (λ a. g a u)) where
    pub ends_unknown : known x ≡ None → ComesTo f run.Unspecified v m
    ends_unknown none = record {
      last = trace.Unspecified;
      is_last = refl;
      ends = λ left. let u = storage_of v m left in by u ∙ ap (λ (o : Option ℕ). and_then (needed o) (λ a. g a u)) (known_at v m t x None is none left);
    }

    pub goes_known : (a : ℕ) → known x ≡ Some a → (left : Environment) → f (storage_of v m left) ≡ g a (storage_of v m left)
    goes_known a some left = let u = storage_of v m left in by u ∙ ap (λ (o : Option ℕ). and_then (needed o) (λ b. g b u)) (known_at v m t x (Some a) is some left)

  pub need_none : known x ≡ None → Computes (op.Need t) (Ok (Some run.Unspecified)) v m v m
  unfolding perform
  need_none none turn = ends_unknown (perform turn (op.Need t)) (λ a u. Ok u) (λ u. refl) none

  pub need_some : (a : ℕ) → known x ≡ Some a → Computes (op.Need t) (Ok None) v m v m
  unfolding perform
  need_some a some turn left = goes_known (perform turn (op.Need t)) (λ b u. Ok u) (λ u. refl) a some left

-- ---- loads
abbrev by_loaded : Option Word → Result Word End
by_loaded None = Err trace.MemoryFault
by_loaded (Some w) = Ok w

load_by : (size : ℕ) (m : Memory) (at : ℕ) → operations.load size m at ≡ by_loaded (loaded m at size)
load_by size m at = choose (allows_all Load m at size)
  where
    choose : (b : Bool) → cond b (Ok (padded (bytes_at m at size))) (Err trace.MemoryFault) ≡ by_loaded (cond b (Some (padded (bytes_at m at size))) None)
    choose true = refl
    choose false = refl

module _ (v : Values) (m : Memory) (to : Var) (size : ℕ) (t : Term) (x : Word) (is : IsTermWord x t v) where
  abbrev loads : ℕ → Storage → Result Storage End
  loads a u = and_then (operations.load size u.memory a) (λ w. Ok (put_var to w u))

  pub load_unknown : known x ≡ None → (w : Values) → Computes (op.Load to size t) (Ok (Some run.Unspecified)) v m w m
  unfolding perform
  load_unknown none w turn = ends_unknown v m t x is (perform turn (op.Load to size t)) loads (λ u. refl) none

  pub load_fault : (a : ℕ) → known x ≡ Some a → loaded m a size ≡ None → (w : Values) → Computes (op.Load to size t) (Ok (Some run.MemoryFault)) v m w m
  unfolding perform
  load_fault a some none w turn = record {
    last = trace.MemoryFault;
    is_last = refl;
    ends = λ left. let u = storage_of v m left in goes_known v m t x is (perform turn (op.Load to size t)) loads (λ u. refl) a some left ∙ ap (λ (r : Result Word End). and_then r (λ y. Ok (put_var to y u))) (load_by size m a ∙ ap by_loaded none);
  }

  pub load_word : (a : ℕ) (y : Word) (w : Values) → known x ≡ Some a → loaded m a size ≡ Some y → Puts to y v w → Computes (op.Load to size t) (Ok None) v m w m
  unfolding perform
  load_word a y w some word puts turn left =
      let u = storage_of v m left in
      goes_known v m t x is (perform turn (op.Load to size t)) loads (λ u. refl) a some left ∙ ap (λ (r : Result Word End). and_then r (λ z. Ok (put_var to z u))) (load_by size m a ∙ ap by_loaded word) ∙ ap Ok (sym (puts m left))

-- ---- stores
and_right : (x y : Bool) → (x && y) ≡ true → y ≡ true
and_right true y h = h
and_right false y h = absurd (cc h)

store_loads : (m : Memory) (n at : ℕ) → allows_all Store m at n ≡ true → allows_all Load m at n ≡ true
unfolding allows_all
store_loads m zero at h = refl
store_loads m (suc n) at h = go (m (wrapped at)) h (store_loads m n (at + 1) (and_right (allows Store (m (wrapped at))) (allows_all Store m (at + 1) n) h))
  where
    go : (o : Option Place) → (allows Store o && allows_all Store m (at + 1) n) ≡ true → allows_all Load m (at + 1) n ≡ true → (allows Load o && allows_all Load m (at + 1) n) ≡ true
    go None g r = g
    go (Some p) g r = r

pub no_load_no_store : (m : Memory) (n at : ℕ) → allows_all Load m at n ≡ false → allows_all Store m at n ≡ false
no_load_no_store m n at h = go (allows_all Store m at n) refl
  where
    go : (b : Bool) → allows_all Store m at n ≡ b → b ≡ false
    go false is = refl
    go true is = sym (store_loads m n at is) ∙ h

by_test : (size : ℕ) (w : Word) (m : Memory) (at : ℕ) (b : Bool) → allows_all Store m at size ≡ b → operations.store size w m at ≡ cond b (Ok (put_all at (take size (word_list w)) m)) (Err trace.MemoryFault)
by_test size w m at b is = ap (λ (x : Bool). cond x (Ok (put_all at (take size (word_list w)) m)) (Err trace.MemoryFault)) is

is_size : (size k : ℕ) → (size == k) ≡ true → size ≡ k
is_size size k h = eqb-true size k h

pub word_size : (size : ℕ) (w : Word) → IsSize size → length (take size (word_list w)) ≡ size
word_size size w h = length-take-le size (word_list w) (few (size == 1) (size == 2) (size == 4) refl refl refl h)
  where
    few : (a b c : Bool) → (size == 1) ≡ a → (size == 2) ≡ b → (size == 4) ≡ c → (a || b || c) ≡ true → size ≤ 4
    few true b c one two four h = let e : size ≡ 1 = is_size size 1 one in omega (arith, e)
    few false true c one two four h = let e : size ≡ 2 = is_size size 2 two in omega (arith, e)
    few false false true one two four h = let e : size ≡ 4 = is_size size 4 four in omega (arith, e)
    few false false false one two four h = absurd (cc h)

module _ (v : Values) (m n : Memory) (size : ℕ) (t from : Term) (x y : Word) (is : IsTermWord x t v) (is_from : IsTermWord y from v) where
  abbrev stores : ℕ → Storage → Result Storage End
  stores a u = and_then (operations.store size (term_in from u) u.memory a) (λ k. Ok (operations.with_memory u k))

  pub store_unknown : known x ≡ None → Computes (op.Store size t from) (Ok (Some run.Unspecified)) v m v n
  unfolding perform
  store_unknown none turn = ends_unknown v m t x is (perform turn (op.Store size t from)) stores (λ u. refl) none

  pub store_fault : (a : ℕ) → known x ≡ Some a → allows_all Store m a size ≡ false → Computes (op.Store size t from) (Ok (Some run.MemoryFault)) v m v n
  unfolding perform
  store_fault a some none turn = record {
    last = trace.MemoryFault;
    is_last = refl;
    ends = λ left. let u = storage_of v m left in goes_known v m t x is (perform turn (op.Store size t from)) stores (λ u. refl) a some left ∙ ap (λ (r : Result Memory End). and_then r (λ k. Ok (operations.with_memory u k))) (by_test size (term_in from u) m a false none);
  }

  pub store_word : (a : ℕ) → known x ≡ Some a → allows_all Store m a size ≡ true → n ≡ put_all a (take size (word_list y)) m → Computes (op.Store size t from) (Ok None) v m v n
  unfolding perform
  store_word a some allowed memory turn left =
      let u = storage_of v m left in
      goes_known v m t x is (perform turn (op.Store size t from)) stores (λ u. refl) a some left ∙ ap (λ (r : Result Memory End). and_then r (λ k. Ok (operations.with_memory u k))) (by_test size (term_in from u) m a true allowed)
      ∙ ap (λ (z : Word). Ok (operations.with_memory u (put_all a (take size (word_list z)) m))) (sym (is_from m left)) ∙ ap (λ (k : Memory). Ok (operations.with_memory u k)) (sym memory)

-- ---- divisions
pub division_fault : (quotient remainder : Var) (d : Divided) (v : Values) (m : Memory) → d ≡ divided.Fault → ComesTo (operations.divided_into d quotient remainder) run.DivideFault v m
division_fault quotient remainder d v m is = record { last = trace.DivideFault; is_last = refl; ends = λ left. ap (λ (x : Divided). operations.divided_into x quotient remainder (storage_of v m left)) is }

pub division_unspecified : (quotient remainder : Var) (d : Divided) (v : Values) (m : Memory) → d ≡ divided.Unspecified → ComesTo (operations.divided_into d quotient remainder) run.Unspecified v m
division_unspecified quotient remainder d v m is = record { last = trace.Unspecified; is_last = refl; ends = λ left. ap (λ (x : Divided). operations.divided_into x quotient remainder (storage_of v m left)) is }

-- what comes out of two functions that are the same at these values
pub comes_same : (f g : Storage → Result Storage End) (r : Result (Option RunEnd) AllocError) (v : Values) (m : Memory) (w : Values) (n : Memory) → ((left : Environment) → f (storage_of v m left) ≡ g (storage_of v m left)) → ComesOut g r v m w n → ComesOut f r v m w n
comes_same f g (Ok None) v m w n same h = λ left. same left ∙ h left
comes_same f g (Ok (Some end)) v m w n same h = record { last = h.last; is_last = h.is_last; ends = λ left. same left ∙ h.ends left }
comes_same f g (Err e) v m w n same h = tt

pub divides : (quotient remainder : Var) (high low by : Term) (size : ℕ) (signed : Bool) (x y z : Word) (d : Divided) (r : Result (Option RunEnd) AllocError) (v : Values) (m : Memory) (w : Values) → IsTermWord x high v → IsTermWord y low v → IsTermWord z by v → d ≡ divide signed size x y z
    → ComesOut (operations.divided_into d quotient remainder) r v m w m → Computes (op.Divide quotient remainder high low by size signed) r v m w m
unfolding perform
divides quotient remainder high low by size signed x y z d r v m w is_x is_y is_z is h turn =
    comes_same (perform turn (op.Divide quotient remainder high low by size signed)) (operations.divided_into d quotient remainder) r v m w m
    (λ left. let u = storage_of v m left in
    let same : divide signed size (term_in high u) (term_in low u) (term_in by u) ≡ d =
    ap (λ (p : Word). divide signed size p (term_in low u) (term_in by u)) (sym (is_x m left)) ∙ ap (λ (p : Word). divide signed size x p (term_in by u)) (sym (is_y m left)) ∙ ap (λ (p : Word). divide signed size x y p) (sym (is_z m left)) ∙ sym is in
    ap (λ (k : Divided). operations.divided_into k quotient remainder u) same) h
