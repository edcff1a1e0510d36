-- Operations over memories that differ in a range come to the same where they make no access there.
use Rattle.std.proofs.Common.{◌≡◌, ℕ, ◌&&◌, Bool, true, false, cond, List, [], ◌∷◌, ◌++◌, take, Option, Some, None, Result, Ok, Err, refl, sym, ap, ◌∙◌, subst, ℤ}
use Rattle.x86_values.specs.declared.byte.Byte.{Byte}
use Rattle.x86_values.specs.declared.word.Word.{Word}
use Rattle.x86_values.specs.declared.divided.Divided.{Divided}
use Rattle.x86_values.specs.declared.divided.Divided.TheVariants as divided
use Rattle.x86_values.specs.Words.{known, word_list, padded}
use Rattle.x86_values.specs.Divisions.{divide}
use Rattle.traces.specs.Trace.{Label, End, MemoryFault, Outside, Stopped}
use Rattle.memory.specs.Memory.{Memory, Stored, AccessKind, Load, Store, SameOutside, AreApart, allows_all, bytes_at, put_all, store_all}
use Rattle.memory.specs.MemoryLaws.{MemoryLaws}
use Rattle.memory.specs.CallLaws.{CallLaws}
use Rattle.memory.specs.SystemCall.{Called, Ends, Gives}
use Rattle.x86_meaning.specs.Operands.{Access}
use Rattle.x86_meaning.specs.AccessLaws.{AllApart}
use Rattle.flag_ir.specs.declared.variable.Var.{Var}
use Rattle.flag_ir.specs.declared.variable.Var.TheVariants as var
use Rattle.flag_ir.specs.declared.variable.Term.{Term}
use Rattle.flag_ir.specs.declared.variable.Term.TheVariants as term
use Rattle.flag_ir.specs.declared.operation.Op.{Op}
use Rattle.flag_ir.specs.declared.operation.Op.TheVariants as op
use Rattle.flag_ir.specs.Calculations.{calculate}
use Rattle.flag_ir.specs.Storage.{Frame, Storage, put_var, var_in, term_in}
use Rattle.flag_ir.specs.Frames.{reached_frames, all_covered, put_near_all, is_judged}
use Rattle.flag_ir.specs.Operations.{and_then, needed, with_memory, load, store, with_frame, near_load, near_store, at_offset, put_of, request_in, called, labels_of, call_in, has_buffer, judged_buffer, buffer_in, near_call_in, called_near, near_system, near_call_by, picked, divided_into, perform, performs, shown_by, shown_with, shown_by_all}
use Rattle.flag_ir.specs.Accesses.{accessed, accessed_near, call_accesses, near_call_accesses, op_accesses, followed_by, list_accesses, StoragesAlike, ResultsAlike}
use Rattle.flag_ir.proofs.BareFrames.{covered_bytes, get_by_frames}
use Rattle.flag_ir.proofs.CallAccesses.{call_outside, near_outside}
use Rattle.flag_ir.proofs.OperationsLess.{frame_done}

-- ---- what doesn't depend on memory
var_beside : (x : Var) (u : Storage) (n : Memory) → var_in x (with_memory u n) ≡ var_in x u
var_beside (var.Reg k) u n = refl
var_beside (var.Flag k) u n = refl
var_beside (var.Temp k) u n = refl
var_beside (var.Local k) u n = refl

term_beside : (t : Term) (u : Storage) (n : Memory) → term_in t (with_memory u n) ≡ term_in t u
term_beside (term.Var x) u n = var_beside x u n
term_beside (term.Word k) u n = refl

pub known_beside : (t : Term) (u : Storage) (n : Memory) → known (term_in t (with_memory u n)) ≡ known (term_in t u)
known_beside t u n = ap known (term_beside t u n)

buffer_beside : (m o p q : Option ℕ) (u : Storage) (n : Memory) → judged_buffer (with_memory u n) m o p q ≡ judged_buffer u m o p q
buffer_beside (Some m) (Some o) (Some p) (Some q) u n = refl
buffer_beside (Some m) (Some o) (Some p) None u n = refl
buffer_beside (Some m) (Some o) None q u n = refl
buffer_beside (Some m) None p q u n = refl
buffer_beside None o p q u n = refl

-- the buffer is that of the request
buffer_starts : (m o p q : Option ℕ) (u : Storage) (b : ℕ × ℕ) → judged_buffer u m o p q ≡ Some b → (p ≡ Some b.0) × (q ≡ Some b.1)
buffer_starts (Some m) (Some o) (Some p) (Some q) u b h = go (has_buffer m o q && is_judged p u) h
  where
    go : (t : Bool) → cond t (Some (p, q)) None ≡ Some b → (Some p ≡ Some b.0) × (Some q ≡ Some b.1)
    go true h = let same : (p, q) ≡ b = cc in (ap (λ (x : ℕ × ℕ). Some x.0) same, ap (λ (x : ℕ × ℕ). Some x.1) same)
    go false h = absurd cc
buffer_starts (Some m) (Some o) (Some p) None u b h = absurd cc
buffer_starts (Some m) (Some o) None q u b h = absurd cc
buffer_starts (Some m) None p q u b h = absurd cc
buffer_starts None o p q u b h = absurd cc

module _ (at count : ℕ) where
  -- ---- results
  abbrev Alike : Result Storage End → Result Storage End → Type 0
  Alike r s = ResultsAlike at count r s

  beside : (u : Storage) (m n : Memory) → SameOutside at count m n → StoragesAlike at count (with_memory u m) (with_memory u n)
  beside u m n h = record { same = refl; memory = h }

  put_beside : (x : Var) (w z : Word) (u : Storage) (n : Memory) → z ≡ w → SameOutside at count u.memory n → StoragesAlike at count (put_var x w u) (put_var x z (with_memory u n))
  put_beside x w z u n e h = subst (λ (y : Word). StoragesAlike at count (put_var x w u) (put_var x y (with_memory u n))) (sym e) (go x)
    where
      go : (x : Var) → StoragesAlike at count (put_var x w u) (put_var x w (with_memory u n))
      go (var.Reg k) = record { same = refl; memory = h }
      go (var.Flag k) = record { same = refl; memory = h }
      go (var.Temp k) = record { same = refl; memory = h }
      go (var.Local k) = record { same = refl; memory = h }

  alike_if : (t : Bool) (x y : Result Storage End) (e : End) → (t ≡ true → Alike x y) → Alike (cond t x (Err e)) (cond t y (Err e))
  alike_if true x y e h = h refl
  alike_if false x y e h = refl

  alike_either : (t : Bool) (x y p q : Result Storage End) → (t ≡ true → Alike x p) → (t ≡ false → Alike y q) → Alike (cond t x y) (cond t p q)
  alike_either true x y p q h k = h refl
  alike_either false x y p q h k = k refl

  needed_alike : (o p : Option ℕ) (f g : ℕ → Result Storage End) → p ≡ o → ((a : ℕ) → o ≡ Some a → Alike (f a) (g a)) → Alike (and_then (needed o) f) (and_then (needed p) g)
  needed_alike o p f g e h = subst (λ (q : Option ℕ). Alike (and_then (needed o) f) (and_then (needed q) g)) (sym e) (go o refl)
    where
      go : (q : Option ℕ) → o ≡ q → Alike (and_then (needed q) f) (and_then (needed q) g)
      go None is = refl
      go (Some a) is = h a is

  loaded_alike : (r s : Result Word End) (to : Var) (u : Storage) (n : Memory) → s ≡ r → SameOutside at count u.memory n → Alike (and_then r (λ w. Ok (put_var to w u))) (and_then s (λ w. Ok (put_var to w (with_memory u n))))
  loaded_alike r s to u n e h = subst (λ (q : Result Word End). Alike (and_then r (λ w. Ok (put_var to w u))) (and_then q (λ w. Ok (put_var to w (with_memory u n))))) (sym e) (go r)
    where
      go : (r : Result Word End) → Alike (and_then r (λ w. Ok (put_var to w u))) (and_then r (λ w. Ok (put_var to w (with_memory u n))))
      go (Ok w) = put_beside to w w u n refl h
      go (Err x) = refl

  with_frame_alike : (fs : List Frame) (x y : Result Storage End) → Alike x y → Alike (with_frame fs x) (with_frame fs y)
  with_frame_alike [] x y h = refl
  with_frame_alike (f ∷ fs) x y h = h

  -- ---- the accesses of an address that is known
  pub apart_at : (kind : AccessKind) (size : ℕ) (o : Option ℕ) (a : ℕ) → o ≡ Some a → AllApart (accessed kind size o) at count → AreApart a size at count
  apart_at kind size o a is h = (subst (λ (q : Option ℕ). AllApart (accessed kind size q) at count) is h).0

  near_apart : (kind : AccessKind) (size : ℕ) (u : Storage) (o : Option ℕ) (a : ℕ) → o ≡ Some a → AllApart (accessed_near kind size u o) at count → is_judged a u ≡ false → AreApart a size at count
  near_apart kind size u o a is h outside =
      let here : AllApart (cond (is_judged a u) [] (record { kind = kind; at = a; size = size } ∷ [])) at count = subst (λ (q : Option ℕ). AllApart (accessed_near kind size u q) at count) is h in
      let listed : AllApart (cond false [] (record { kind = kind; at = a; size = size } ∷ [])) at count = subst (λ (t : Bool). AllApart (cond t [] (record { kind = kind; at = a; size = size } ∷ [])) at count) outside here in
      listed.0

  -- ---- lists of accesses
  pub first_apart : (xs ys : List Access) → AllApart (xs ++ ys) at count → AllApart xs at count
  first_apart [] ys h = tt
  first_apart (x ∷ xs) ys h = (h.0, first_apart xs ys h.1)

  pub rest_apart : (xs ys : List Access) → AllApart (xs ++ ys) at count → AllApart ys at count
  rest_apart [] ys h = h
  rest_apart (x ∷ xs) ys h = rest_apart xs ys h.1

  module _ (laws : MemoryLaws) (calls : CallLaws) (u : Storage) (n : Memory) (same : SameOutside at count u.memory n) where
    -- ---- loads and stores
    load_alike : (size a : ℕ) → AreApart a size at count → load size n a ≡ load size u.memory a
    load_alike size a apart =
        let allowed : allows_all Load u.memory a size ≡ allows_all Load n a size = laws.allows_outside Load at count a size u.memory n apart same in
        let bytes : bytes_at u.memory a size ≡ bytes_at n a size = laws.bytes_outside at count a size u.memory n apart same in
        sym (ap (λ (t : Bool). cond t (Ok (padded (bytes_at u.memory a size))) (Err MemoryFault)) allowed ∙ ap (λ (bs : List Byte). cond (allows_all Load n a size) (Ok (padded bs)) (Err MemoryFault)) bytes)

    stored_alike : (size : ℕ) (w z : Word) (a : ℕ) → z ≡ w → AreApart a size at count → Alike (and_then (store size w u.memory a) (λ m. Ok (with_memory u m))) (and_then (store size z n a) (λ m. Ok (with_memory u m)))
    stored_alike size w z a e apart =
        let allowed : allows_all Store u.memory a size ≡ allows_all Store n a size = laws.allows_outside Store at count a size u.memory n apart same in
        let put : SameOutside at count (put_all a (take size (word_list w)) u.memory) (put_all a (take size (word_list w)) n) = laws.same_outside_put at count a (take size (word_list w)) u.memory n same in
        subst (λ (y : Word). Alike (and_then (store size w u.memory a) (λ m. Ok (with_memory u m))) (and_then (store size y n a) (λ m. Ok (with_memory u m)))) (sym e)
        (subst (λ (t : Bool). Alike (and_then (store size w u.memory a) (λ m. Ok (with_memory u m))) (and_then (cond t (Ok (put_all a (take size (word_list w)) n)) (Err MemoryFault)) (λ m. Ok (with_memory u m)))) allowed
        (both (allows_all Store u.memory a size) (put_all a (take size (word_list w)) u.memory) (put_all a (take size (word_list w)) n) put))
      where
        both : (t : Bool) (m l : Memory) → SameOutside at count m l → Alike (and_then (cond t (Ok m) (Err MemoryFault)) (λ m. Ok (with_memory u m))) (and_then (cond t (Ok l) (Err MemoryFault)) (λ m. Ok (with_memory u m)))
        both true m l h = beside u m l h
        both false m l h = refl

    near_load_alike : (turn size a : ℕ) → (is_judged a u ≡ false → AreApart a size at count) → near_load turn size (with_memory u n) a ≡ near_load turn size u a
    near_load_alike turn size a apart =
        framed u.frames _ _
        (by_judging (is_judged a u) _ _ _ _ (λ h. by_covering (all_covered (reached_frames u.frames) a size) _ _ (Stopped turn) (λ k. ap padded (covered_bytes (reached_frames u.frames) n u.memory a size k))) (λ h. load_alike size a (apart h)))
      where
        framed : (fs : List Frame) (x y : Result Word End) → x ≡ y → with_frame fs x ≡ with_frame fs y
        framed fs x y e = ap (with_frame fs) e

        by_judging : (t : Bool) (x y p q : Result Word End) → (t ≡ true → x ≡ p) → (t ≡ false → y ≡ q) → cond t x y ≡ cond t p q
        by_judging true x y p q h k = h refl
        by_judging false x y p q h k = k refl

        by_covering : (t : Bool) (x y : Word) (e : End) → (t ≡ true → x ≡ y) → cond {A = Result Word End} t (Ok x) (Err e) ≡ cond t (Ok y) (Err e)
        by_covering true x y e h = ap (λ (w : Word). Ok w) (h refl)
        by_covering false x y e h = refl

    near_store_alike : (turn size : ℕ) (w z : Word) (a : ℕ) → z ≡ w → (is_judged a u ≡ false → AreApart a size at count) → Alike (near_store turn size w u a) (near_store turn size z (with_memory u n) a)
    near_store_alike turn size w z a e apart =
        with_frame_alike u.frames _ _
        (alike_either (is_judged a u) _ _ _ _
        (λ h. alike_if (all_covered (reached_frames u.frames) a size) _ _ (Stopped turn) (λ k. subst (λ (y : Word). StoragesAlike at count (record u { frames = put_near_all a (take size (word_list w)) u.frames }) (record (with_memory u n) { frames = put_near_all a (take size (word_list y)) u.frames })) (sym e) (record { same = refl; memory = same })))
        (λ h. stored_alike size w z a e (apart h)))

    put_alike : (size : ℕ) (offset : ℤ) (w z : Word) (fs : List Frame) → z ≡ w → Alike (put_of size offset w u fs) (put_of size offset z (with_memory u n) fs)
    put_alike size offset w z fs e = subst (λ (y : Word). Alike (put_of size offset w u fs) (put_of size offset y (with_memory u n) fs)) (sym e) (go fs)
      where
        go : (fs : List Frame) → Alike (put_of size offset w u fs) (put_of size offset w (with_memory u n) fs)
        go [] = refl
        go (f ∷ more) = alike_if (all_covered (f ∷ []) (at_offset f.height offset) size) _ _ Outside (λ h. record { same = refl; memory = same })

    -- ---- calls
    all_stored : (stores : List Stored) (m l : Memory) → SameOutside at count m l → SameOutside at count (store_all stores m) (store_all stores l)
    all_stored [] m l h = h
    all_stored (s ∷ more) m l h = all_stored more _ _ (laws.same_outside_put at count s.at s.bytes m l h)

    called_alike : (x y : Called) → x ≡ y → Alike (called x u) (called y (with_memory u n))
    called_alike x y e = subst (λ (z : Called). Alike (called x u) (called z (with_memory u n))) e (go x)
      where
        go : (x : Called) → Alike (called x u) (called x (with_memory u n))
        go (Ends e) = refl
        go (Gives labels result stores left) = record { same = refl; memory = all_stored stores u.memory n same }

    called_near_alike : (x y : Called) → x ≡ y → Alike (called_near x u) (called_near y (with_memory u n))
    called_near_alike x y e = subst (λ (z : Called). Alike (called_near x u) (called_near z (with_memory u n))) e (go x)
      where
        go : (x : Called) → Alike (called_near x u) (called_near x (with_memory u n))
        go (Ends e) = refl
        go (Gives labels result stores left) = record { same = refl; memory = same }

    call_same : AllApart (call_accesses u) at count → call_in u ≡ call_in (with_memory u n)
    call_same apart = call_outside calls (request_in u) at count u.memory n u.left apart same

    near_same : (b : ℕ × ℕ) → buffer_in u ≡ Some b → all_covered (reached_frames u.frames) b.0 b.1 ≡ true → near_call_in u ≡ near_call_in (with_memory u n)
    near_same b is covered =
        let there : (known (u.regs 1) ≡ Some b.0) × (known (u.regs 2) ≡ Some b.1) = buffer_starts (known (u.regs 0)) (known (u.regs 3)) (known (u.regs 1)) (known (u.regs 2)) u b is in
        near_outside calls (request_in u) (reached_frames u.frames) b.0 b.1 u.memory n u.left there.0 there.1 covered

    near_system_by : (turn : ℕ) (o : Option (ℕ × ℕ)) → buffer_in u ≡ o → AllApart (near_call_accesses o u) at count → Alike (near_system turn o u) (near_system turn o (with_memory u n))
    near_system_by turn None is apart = called_alike (call_in u) (call_in (with_memory u n)) (call_same apart)
    near_system_by turn (Some b) is apart = alike_if (all_covered (reached_frames u.frames) b.0 b.1) _ _ (Stopped turn) (λ covered. called_near_alike (near_call_in u) (near_call_in (with_memory u n)) (near_same b is covered))

    same_buffer : buffer_in (with_memory u n) ≡ buffer_in u
    same_buffer = buffer_beside (known (u.regs 0)) (known (u.regs 3)) (known (u.regs 1)) (known (u.regs 2)) u n

    near_system_alike : (turn : ℕ) → AllApart (near_call_accesses (buffer_in u) u) at count → Alike (near_system turn (buffer_in u) u) (near_system turn (buffer_in (with_memory u n)) (with_memory u n))
    near_system_alike turn apart = subst (λ (o : Option (ℕ × ℕ)). Alike (near_system turn (buffer_in u) u) (near_system turn o (with_memory u n))) (sym same_buffer) (near_system_by turn (buffer_in u) refl apart)

    divided_alike : (d e : Divided) (q r : Var) → e ≡ d → Alike (divided_into d q r u) (divided_into e q r (with_memory u n))
    divided_alike d e q r is = subst (λ (x : Divided). Alike (divided_into d q r u) (divided_into x q r (with_memory u n))) (sym is) (go d)
      where
        go : (d : Divided) → Alike (divided_into d q r u) (divided_into d q r (with_memory u n))
        go (divided.Got x y) =
            let first : StoragesAlike at count (put_var q x u) (put_var q x (with_memory u n)) = put_beside q x x u n refl same in
            subst (λ (t : Storage). StoragesAlike at count (put_var r y (put_var q x u)) (put_var r y t)) first.same (put_beside r y y (put_var q x u) (put_var q x (with_memory u n)).memory refl first.memory)
        go divided.Fault = refl
        go divided.Unspecified = refl

    -- ---- operations
    operation_alike : (turn : ℕ) (o : Op) → AllApart (op_accesses o u) at count → Alike (perform turn o u) (perform turn o (with_memory u n))
    unfolding perform
    operation_alike turn (op.Set to from) h = put_beside to _ _ u n (term_beside from u n) same
    operation_alike turn (op.Calc to calc left right) h = put_beside to _ _ u n (ap (λ (x : Word). calculate calc x (term_in right (with_memory u n))) (term_beside left u n) ∙ ap (calculate calc (term_in left u)) (term_beside right u n)) same
    operation_alike turn (op.Forget to) h = put_beside to _ _ u n refl same
    operation_alike turn (op.Pick to test x y) h =
        put_beside to _ _ u n
        (ap (λ (o : Option ℕ). picked o (term_in x (with_memory u n)) (term_in y (with_memory u n))) (known_beside test u n) ∙ ap (λ (w : Word). picked (known (term_in test u)) w (term_in y (with_memory u n))) (term_beside x u n) ∙ ap (picked (known (term_in test u)) (term_in x u)) (term_beside y u n)) same
    operation_alike turn (op.Need from) h = needed_alike _ _ _ _ (known_beside from u n) (λ a is. record { same = refl; memory = same })
    operation_alike turn (op.Divide quotient remainder high low by size signed) h =
        divided_alike _ _ quotient remainder
        (ap (λ (x : Word). divide signed size x (term_in low (with_memory u n)) (term_in by (with_memory u n))) (term_beside high u n) ∙ ap (λ (x : Word). divide signed size (term_in high u) x (term_in by (with_memory u n))) (term_beside low u n) ∙ ap (divide signed size (term_in high u) (term_in low u)) (term_beside by u n))
    operation_alike turn (op.Load to size from) h = needed_alike _ _ _ _ (known_beside from u n) (λ a is. loaded_alike _ _ to u n (load_alike size a (apart_at Load size _ a is h)) same)
    operation_alike turn (op.Store size to from) h = needed_alike _ _ _ _ (known_beside to u n) (λ a is. stored_alike size _ _ a (term_beside from u n) (apart_at Store size _ a is h))
    operation_alike turn (op.NearLoad to size from) h = needed_alike _ _ _ _ (known_beside from u n) (λ a is. loaded_alike _ _ to u n (near_load_alike turn size a (near_apart Load size u _ a is h)) same)
    operation_alike turn (op.NearStore size to from) h = needed_alike _ _ _ _ (known_beside to u n) (λ a is. near_store_alike turn size _ _ a (term_beside from u n) (near_apart Store size u _ a is h))
    operation_alike turn (op.Get to size offset) h = loaded_alike _ _ to u n (get_by_frames size offset n u.memory u.frames) same
    operation_alike turn (op.Put size offset from) h = put_alike size offset _ _ u.frames (term_beside from u n)
    operation_alike turn op.System h = called_alike (call_in u) (call_in (with_memory u n)) (call_same h)
    operation_alike turn op.NearSystem h = with_frame_alike u.frames _ _ (near_system_alike turn h)

  module _ (laws : MemoryLaws) (calls : CallLaws) where
    pub perform_outside : (turn : ℕ) (o : Op) (u v : Storage) → StoragesAlike at count u v → AllApart (op_accesses o u) at count → ResultsAlike at count (perform turn o u) (perform turn o v)
    perform_outside turn o u v h apart = subst (λ (t : Storage). ResultsAlike at count (perform turn o u) (perform turn o t)) h.same (operation_alike laws calls u v.memory h.memory turn o apart)

    -- ---- what they show
    near_shown : (turn : ℕ) (o : Option (ℕ × ℕ)) (u w : Storage) (n : Memory) → SameOutside at count u.memory n → buffer_in u ≡ o → AllApart (near_call_accesses o u) at count → near_system turn o u ≡ Ok w → labels_of (near_call_by o u) ≡ labels_of (near_call_by o (with_memory u n))
    near_shown turn None u w n same is apart done = ap labels_of (call_same laws calls u n same apart)
    near_shown turn (Some b) u w n same is apart done = ap labels_of (near_same laws calls u n same b is (done_where (all_covered (reached_frames u.frames) b.0 b.1) _ (Stopped turn) w done))
      where
        done_where : (t : Bool) (x : Result Storage End) (e : End) (w : Storage) → cond t x (Err e) ≡ Ok w → t ≡ true
        done_where true x e w h = refl
        done_where false x e w h = absurd cc

    shown_beside : (turn : ℕ) (o : Op) (u w : Storage) (n : Memory) → SameOutside at count u.memory n → AllApart (op_accesses o u) at count → perform turn o u ≡ Ok w → shown_by o u ≡ shown_by o (with_memory u n)
    unfolding perform
    shown_beside turn op.System u w n same apart done = ap labels_of (call_same laws calls u n same apart)
    shown_beside turn op.NearSystem u w n same apart done =
        near_shown turn (buffer_in u) u w n same refl apart (frame_done u.frames (near_system turn (buffer_in u) u) w done) ∙ ap (λ (o : Option (ℕ × ℕ)). labels_of (near_call_by o (with_memory u n))) (sym (same_buffer laws calls u n same))
    shown_beside turn o u w n same apart done = refl

    pub shown_outside : (turn : ℕ) (o : Op) (u v w : Storage) → StoragesAlike at count u v → AllApart (op_accesses o u) at count → perform turn o u ≡ Ok w → shown_by o u ≡ shown_by o v
    shown_outside turn o u v w h apart done = subst (λ (t : Storage). shown_by o u ≡ shown_by o t) h.same (shown_beside turn o u w v.memory h.memory apart done)

    -- ---- lists
    then_alike : (r s : Result Storage End) (f : Storage → Result Storage End) (g : Storage → List Access) → Alike r s → AllApart (followed_by r g) at count → ((u v : Storage) → StoragesAlike at count u v → AllApart (g u) at count → Alike (f u) (f v)) → Alike (and_then r f) (and_then s f)
    then_alike (Ok u) (Ok v) f g h apart k = k u v h apart
    then_alike (Ok u) (Err e) f g h apart k = absurd h
    then_alike (Err e) s f g h apart k = ap (λ (x : Result Storage End). and_then x f) h

    pub performs_outside : (turn : ℕ) (ops : List Op) (u v : Storage) → StoragesAlike at count u v → AllApart (list_accesses turn ops u) at count → ResultsAlike at count (performs turn ops u) (performs turn ops v)
    unfolding performs list_accesses
    performs_outside turn [] u v h apart = h
    performs_outside turn (o ∷ os) u v h apart =
        then_alike (perform turn o u) (perform turn o v) (performs turn os) (list_accesses turn os) (perform_outside turn o u v h (first_apart (op_accesses o u) (followed_by (perform turn o u) (list_accesses turn os)) apart))
        (rest_apart (op_accesses o u) (followed_by (perform turn o u) (list_accesses turn os)) apart) (λ s t k more. performs_outside turn os s t k more)

    then_shown : (r s : Result Storage End) (xs ys : List Label) (f : Storage → List Label) (g : Storage → List Access) → Alike r s → AllApart (followed_by r g) at count → ((w : Storage) → r ≡ Ok w → xs ≡ ys) → ((u v : Storage) → StoragesAlike at count u v → AllApart (g u) at count → f u ≡ f v) → shown_with r xs f ≡ shown_with s ys f
    then_shown (Ok u) (Ok v) xs ys f g h apart same k = ap (λ (zs : List Label). zs ++ f u) (same u refl) ∙ ap (λ (zs : List Label). ys ++ zs) (k u v h apart)
    then_shown (Ok u) (Err e) xs ys f g h apart same k = absurd h
    then_shown (Err e) s xs ys f g h apart same k = ap (λ (x : Result Storage End). shown_with x ys f) (sym h)

    pub shown_all_outside : (turn : ℕ) (ops : List Op) (u v : Storage) → StoragesAlike at count u v → AllApart (list_accesses turn ops u) at count → shown_by_all turn ops u ≡ shown_by_all turn ops v
    unfolding shown_by_all list_accesses
    shown_all_outside turn [] u v h apart = refl
    shown_all_outside turn (o ∷ os) u v h apart =
        let first : AllApart (op_accesses o u) at count = first_apart (op_accesses o u) (followed_by (perform turn o u) (list_accesses turn os)) apart in
        then_shown (perform turn o u) (perform turn o v) (shown_by o u) (shown_by o v) (shown_by_all turn os) (list_accesses turn os) (perform_outside turn o u v h first)
        (rest_apart (op_accesses o u) (followed_by (perform turn o u) (list_accesses turn os)) apart) (λ w done. shown_outside turn o u v w h first done) (λ s t k more. shown_all_outside turn os s t k more)
