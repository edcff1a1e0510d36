-- Each operation beside the list that it becomes.
use Rattle.std.proofs.Common.{◌≡◌, ℕ, zero, suc, ◌+◌, ◌<◌, ◌≤◌, Bool, true, false, cond, List, length, take, Option, Some, None, Result, Ok, Err, refl, sym, ap, ◌∙◌, subst, subst₂, arith}
use Rattle.std.proofs.lemmas.List.{length-take}
use Rattle.x86_values.specs.declared.byte.Byte.{Byte}
use Rattle.x86_values.specs.declared.word.Word.{Word}
use Rattle.x86_values.specs.declared.divided.Divided.{Divided}
use Rattle.x86_values.specs.declared.divided.Divided.TheVariants as divided
use Rattle.x86_values.specs.Words.{known, word_list, padded}
use Rattle.x86_values.specs.Sizes.{IsSize}
use Rattle.x86_values.specs.Divisions.{divide}
use Rattle.x86_values.specs.WordLaws.{WordLaws}
use Rattle.traces.specs.Trace.{End, MemoryFault}
use Rattle.memory.specs.Memory.{Memory, Load, Store, wrapped, allows_all, bytes_at, put_all}
use Rattle.memory.specs.MemoryLaws.{MemoryLaws}
use Rattle.flag_ir.specs.declared.variable.Var.{Var}
use Rattle.flag_ir.specs.declared.operation.Op.{Op}
use Rattle.flag_ir.specs.declared.operation.Op.TheVariants as op
use Rattle.flag_ir.specs.Calculations.{calculate}
use Rattle.flag_ir.specs.Storage.{Storage, put_var}
use Rattle.flag_ir.specs.Operations.{and_then, needed, load, store, with_memory, picked, divided_into, perform}
use Rattle.private_memory.specs.PrivateArea.{is_private, without_private, HasPrivateArea}
use Rattle.private_memory.specs.PrivateAreaLaws.{UsualLaws, PrivateAccessLaws}
use Rattle.guards.specs.Temporaries.{IsOpBelow}
use Rattle.guards.specs.States.{DiffersByArea}
use Rattle.guards.proofs.Addresses.{StandsFor}
use Rattle.guards.proofs.Sides.{term_same, put_beside, put_memory, SameArea, Meets, put_meets, needed_meets}

-- ---- operations that access no memory
divided_meets : (d e : Divided) (q r : Var) (u v : Storage) → DiffersByArea u v → d ≡ e → Meets v.memory (divided_into d q r u) (divided_into e q r v)
divided_meets d e q r u v h is = subst (λ x. Meets v.memory (divided_into x q r u) (divided_into e q r v)) (sym is) (by e)
  where
    by : (x : Divided) → Meets v.memory (divided_into x q r u) (divided_into x q r v)
    by (divided.Got a b) = record {
      beside = put_beside r b b (put_var q a u) (put_var q a v) (put_beside q a a u v h refl) refl;
      area = record { places = λ k p. ap (λ (m : Memory). m k) (put_memory r b (put_var q a v) ∙ put_memory q a v) };
    }
    by divided.Fault = refl
    by divided.Unspecified = refl

abbrev pub IsPlain : Op → Type 0
IsPlain (op.Load to size at) = ⊥
IsPlain (op.Store size at from) = ⊥
IsPlain op.System = ⊥
IsPlain op.NearSystem = ⊥
IsPlain (op.NearLoad to size at) = ⊥
IsPlain (op.NearStore size at from) = ⊥
IsPlain (op.Get to size offset) = ⊥
IsPlain (op.Put size offset from) = ⊥
IsPlain _ = Unit {0}

pub plain_meets : (turn : ℕ) (o : Op) (u v : Storage) → IsPlain o → IsOpBelow 1399997 o → DiffersByArea u v → Meets v.memory (perform turn o u) (perform turn o v)
unfolding perform
plain_meets turn (op.Set to from) u v plain b h = put_meets to _ _ u v h (term_same from u v h b.1)
plain_meets turn (op.Calc to c left right) u v plain b h = put_meets to _ _ u v h (λ i. calculate c (term_same left u v h b.1 i) (term_same right u v h b.2 i))
plain_meets turn (op.Forget to) u v plain b h = put_meets to _ _ u v h refl
plain_meets turn (op.Pick to test x y) u v plain b h = put_meets to _ _ u v h (λ i. picked (known (term_same test u v h b.1 i)) (term_same x u v h b.2 i) (term_same y u v h b.3 i))
plain_meets turn (op.Need from) u v plain b h = needed_meets v.memory _ _ _ _ (ap known (term_same from u v h b)) (λ n e. record { beside = h; area = record { places = λ a p. refl } })
plain_meets turn (op.Divide q r high low by size signed) u v plain b h = divided_meets _ _ q r u v h (λ i. divide signed size (term_same high u v h b.2 i) (term_same low u v h b.3 i) (term_same by u v h b.4 i))
plain_meets turn (op.Load to size at) u v plain b h = absurd plain
plain_meets turn (op.Store size at from) u v plain b h = absurd plain
plain_meets turn (op.NearLoad to size at) u v plain b h = absurd plain
plain_meets turn (op.NearStore size at from) u v plain b h = absurd plain
plain_meets turn (op.Get to size offset) u v plain b h = absurd plain
plain_meets turn (op.Put size offset from) u v plain b h = absurd plain
plain_meets turn op.System u v plain b h = absurd plain
plain_meets turn op.NearSystem u v plain b h = absurd plain

-- ---- a known address, and what stands for it
stands_meets : (m : Memory) (w z : Word) (f g : ℕ → Result Storage End) → StandsFor w z → ((a : ℕ) → a < 4294967296 → is_private a ≡ true → Meets m (f a) (g 0)) → ((a : ℕ) → a < 4294967296 → is_private a ≡ false → Meets m (f a) (g a)) →
    Meets m (and_then (needed (known w)) f) (and_then (needed (known z)) g)
stands_meets m w z f g s inside outside = by (known w) refl
  where
    at : (p : Option ℕ) (r : Result Storage End) → known z ≡ p → Meets m r (and_then (needed p) g) → Meets m r (and_then (needed (known z)) g)
    at p r e h = subst (λ q. Meets m r (and_then (needed q) g)) (sym e) h

    by_place : (a : ℕ) (b : Bool) → known w ≡ Some a → is_private a ≡ b → Meets m (f a) (and_then (needed (known z)) g)
    by_place a true e p = at (Some 0) (f a) (s.inside a e p) (inside a (s.small a e) p)
    by_place a false e p = at (Some a) (f a) (s.outside a e p) (outside a (s.small a e) p)

    by : (o : Option ℕ) → known w ≡ o → Meets m (and_then (needed o) f) (and_then (needed (known z)) g)
    by None e = at None (and_then (needed None) f) (s.none e) refl
    by (Some a) e = by_place a (is_private a) e refl

loaded_meets : (m : Memory) (to : Var) (r s : Result Word End) (u v : Storage) → r ≡ s → DiffersByArea u v → v.memory ≡ m → Meets m (and_then r (λ w. Ok (put_var to w u))) (and_then s (λ w. Ok (put_var to w v)))
loaded_meets m to r s u v e h is = subst (λ q. Meets m (and_then q (λ w. Ok (put_var to w u))) (and_then s (λ w. Ok (put_var to w v)))) (sym e) (subst (λ n. Meets n (and_then s (λ w. Ok (put_var to w u))) (and_then s (λ w. Ok (put_var to w v)))) is (by s))
  where
    by : (s : Result Word End) → Meets v.memory (and_then s (λ w. Ok (put_var to w u))) (and_then s (λ w. Ok (put_var to w v)))
    by (Ok w) = put_meets to w w u v h refl
    by (Err f) = refl

module _ (words : WordLaws) (memory : MemoryLaws) (usual : UsualLaws) (area : PrivateAccessLaws) (turn : ℕ) where
  small_wraps : (a : ℕ) → a < 4294967296 → wrapped a ≡ a
  small_wraps a l = omega arith

  some_size : (size : ℕ) → IsSize size → (k : ℕ) × (size ≡ suc k)
  some_size zero h = absurd cc
  some_size (suc k) h = (k, refl)

  -- ---- loads
  fails_load : (size a : ℕ) (m : Memory) → allows_all Load m a size ≡ false → load size m a ≡ Err MemoryFault
  fails_load size a m e = ap (λ b. cond b (Ok (padded (bytes_at m a size))) (Err MemoryFault)) e

  load_inside : (size a : ℕ) (m : Memory) → IsSize size → HasPrivateArea m → is_private (wrapped a) ≡ true → load size (without_private m) a ≡ load size m 0
  load_inside size a m sized has p =
      let k = some_size size sized in
      fails_load size a (without_private m) (ap (allows_all Load (without_private m) a) k.1 ∙ area.refuses Load m a k.0 p) ∙ sym (fails_load size 0 m (ap (allows_all Load m 0) k.1 ∙ area.refuses_zero Load m k.0 has))

  load_outside : (size a : ℕ) (m : Memory) → HasPrivateArea m → is_private (wrapped a) ≡ false → load size (without_private m) a ≡ load size m a
  load_outside size a m has p =
      ap (λ b. cond b (Ok (padded (bytes_at (without_private m) a size))) (Err MemoryFault)) (area.allows Load m a size has p)
      ∙ by (allows_all Load m a size) refl
    where
      by : (b : Bool) → allows_all Load m a size ≡ b → cond b (Ok (padded (bytes_at (without_private m) a size))) (Err MemoryFault) ≡ cond b (Ok (padded (bytes_at m a size))) (Err MemoryFault)
      by true e = ap (λ bs. Ok (padded bs)) (area.loads Load m a size has p e)
      by false e = refl

  pub load_meets : (to : Var) (size : ℕ) (w z : Word) (u v : Storage) → IsSize size → HasPrivateArea v.memory → DiffersByArea u v → StandsFor w z →
      Meets v.memory (and_then (needed (known w)) (λ a. and_then (load size u.memory a) (λ x. Ok (put_var to x u)))) (and_then (needed (known z)) (λ a. and_then (load size v.memory a) (λ x. Ok (put_var to x v))))
  load_meets to size w z u v sized has h s =
      stands_meets v.memory w z _ _ s
      (λ a l p. loaded_meets v.memory to _ _ u v (ap (λ m. load size m a) h.memory ∙ load_inside size a v.memory sized has (ap is_private (small_wraps a l) ∙ p)) h refl)
      (λ a l p. loaded_meets v.memory to _ _ u v (ap (λ m. load size m a) h.memory ∙ load_outside size a v.memory has (ap is_private (small_wraps a l) ∙ p)) h refl)

  -- ---- stores
  stored_beside : (a : ℕ) (bs : List Byte) (u v : Storage) → DiffersByArea u v → DiffersByArea (with_memory u (put_all a bs u.memory)) (with_memory v (put_all a bs v.memory))
  stored_beside a bs u v h = record { regs = h.regs; flags = h.flags; temps = h.temps; memory = ap (put_all a bs) h.memory ∙ sym (λ i x. usual.store a bs v.memory x i); left = h.left; no_frame = h.no_frame; no_frame' = h.no_frame'; esp0 = h.esp0 }

  pub put_outside : (a : ℕ) (bs : List Byte) (m : Memory) → ((k : ℕ) → k < length bs → is_private (wrapped (a + k)) ≡ false) → SameArea m (put_all a bs m)
  put_outside a bs m out = record { places = λ x p. memory.put_all_elsewhere a bs m x (λ k l e. let both : true ≡ false = sym p ∙ (ap is_private e ∙ out k l) in absurd cc) }

  take_few : (n : ℕ) (xs : List Byte) → length (take n xs) ≤ n
  take_few n xs = omega (arith, length-take n xs)

  store_inside : (size a : ℕ) (x y : Word) (u v : Storage) → IsSize size → HasPrivateArea v.memory → DiffersByArea u v → is_private (wrapped a) ≡ true →
      Meets v.memory (and_then (store size x u.memory a) (λ m. Ok (with_memory u m))) (and_then (store size y v.memory 0) (λ m. Ok (with_memory v m)))
  store_inside size a x y u v sized has h p =
      let k = some_size size sized in
      let first : allows_all Store u.memory a size ≡ false = ap (λ m. allows_all Store m a size) h.memory ∙ (ap (allows_all Store (without_private v.memory) a) k.1 ∙ area.refuses Store v.memory a k.0 p) in
      let second : allows_all Store v.memory 0 size ≡ false = ap (allows_all Store v.memory 0) k.1 ∙ area.refuses_zero Store v.memory k.0 has in
      subst₂ (λ b c. Meets v.memory (and_then (cond b (Ok (put_all a (take size (word_list x)) u.memory)) (Err MemoryFault)) (λ m. Ok (with_memory u m))) (and_then (cond c (Ok (put_all 0 (take size (word_list y)) v.memory)) (Err MemoryFault)) (λ m. Ok (with_memory v m)))) (sym first) (sym second) refl

  store_outside : (size a : ℕ) (x y : Word) (u v : Storage) → HasPrivateArea v.memory → DiffersByArea u v → x ≡ y → is_private (wrapped a) ≡ false →
      Meets v.memory (and_then (store size x u.memory a) (λ m. Ok (with_memory u m))) (and_then (store size y v.memory a) (λ m. Ok (with_memory v m)))
  store_outside size a x y u v has h e p =
      subst (λ w. Meets v.memory (and_then (store size w u.memory a) (λ m. Ok (with_memory u m))) (and_then (store size y v.memory a) (λ m. Ok (with_memory v m)))) (sym e)
      (subst (λ b. Meets v.memory (and_then (cond b (Ok (put_all a (take size (word_list y)) u.memory)) (Err MemoryFault)) (λ m. Ok (with_memory u m))) (and_then (store size y v.memory a) (λ m. Ok (with_memory v m)))) (sym (ap (λ m. allows_all Store m a size) h.memory ∙ area.allows Store v.memory a size has p))
      (by (allows_all Store v.memory a size) refl))
    where
      by : (b : Bool) → allows_all Store v.memory a size ≡ b → Meets v.memory (and_then (cond b (Ok (put_all a (take size (word_list y)) u.memory)) (Err MemoryFault)) (λ m. Ok (with_memory u m))) (and_then (cond b (Ok (put_all a (take size (word_list y)) v.memory)) (Err MemoryFault)) (λ m. Ok (with_memory v m)))
      by true all = record {
        beside = stored_beside a (take size (word_list y)) u v h;
        area = put_outside a (take size (word_list y)) v.memory (λ k l. area.outside Store v.memory a size has p all k (let few = take_few size (word_list y) in omega arith));
      }
      by false all = refl

  pub store_meets : (size : ℕ) (w z x y : Word) (u v : Storage) → IsSize size → HasPrivateArea v.memory → DiffersByArea u v → StandsFor w z → x ≡ y →
      Meets v.memory (and_then (needed (known w)) (λ a. and_then (store size x u.memory a) (λ m. Ok (with_memory u m)))) (and_then (needed (known z)) (λ a. and_then (store size y v.memory a) (λ m. Ok (with_memory v m))))
  store_meets size w z x y u v sized has h s e =
      stands_meets v.memory w z _ _ s
      (λ a l p. store_inside size a x y u v sized has h (ap is_private (small_wraps a l) ∙ p))
      (λ a l p. store_outside size a x y u v has h e (ap is_private (small_wraps a l) ∙ p))
