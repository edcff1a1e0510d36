-- The list that an operation becomes, run beside the operation.
use Rattle.std.proofs.Common.{◌≡◌, ℕ, ◌<◌, ◌==◌, Bool, true, false, cond, List, [], ◌∷◌, Result, Ok, Err, refl, sym, ap, ◌∙◌, subst, arith}
use Rattle.std.proofs.lemmas.Bool.{eqb-true, ne_eqb, cond-false}
use Rattle.x86_values.specs.declared.word.Word.{Word}
use Rattle.x86_values.specs.Words.{word_of, known}
use Rattle.x86_values.specs.WordLaws.{WordLaws}
use Rattle.x86_values.specs.LessSpecified.{WordLessSpecified}
use Rattle.traces.specs.Trace.{Label, End}
use Rattle.memory.specs.Memory.{Memory, Stored, put_all, store_all}
use Rattle.memory.specs.MemoryLaws.{MemoryLaws}
use Rattle.memory.specs.SystemCall.{Called, Ends, Gives, system_call}
use Rattle.flag_ir.specs.declared.variable.Var.{Var}
use Rattle.flag_ir.specs.declared.variable.Var.TheVariants as var
use Rattle.flag_ir.specs.declared.variable.Term.{Term}
use Rattle.flag_ir.specs.declared.variable.Term.TheVariants as term
use Rattle.flag_ir.specs.declared.operation.Op.{Op}
use Rattle.flag_ir.specs.declared.operation.Op.TheVariants as op
use Rattle.flag_ir.specs.Calculations.{difference_of}
use Rattle.flag_ir.specs.Storage.{Frame, Storage, put_word, local_in, var_in, term_in}
use Rattle.flag_ir.specs.Operations.{and_then, called, labels_of, call_in, picked, perform, performs, shown_by, shown_with, shown_by_all}
use Rattle.flag_ir.specs.LessSpecified.{StorageLessSpecified}
use Rattle.flag_ir.specs.Form.{IsOp, IsFrameless}
use Rattle.private_memory.specs.PrivateArea.{without_private, HasPrivateArea}
use Rattle.private_memory.specs.PrivateAreaLaws.{UsualLaws, PrivateAccessLaws}
use Rattle.guards.specs.Temporaries.{IsVarBelow, IsOpBelow}
use Rattle.guards.specs.Guarding.{literal, guarded_load, guarded_store, guarded_system, guarded}
use Rattle.guards.specs.States.{DiffersByArea, IsLoweredStorage}
use Rattle.guards.proofs.Addresses.{StandsFor, inside_of, tested_word, tested_stands, literal_stands}
use Rattle.guards.proofs.Sides.{var_same, term_same, fresh_beside, SameArea, Meets, alone}
use Rattle.guards.proofs.Buffers.{AreOutside, StoresOutside, call_same, call_stores}
use Rattle.guards.proofs.GuardedOps.{IsPlain, plain_meets, load_meets, store_meets, put_outside}

-- ---- the storage behind a test
abbrev pub tested_temps : Word → (ℕ → Word) → ℕ → Word
tested_temps w temps = put_word 1399998 (inside_of w) (put_word 1399997 (difference_of w (word_of 0x60000000)) temps)

abbrev pub after_test : Word → Storage → Storage
after_test w v = record v { temps = tested_temps w v.temps }

abbrev pub with_address : Word → Word → Storage → Storage
with_address w z v = record v { temps = put_word 1399999 z (tested_temps w v.temps) }

put_above : (n k : ℕ) (w : Word) (words : ℕ → Word) → k < n → put_word n w words k ≡ words k
put_above n k w words l = cond-false (k == n) w (words k) (ne_eqb k n (λ e. absurd (omega (arith, e))))

tested_below : (w : Word) (temps : ℕ → Word) (k : ℕ) → k < 1399997 → tested_temps w temps k ≡ temps k
tested_below w temps k l = put_above 1399998 k (inside_of w) (put_word 1399997 (difference_of w (word_of 0x60000000)) temps) (omega arith) ∙ put_above 1399997 k (difference_of w (word_of 0x60000000)) temps l

pub after_beside : (w : Word) (u v : Storage) → DiffersByArea u v → DiffersByArea u (after_test w v)
after_beside w u v h = fresh_beside u v (tested_temps w v.temps) h (tested_below w v.temps)

pub address_beside : (w z : Word) (u v : Storage) → DiffersByArea u v → DiffersByArea u (with_address w z v)
address_beside w z u v h = fresh_beside u v (put_word 1399999 z (tested_temps w v.temps)) h (λ k l. put_above 1399999 k z (tested_temps w v.temps) (omega arith) ∙ tested_below w v.temps k l)

-- the address is the same behind it
pub var_after : (x : Var) (w : Word) (v : Storage) → IsVarBelow 1399997 x → var_in x (after_test w v) ≡ var_in x v
var_after (var.Reg n) w v b = refl
var_after (var.Flag n) w v b = refl
var_after (var.Temp n) w v b = tested_below w v.temps n b
var_after (var.Local n) w v b = refl

pub var_formed : (x : Var) (v : Storage) → v.frames ≡ [] → StorageLessSpecified v v → WordLessSpecified (var_in x v) (var_in x v)
var_formed (var.Reg n) v none h = h.regs n
var_formed (var.Flag n) v none h = h.flags n
var_formed (var.Temp n) v none h = h.temps n
var_formed (var.Local n) v none h = subst (λ (fs : List Frame). WordLessSpecified (local_in n fs) (local_in n fs)) (sym none) (record { b0 = tt; b1 = tt; b2 = tt; b3 = tt })

-- ---- the lists
abbrev pub address_of : Var → Storage → Word
address_of x v = picked (known (inside_of (var_in x v))) (word_of 0) (var_in x (after_test (var_in x v) v))

abbrev pub at_address : Var → Storage → Storage
at_address x v = with_address (var_in x v) (address_of x v) v

pub load_runs : (turn : ℕ) (to : Var) (size : ℕ) (x : Var) (v : Storage) → performs turn (guarded_load to size (term.Var x)) v ≡ and_then (perform turn (op.Load to size (term.Var (var.Temp 1399999))) (at_address x v)) (performs turn [])
unfolding performs perform
load_runs turn to size x v = refl

pub store_runs : (turn size : ℕ) (x : Var) (from : Term) (v : Storage) → performs turn (guarded_store size (term.Var x) from) v ≡ and_then (perform turn (op.Store size (term.Var (var.Temp 1399999)) from) (at_address x v)) (performs turn [])
unfolding performs perform
store_runs turn size x from v = refl

abbrev pub at_call : Storage → Storage
at_call v = record v { regs = put_word 1 (tested_word (v.regs 1)) v.regs; temps = tested_temps (v.regs 1) (put_word 1399999 (v.regs 1) v.temps) }

abbrev pub ecx_back : List Op
ecx_back = op.Set (var.Reg 1) (term.Var (var.Temp 1399999)) ∷ []

pub system_runs : (turn : ℕ) (v : Storage) → performs turn guarded_system v ≡ and_then (perform turn op.System (at_call v)) (performs turn ecx_back)
unfolding performs perform
system_runs turn v = refl

pub address_stands : WordLaws → (x : Var) (v : Storage) → v.frames ≡ [] → StorageLessSpecified v v → IsVarBelow 1399997 x → StandsFor (var_in x v) (address_of x v)
address_stands words x v none formed b = subst (StandsFor (var_in x v)) (ap (picked (known (inside_of (var_in x v))) (word_of 0)) (sym (var_after x (var_in x v) v b))) (tested_stands words (var_in x v) (var_formed x v none formed))

-- ---- what they show
quiet : (r : Result Storage End) (f : Storage → List Label) → ((w : Storage) → f w ≡ []) → shown_with r [] f ≡ []
quiet (Ok w) f h = h w
quiet (Err e) f h = refl

shows_none : (turn : ℕ) (r : Result Storage End) → shown_with r [] (shown_by_all turn []) ≡ []
unfolding shown_by_all
shows_none turn r = quiet r (shown_by_all turn []) (λ w. refl)

load_shows : (turn : ℕ) (to : Var) (size : ℕ) (x : Var) (v : Storage) → shown_by_all turn (guarded_load to size (term.Var x)) v ≡ []
unfolding shown_by_all perform
load_shows turn to size x v = shows_none turn (perform turn (op.Load to size (term.Var (var.Temp 1399999))) (at_address x v))

store_shows : (turn size : ℕ) (x : Var) (from : Term) (v : Storage) → shown_by_all turn (guarded_store size (term.Var x) from) v ≡ []
unfolding shown_by_all perform
store_shows turn size x from v = shows_none turn (perform turn (op.Store size (term.Var (var.Temp 1399999)) from) (at_address x v))

system_shows : (turn : ℕ) (v : Storage) → shown_by_all turn guarded_system v ≡ shown_with (perform turn op.System (at_call v)) (labels_of (call_in (at_call v))) (shown_by_all turn ecx_back)
unfolding shown_by_all perform
system_shows turn v = refl

-- ---- the call
put_one : (k : ℕ) (a b x y : Word) (w z : ℕ → Word) (p q : Bool) → (k == 0) ≡ p → (k == 1) ≡ q → w ≡ z → cond p a (w k) ≡ cond q (z 1) (cond p a (cond q b (z k)))
put_one k a b x y w z true true e f h = let first : k ≡ 0 = eqb-true k 0 e in let second : k ≡ 1 = eqb-true k 1 f in absurd (omega arith)
put_one k a b x y w z true false e f h = refl
put_one k a b x y w z false true e f h = let second : k ≡ 1 = eqb-true k 1 f in ap w second ∙ ap (λ (g : ℕ → Word). g 1) h
put_one k a b x y w z false false e f h = ap (λ (g : ℕ → Word). g k) h

called_regs : (a b : Word) (w z : ℕ → Word) → w ≡ z → put_word 0 a w ≡ put_word 1 (z 1) (put_word 0 a (put_word 1 b z))
called_regs a b w z h = λ i k. put_one k a b a b w z (k == 0) (k == 1) refl refl h i

call_below : (w : Word) (temps : ℕ → Word) (k : ℕ) → k < 1399997 → tested_temps w (put_word 1399999 w temps) k ≡ temps k
call_below w temps k l = tested_below w (put_word 1399999 w temps) k l ∙ put_above 1399999 k w temps (omega arith)

module _ (words : WordLaws) (memory : MemoryLaws) (usual : UsualLaws) (area : PrivateAccessLaws) (turn : ℕ) where
  calls_same : (u v : Storage) → DiffersByArea u v → HasPrivateArea v.memory → StandsFor (v.regs 1) (tested_word (v.regs 1)) → call_in u ≡ call_in (at_call v)
  calls_same u v h has stands =
      (λ i. system_call (record { number = h.regs i 0; fd = h.regs i 3; at = h.regs i 1; count = h.regs i 2 }) (h.memory i) (h.left i))
      ∙ call_same memory area v.memory has (v.regs 0) (v.regs 3) (v.regs 1) (tested_word (v.regs 1)) (v.regs 2) v.left stands

  stored_without : (stores : List Stored) (m : Memory) → without_private (store_all stores m) ≡ store_all stores (without_private m)
  stored_without [] m = refl
  stored_without (s ∷ ss) m = stored_without ss (put_all s.at s.bytes m) ∙ ap (store_all ss) (λ i a. usual.store s.at s.bytes m a i)

  stored_area : (stores : List Stored) (m : Memory) → AreOutside stores → SameArea m (store_all stores m)
  stored_area [] m out = record { places = λ a p. refl }
  stored_area (s ∷ ss) m out =
      let first = put_outside words memory usual area turn s.at s.bytes m out.0 in
      let rest = stored_area ss (put_all s.at s.bytes m) out.1 in
      record { places = λ a p. rest.places a p ∙ first.places a p }

  called_meets : (c : Called) (u v : Storage) → DiffersByArea u v → StoresOutside c → Meets v.memory (called c u) (and_then (called c (at_call v)) (performs turn ecx_back))
  unfolding performs perform
  called_meets (Ends e) u v h out = refl
  called_meets (Gives labels result stores left) u v h out = record {
    beside = record {
      regs = called_regs (word_of result) (tested_word (v.regs 1)) u.regs v.regs h.regs;
      flags = h.flags;
      temps = λ k l. h.temps k l ∙ sym (call_below (v.regs 1) v.temps k l);
      memory = ap (store_all stores) h.memory ∙ sym (stored_without stores v.memory);
      left = refl;
      no_frame = h.no_frame;
      no_frame' = h.no_frame';
      esp0 = h.esp0;
    };
    area = stored_area stores v.memory out;
  }

  call_outside : (v : Storage) → HasPrivateArea v.memory → StandsFor (v.regs 1) (tested_word (v.regs 1)) → StoresOutside (call_in (at_call v))
  call_outside v has stands = call_stores memory area v.memory has (v.regs 0) (v.regs 3) (tested_word (v.regs 1)) (v.regs 2) v.left stands.plain

  system_meets : (u v : Storage) → DiffersByArea u v → HasPrivateArea v.memory → StandsFor (v.regs 1) (tested_word (v.regs 1)) → Meets v.memory (perform turn op.System u) (performs turn guarded_system v)
  unfolding perform
  system_meets u v h has stands =
      subst (Meets v.memory (called (call_in u) u)) (sym (system_runs turn v))
      (subst (λ c. Meets v.memory (called c u) (and_then (called (call_in (at_call v)) (at_call v)) (performs turn ecx_back))) (sym (calls_same u v h has stands))
      (called_meets (call_in (at_call v)) u v h (call_outside v has stands)))

  called_shows : (c : Called) (u v : Storage) → shown_with (called c u) (labels_of c) (λ w. []) ≡ shown_with (called c v) (labels_of c) (shown_by_all turn ecx_back)
  unfolding shown_by_all perform
  called_shows (Ends e) u v = refl
  called_shows (Gives labels result stores left) u v = refl

  system_shown : (u v : Storage) → DiffersByArea u v → HasPrivateArea v.memory → StandsFor (v.regs 1) (tested_word (v.regs 1)) → shown_with (perform turn op.System u) (labels_of (call_in u)) (λ w. []) ≡ shown_by_all turn guarded_system v
  unfolding perform
  system_shown u v h has stands =
      ap (λ c. shown_with (called c u) (labels_of c) (λ w. [])) (calls_same u v h has stands)
      ∙ (called_shows (call_in (at_call v)) u (at_call v) ∙ sym (system_shows turn v))

  -- ---- each operation
  stands_at : (x : Var) (u v : Storage) → DiffersByArea u v → IsLoweredStorage v → IsVarBelow 1399997 x → StandsFor (var_in x u) (address_of x v)
  stands_at x u v h kept b = subst (λ w. StandsFor w (address_of x v)) (sym (var_same x u v h b)) (address_stands words x v kept.no_frame kept.formed b)

  stands_ecx : (v : Storage) → IsLoweredStorage v → StandsFor (v.regs 1) (tested_word (v.regs 1))
  stands_ecx v kept = tested_stands words (v.regs 1) (var_formed (var.Reg 1) v kept.no_frame kept.formed)

  load_at : (to : Var) (size : ℕ) (x : Var) (u v : Storage) → IsOp 0 (op.Load to size (term.Var x)) → IsOpBelow 1399997 (op.Load to size (term.Var x)) → DiffersByArea u v → IsLoweredStorage v → Meets v.memory (perform turn (op.Load to size (term.Var x)) u) (performs turn (guarded_load to size (term.Var x)) v)
  unfolding perform
  load_at to size x u v form b h kept =
      subst (Meets v.memory (perform turn (op.Load to size (term.Var x)) u)) (sym (load_runs turn to size x v))
      (alone turn v.memory _ (perform turn (op.Load to size (term.Var (var.Temp 1399999))) (at_address x v)) (load_meets words memory usual area turn to size (var_in x u) (address_of x v) u (at_address x v) form.1 kept.area (address_beside (var_in x v) (address_of x v) u v h) (stands_at x u v h kept b.1)))

  load_literal : (to : Var) (size n : ℕ) (u v : Storage) → IsOp 0 (op.Load to size (term.Word n)) → DiffersByArea u v → IsLoweredStorage v → Meets v.memory (perform turn (op.Load to size (term.Word n)) u) (performs turn (op.Load to size (literal n) ∷ []) v)
  unfolding perform performs
  load_literal to size n u v form h kept = alone turn v.memory _ (perform turn (op.Load to size (literal n)) v) (load_meets words memory usual area turn to size (word_of n) (term_in (literal n) v) u v form.1 kept.area h (literal_stands n v))

  store_at : (size : ℕ) (x : Var) (from : Term) (u v : Storage) → IsOp 0 (op.Store size (term.Var x) from) → IsOpBelow 1399997 (op.Store size (term.Var x) from) → DiffersByArea u v → IsLoweredStorage v → Meets v.memory (perform turn (op.Store size (term.Var x) from) u) (performs turn (guarded_store size (term.Var x) from) v)
  unfolding perform
  store_at size x from u v form b h kept =
      let behind = address_beside (var_in x v) (address_of x v) u v h in
      subst (Meets v.memory (perform turn (op.Store size (term.Var x) from) u)) (sym (store_runs turn size x from v))
      (alone turn v.memory _ (perform turn (op.Store size (term.Var (var.Temp 1399999)) from) (at_address x v)) (store_meets words memory usual area turn size (var_in x u) (address_of x v) (term_in from u) (term_in from (at_address x v)) u (at_address x v) form.0 kept.area behind (stands_at x u v h kept b.0) (term_same from u (at_address x v) behind b.1)))

  store_literal : (size n : ℕ) (from : Term) (u v : Storage) → IsOp 0 (op.Store size (term.Word n) from) → IsOpBelow 1399997 (op.Store size (term.Word n) from) → DiffersByArea u v → IsLoweredStorage v → Meets v.memory (perform turn (op.Store size (term.Word n) from) u) (performs turn (op.Store size (literal n) from ∷ []) v)
  unfolding perform performs
  store_literal size n from u v form b h kept = alone turn v.memory _ (perform turn (op.Store size (literal n) from) v) (store_meets words memory usual area turn size (word_of n) (term_in (literal n) v) (term_in from u) (term_in from v) u v form.0 kept.area h (literal_stands n v) (term_same from u v h b.1))

  one_shows : (o : Op) (v : Storage) → shown_by o v ≡ [] → shown_by_all turn (o ∷ []) v ≡ []
  unfolding shown_by_all
  one_shows o v none = ap (λ ls. shown_with (perform turn o v) ls (shown_by_all turn [])) none ∙ shows_none turn (perform turn o v)

  single : (o : Op) (u v : Storage) → IsPlain o → IsOpBelow 1399997 o → DiffersByArea u v → Meets v.memory (perform turn o u) (performs turn (o ∷ []) v)
  unfolding performs
  single o u v plain b h = alone turn v.memory (perform turn o u) (perform turn o v) (plain_meets turn o u v plain b h)

  pub op_meets : (o : Op) (u v : Storage) → IsOp 0 o → IsFrameless o → IsOpBelow 1399997 o → DiffersByArea u v → IsLoweredStorage v → Meets v.memory (perform turn o u) (performs turn (guarded o) v)
  op_meets (op.Load to size (term.Var x)) u v form frameless b h kept = load_at to size x u v form b h kept
  op_meets (op.Load to size (term.Word n)) u v form frameless b h kept = load_literal to size n u v form h kept
  op_meets (op.Store size (term.Var x) from) u v form frameless b h kept = store_at size x from u v form b h kept
  op_meets (op.Store size (term.Word n) from) u v form frameless b h kept = store_literal size n from u v form b h kept
  op_meets op.System u v form frameless b h kept = system_meets u v h kept.area (stands_ecx v kept)
  op_meets (op.Set to from) u v form frameless b h kept = single (op.Set to from) u v tt b h
  op_meets (op.Calc to c left right) u v form frameless b h kept = single (op.Calc to c left right) u v tt b h
  op_meets (op.Forget to) u v form frameless b h kept = single (op.Forget to) u v tt b h
  op_meets (op.Pick to test x y) u v form frameless b h kept = single (op.Pick to test x y) u v tt b h
  op_meets (op.Need from) u v form frameless b h kept = single (op.Need from) u v tt b h
  op_meets (op.Divide q r high low by size signed) u v form frameless b h kept = single (op.Divide q r high low by size signed) u v tt b h
  op_meets (op.NearLoad to size at) u v form frameless b h kept = absurd frameless
  op_meets (op.NearStore size at from) u v form frameless b h kept = absurd frameless
  op_meets (op.Get to size offset) u v form frameless b h kept = absurd frameless
  op_meets (op.Put size offset from) u v form frameless b h kept = absurd frameless
  op_meets op.NearSystem u v form frameless b h kept = absurd frameless

  shows_one : (o : Op) (u v : Storage) → shown_by o v ≡ [] → shown_with (perform turn o u) [] (λ w. []) ≡ shown_by_all turn (o ∷ []) v
  shows_one o u v none = quiet (perform turn o u) (λ w. []) (λ w. refl) ∙ sym (one_shows o v none)

  pub op_shown : (o : Op) (u v : Storage) → IsFrameless o → DiffersByArea u v → IsLoweredStorage v → shown_with (perform turn o u) (shown_by o u) (λ w. []) ≡ shown_by_all turn (guarded o) v
  op_shown (op.Load to size (term.Var x)) u v frameless h kept = quiet (perform turn (op.Load to size (term.Var x)) u) (λ w. []) (λ w. refl) ∙ sym (load_shows turn to size x v)
  op_shown (op.Load to size (term.Word n)) u v frameless h kept = quiet (perform turn (op.Load to size (term.Word n)) u) (λ w. []) (λ w. refl) ∙ sym (one_shows (op.Load to size (literal n)) v refl)
  op_shown (op.Store size (term.Var x) from) u v frameless h kept = quiet (perform turn (op.Store size (term.Var x) from) u) (λ w. []) (λ w. refl) ∙ sym (store_shows turn size x from v)
  op_shown (op.Store size (term.Word n) from) u v frameless h kept = quiet (perform turn (op.Store size (term.Word n) from) u) (λ w. []) (λ w. refl) ∙ sym (one_shows (op.Store size (literal n) from) v refl)
  op_shown op.System u v frameless h kept = system_shown u v h kept.area (stands_ecx v kept)
  op_shown (op.Set to from) u v frameless h kept = shows_one (op.Set to from) u v refl
  op_shown (op.Calc to c left right) u v frameless h kept = shows_one (op.Calc to c left right) u v refl
  op_shown (op.Forget to) u v frameless h kept = shows_one (op.Forget to) u v refl
  op_shown (op.Pick to test x y) u v frameless h kept = shows_one (op.Pick to test x y) u v refl
  op_shown (op.Need from) u v frameless h kept = shows_one (op.Need from) u v refl
  op_shown (op.Divide q r high low by size signed) u v frameless h kept = shows_one (op.Divide q r high low by size signed) u v refl
  op_shown (op.NearLoad to size at) u v frameless h kept = absurd frameless
  op_shown (op.NearStore size at from) u v frameless h kept = absurd frameless
  op_shown (op.Get to size offset) u v frameless h kept = absurd frameless
  op_shown (op.Put size offset from) u v frameless h kept = absurd frameless
  op_shown op.NearSystem u v frameless h kept = absurd frameless
