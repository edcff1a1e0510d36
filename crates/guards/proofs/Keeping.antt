-- What each operation keeps: that no frame is open, that the private area can be read and written, and that known bytes are below 256.
use Rattle.std.proofs.Common.{◌≡◌, ℕ, suc, List, [], ◌∷◌, All, Result, Ok, Err, refl, ap, subst, arith, cond, Bool, true, false, take}
use Rattle.x86_values.specs.declared.word.Word.{Word}
use Rattle.x86_values.specs.declared.divided.Divided.{Divided}
use Rattle.x86_values.specs.declared.divided.Divided.TheVariants as divided
use Rattle.x86_values.specs.Divisions.{divide}
use Rattle.x86_values.specs.Words.{known, word_list}
use Rattle.traces.specs.Trace.{End, MemoryFault}
use Rattle.memory.specs.Memory.{Memory, Stored, allows_all, put_all, store_all, Store}
use Rattle.memory.specs.SystemCall.{Called, Ends, Gives}
use Rattle.flag_ir.specs.declared.variable.Var.{Var}
use Rattle.flag_ir.specs.declared.variable.Var.TheVariants as var
use Rattle.flag_ir.specs.declared.operation.Op.{Op}
use Rattle.flag_ir.specs.declared.operation.Op.TheVariants as op
use Rattle.flag_ir.specs.Storage.{Storage, put_var, with_local, term_in}
use Rattle.flag_ir.specs.Operations.{and_then, needed, load, store, with_memory, called, call_in, divided_into, perform, performs}
use Rattle.flag_ir.specs.UnitRun.{fresh}
use Rattle.flag_ir.specs.UnitLaws.{UnitLaws}
use Rattle.flag_ir.specs.LessSpecified.{ResultLessSpecified}
use Rattle.flag_ir.specs.Form.{IsFrameless}
use Rattle.private_memory.specs.PrivateArea.{HasPrivateArea}
use Rattle.private_memory.specs.PrivateAreaLaws.{PrivateAccessLaws}
use Rattle.guards.specs.States.{IsLoweredStorage}

-- ---- lists
pub all_first : {X : Type 0} (P : X → Type 0) (x : X) (xs : List X) → All P (x ∷ xs) → P x
all_first P x xs h = h 0 x (omega arith)

pub all_rest : {X : Type 0} (P : X → Type 0) (x : X) (xs : List X) → All P (x ∷ xs) → All P xs
all_rest P x xs h = λ k d l. h (suc k) d (omega arith)

-- ---- frames and the area
record Stays (v : Storage) : Type 0 where
  pub no_frame : v.frames ≡ []
  pub area : HasPrivateArea v.memory

abbrev StaysResult : Result Storage End → Type 0
StaysResult (Ok w) = Stays w
StaysResult (Err e) = Unit {0}

stays_then : {A : Type 0} (r : Result A End) (f : A → Result Storage End) → ((a : A) → StaysResult (f a)) → StaysResult (and_then r f)
stays_then (Ok a) f h = h a
stays_then (Err e) f h = tt

put_stays : (x : Var) (w : Word) (v : Storage) → Stays v → Stays (put_var x w v)
put_stays (var.Reg n) w v h = record { no_frame = h.no_frame; area = h.area }
put_stays (var.Flag n) w v h = record { no_frame = h.no_frame; area = h.area }
put_stays (var.Temp n) w v h = record { no_frame = h.no_frame; area = h.area }
put_stays (var.Local n) w v h = record { no_frame = ap (with_local n w) h.no_frame; area = h.area }

divided_stays : (d : Divided) (q r : Var) (v : Storage) → Stays v → StaysResult (divided_into d q r v)
divided_stays (divided.Got a b) q r v h = put_stays r b (put_var q a v) (put_stays q a v h)
divided_stays divided.Fault q r v h = tt
divided_stays divided.Unspecified q r v h = tt

module _ (area : PrivateAccessLaws) where
  stores_stay : (stores : List Stored) (m : Memory) → HasPrivateArea m → HasPrivateArea (store_all stores m)
  stores_stay [] m h = h
  stores_stay (s ∷ ss) m h = stores_stay ss (put_all s.at s.bytes m) (area.store_has s.at s.bytes m h)

  stored_stays : (size a : ℕ) (w : Word) (v : Storage) → Stays v → StaysResult (and_then (store size w v.memory a) (λ m. Ok (with_memory v m)))
  stored_stays size a w v h = by (allows_all Store v.memory a size)
    where
      by : (b : Bool) → StaysResult (and_then (cond b (Ok (put_all a (take size (word_list w)) v.memory)) (Err MemoryFault)) (λ m. Ok (with_memory v m)))
      by true = record { no_frame = h.no_frame; area = area.store_has a (take size (word_list w)) v.memory h.area }
      by false = tt

  called_stays : (c : Called) (v : Storage) → Stays v → StaysResult (called c v)
  called_stays (Ends e) v h = tt
  called_stays (Gives labels result stores left) v h = record { no_frame = h.no_frame; area = stores_stay stores v.memory h.area }

  op_stays : (turn : ℕ) (o : Op) (v : Storage) → IsFrameless o → Stays v → StaysResult (perform turn o v)
  unfolding perform
  op_stays turn (op.Set to from) v f h = put_stays to (term_in from v) v h
  op_stays turn (op.Calc to c left right) v f h = put_stays to _ v h
  op_stays turn (op.Forget to) v f h = put_stays to _ v h
  op_stays turn (op.Pick to test x y) v f h = put_stays to _ v h
  op_stays turn (op.Need from) v f h = stays_then (needed (known (term_in from v))) (λ n. Ok v) (λ n. h)
  op_stays turn (op.Divide q r high low by size signed) v f h = divided_stays (divide signed size (term_in high v) (term_in low v) (term_in by v)) q r v h
  op_stays turn (op.Load to size at) v f h = stays_then (needed (known (term_in at v))) _ (λ a. stays_then (load size v.memory a) (λ w. Ok (put_var to w v)) (λ w. put_stays to w v h))
  op_stays turn (op.Store size at from) v f h = stays_then (needed (known (term_in at v))) _ (λ a. stored_stays size a (term_in from v) v h)
  op_stays turn op.System v f h = called_stays (call_in v) v h
  op_stays turn (op.NearLoad to size at) v f h = absurd f
  op_stays turn (op.NearStore size at from) v f h = absurd f
  op_stays turn (op.Get to size offset) v f h = absurd f
  op_stays turn (op.Put size offset from) v f h = absurd f
  op_stays turn op.NearSystem v f h = absurd f

  -- ---- all of it
  module _ (units : UnitLaws) where
    kept_by : (r : Result Storage End) (w : Storage) → r ≡ Ok w → StaysResult r → ResultLessSpecified r r → IsLoweredStorage w
    kept_by (Ok v) w e stays formed = let same : v ≡ w = cc in subst IsLoweredStorage same (record { no_frame = stays.no_frame; area = stays.area; formed = formed })
    kept_by (Err f) w e stays formed = absurd cc

    pub op_keeps : (turn : ℕ) (o : Op) (v w : Storage) → IsFrameless o → IsLoweredStorage v → perform turn o v ≡ Ok w → IsLoweredStorage w
    op_keeps turn o v w f h e = kept_by (perform turn o v) w e (op_stays turn o v f (record { no_frame = h.no_frame; area = h.area })) (units.monotone.perform_less turn o v v h.formed)

    pub ops_keep : (turn : ℕ) (ops : List Op) (v w : Storage) → All IsFrameless ops → IsLoweredStorage v → performs turn ops v ≡ Ok w → IsLoweredStorage w
    unfolding performs
    ops_keep turn [] v w f h e = let same : v ≡ w = cc in subst IsLoweredStorage same h
    ops_keep turn (o ∷ os) v w f h e = behind (perform turn o v) refl e (λ x g k. ops_keep turn os x w (all_rest IsFrameless o os f) (op_keeps turn o v x (all_first IsFrameless o os f) h g) k)
      where
        behind : (r : Result Storage End) → perform turn o v ≡ r → and_then r (performs turn os) ≡ Ok w → ((x : Storage) → perform turn o v ≡ Ok x → performs turn os x ≡ Ok w → IsLoweredStorage w) → IsLoweredStorage w
        behind (Ok x) g k next = next x g k
        behind (Err f) g k next = absurd cc

-- a block begins with unspecified temporaries
pub fresh_kept : (v : Storage) → IsLoweredStorage v → IsLoweredStorage (fresh v)
fresh_kept v h = record { no_frame = h.no_frame; area = h.area; formed = record { regs = h.formed.regs; flags = h.formed.flags; temps = λ k. record { b0 = tt; b1 = tt; b2 = tt; b3 = tt }; memory = h.formed.memory; left = h.formed.left; environment = h.formed.environment; frames = h.formed.frames; esp0 = h.formed.esp0 } }
