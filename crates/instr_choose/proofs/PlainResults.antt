-- What each operation keeps: that nothing is mapped at address 0, and that its own end is no stop and no guard event.
use Rattle.std.proofs.Common.{◌≡◌, ℕ, Bool, true, false, cond, List, [], ◌∷◌, take, All, Option, Some, None, Result, Ok, Err, refl, ◌∙◌}
use Rattle.std.proofs.lemmas.List.Elements.{All-head, All-tail}
use Rattle.x86_values.specs.declared.byte.Byte.{Byte}
use Rattle.x86_values.specs.declared.word.Word.{Word}
use Rattle.x86_values.specs.declared.divided.Divided.{Divided}
use Rattle.x86_values.specs.declared.divided.Divided.TheVariants as divided
use Rattle.x86_values.specs.Divisions.{divide}
use Rattle.x86_values.specs.Words.{known, word_list}
use Rattle.traces.specs.Trace.{End, Exited, MemoryFault, DivideFault, Outside, OtherCall, Unspecified, Guard, Stopped}
use Rattle.traces.specs.Agree.{outside}
use Rattle.memory.specs.Memory.{Memory, Stored, allows_all, put_all, store_all, Load, Store}
use Rattle.memory.specs.MemoryLaws.{MemoryLaws}
use Rattle.memory.specs.SystemCall.{Called, Ends, Gives}
use Rattle.memory.specs.CallLaws.{CallLaws, is_own_end, IsPlainCall}
use Rattle.flag_ir.specs.declared.variable.Var.{Var}
use Rattle.flag_ir.specs.declared.variable.Var.TheVariants as var
use Rattle.flag_ir.specs.declared.operation.Op.{Op}
use Rattle.flag_ir.specs.declared.operation.Op.TheVariants as op
use Rattle.flag_ir.specs.Storage.{Storage, put_var, term_in}
use Rattle.flag_ir.specs.Operations.{and_then, needed, with_memory, request_in, called, call_in, divided_into, perform, performs}
use Rattle.flag_ir.specs.Form.{IsFrameless}
use Rattle.instr_choose.specs.States.{HasNoZero}

abbrev pub IsPlainResult : Result Storage End → Type 0
IsPlainResult (Ok v) = HasNoZero v.memory
IsPlainResult (Err e) = outside e ≡ e

own_outside : (e : End) → is_own_end e ≡ true → outside e ≡ e
own_outside (Exited n) h = refl
own_outside MemoryFault h = refl
own_outside DivideFault h = refl
own_outside Outside h = refl
own_outside (OtherCall n) h = refl
own_outside Unspecified h = refl
own_outside (Guard k a) h = absurd cc
own_outside (Stopped a) h = absurd cc

plain_needed : {A : Type 0} (o : Option A) (f : A → Result Storage End) → ((a : A) → IsPlainResult (f a)) → IsPlainResult (and_then (needed o) f)
plain_needed None f h = refl
plain_needed (Some a) f h = h a

plain_put : (x : Var) (w : Word) (v : Storage) → HasNoZero v.memory → HasNoZero (put_var x w v).memory
plain_put (var.Reg n) w v h = h
plain_put (var.Flag n) w v h = h
plain_put (var.Temp n) w v h = h
plain_put (var.Local n) w v h = h

plain_divided : (d : Divided) (q r : Var) (v : Storage) → HasNoZero v.memory → IsPlainResult (divided_into d q r v)
plain_divided (divided.Got a b) q r v h = plain_put r b (put_var q a v) (plain_put q a v h)
plain_divided divided.Fault q r v h = refl
plain_divided divided.Unspecified q r v h = refl

plain_load : (b : Bool) (w : Word) (to : Var) (v : Storage) → HasNoZero v.memory → IsPlainResult (and_then (cond b (Ok w) (Err MemoryFault)) (λ x. Ok (put_var to x v)))
plain_load true w to v h = plain_put to w v h
plain_load false w to v h = refl

module _ (memory : MemoryLaws) (calls : CallLaws) where
  plain_store : (b : Bool) (a : ℕ) (bs : List Byte) (v : Storage) → HasNoZero v.memory → IsPlainResult (and_then (cond b (Ok (put_all a bs v.memory)) (Err MemoryFault)) (λ m. Ok (with_memory v m)))
  plain_store true a bs v h = memory.put_all_keeps_kinds a bs v.memory 0 ∙ h
  plain_store false a bs v h = refl

  plain_stores : (stores : List Stored) (m : Memory) → HasNoZero m → HasNoZero (store_all stores m)
  plain_stores [] m h = h
  plain_stores (s ∷ ss) m h = plain_stores ss (put_all s.at s.bytes m) (memory.put_all_keeps_kinds s.at s.bytes m 0 ∙ h)

  plain_called : (c : Called) (v : Storage) → IsPlainCall c → HasNoZero v.memory → IsPlainResult (called c v)
  plain_called (Ends e) v plain h = own_outside e plain
  plain_called (Gives labels result stores left) v plain h = plain_stores stores v.memory h

  pub plain_result : (turn : ℕ) (o : Op) (v : Storage) → IsFrameless o → HasNoZero v.memory → IsPlainResult (perform turn o v)
  unfolding perform
  plain_result turn (op.Set to from) v f h = plain_put to (term_in from v) v h
  plain_result turn (op.Calc to c left right) v f h = plain_put to _ v h
  plain_result turn (op.Forget to) v f h = plain_put to _ v h
  plain_result turn (op.Pick to test x y) v f h = plain_put to _ v h
  plain_result turn (op.Need from) v f h = plain_needed (known (term_in from v)) (λ n. Ok v) (λ n. h)
  plain_result turn (op.Divide q r high low by size signed) v f h = plain_divided (divide signed size (term_in high v) (term_in low v) (term_in by v)) q r v h
  plain_result turn (op.Load to size at) v f h = plain_needed (known (term_in at v)) _ (λ a. plain_load (allows_all Load v.memory a size) _ to v h)
  plain_result turn (op.Store size at from) v f h = plain_needed (known (term_in at v)) _ (λ a. plain_store (allows_all Store v.memory a size) a (take size (word_list (term_in from v))) v h)
  plain_result turn op.System v f h = plain_called (call_in v) v (calls.are_plain (request_in v) v.memory v.left) h
  plain_result turn (op.NearLoad to size at) v f h = absurd f
  plain_result turn (op.NearStore size at from) v f h = absurd f
  plain_result turn (op.Get to size offset) v f h = absurd f
  plain_result turn (op.Put size offset from) v f h = absurd f
  plain_result turn op.NearSystem v f h = absurd f

  plain_then : (r : Result Storage End) (f : Storage → Result Storage End) → IsPlainResult r → ((v : Storage) → HasNoZero v.memory → IsPlainResult (f v)) → IsPlainResult (and_then r f)
  plain_then (Ok v) f h k = k v h
  plain_then (Err e) f h k = h

  pub plain_results : (turn : ℕ) (ops : List Op) (v : Storage) → All IsFrameless ops → HasNoZero v.memory → IsPlainResult (performs turn ops v)
  unfolding performs
  plain_results turn [] v f h = h
  plain_results turn (o ∷ os) v f h = plain_then (perform turn o v) (performs turn os) (plain_result turn o v (All-head IsFrameless o os f) h) (λ w k. plain_results turn os w (All-tail IsFrameless o os f) k)
