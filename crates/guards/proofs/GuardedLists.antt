-- The operations of a block beside the list that they become.
use Rattle.std.proofs.Common.{◌≡◌, ℕ, List, [], ◌∷◌, ◌++◌, All, Result, Ok, Err, refl, sym, ap, ◌∙◌, subst₂, arith}
use Rattle.std.proofs.lemmas.List.{append-nil}
use Rattle.std.proofs.lemmas.List.Elements.{All-from_recursion, All-append}
use Rattle.x86_values.specs.WordLaws.{WordLaws}
use Rattle.traces.specs.Trace.{End}
use Rattle.memory.specs.Memory.{Memory}
use Rattle.memory.specs.MemoryLaws.{MemoryLaws}
use Rattle.flag_ir.specs.declared.variable.Term.TheVariants as term
use Rattle.flag_ir.specs.declared.operation.Op.{Op}
use Rattle.flag_ir.specs.declared.operation.Op.TheVariants as op
use Rattle.flag_ir.specs.Storage.{Storage}
use Rattle.flag_ir.specs.Operations.{and_then, perform, performs, shown_by, shown_with, shown_by_all}
use Rattle.flag_ir.specs.UnitLaws.{UnitLaws}
use Rattle.flag_ir.specs.Form.{IsOp, IsFrameless}
use Rattle.private_memory.specs.PrivateAreaLaws.{UsualLaws, PrivateAccessLaws}
use Rattle.guards.specs.Temporaries.{IsOpBelow}
use Rattle.guards.specs.Guarding.{literal, guarded_load, guarded_store, guarded_system, guarded, guarded_ops}
use Rattle.guards.specs.States.{DiffersByArea, IsLoweredStorage}
use Rattle.guards.proofs.Sides.{SameArea, BothGo, Meets}
use Rattle.guards.proofs.GuardedRuns.{op_meets, op_shown}
use Rattle.guards.proofs.Keeping.{all_first, all_rest, ops_keep}

-- ---- no list needs a frame
one_frameless : (o : Op) → IsFrameless o → All IsFrameless (o ∷ [])
one_frameless o f = All-from_recursion IsFrameless (o ∷ []) (f, tt)

pub guarded_frameless : (o : Op) → IsFrameless o → All IsFrameless (guarded o)
guarded_frameless (op.Load to size (term.Var x)) f = All-from_recursion IsFrameless (guarded_load to size (term.Var x)) (tt, (tt, (tt, (tt, tt))))
guarded_frameless (op.Load to size (term.Word n)) f = one_frameless (op.Load to size (literal n)) tt
guarded_frameless (op.Store size (term.Var x) from) f = All-from_recursion IsFrameless (guarded_store size (term.Var x) from) (tt, (tt, (tt, (tt, tt))))
guarded_frameless (op.Store size (term.Word n) from) f = one_frameless (op.Store size (literal n) from) tt
guarded_frameless op.System f = All-from_recursion IsFrameless guarded_system (tt, (tt, (tt, (tt, (tt, (tt, tt))))))
guarded_frameless (op.Set to from) f = one_frameless (op.Set to from) f
guarded_frameless (op.Calc to c left right) f = one_frameless (op.Calc to c left right) f
guarded_frameless (op.Forget to) f = one_frameless (op.Forget to) f
guarded_frameless (op.Pick to test x y) f = one_frameless (op.Pick to test x y) f
guarded_frameless (op.Need from) f = one_frameless (op.Need from) f
guarded_frameless (op.Divide q r high low by size signed) f = one_frameless (op.Divide q r high low by size signed) f
guarded_frameless (op.NearLoad to size at) f = absurd f
guarded_frameless (op.NearStore size at from) f = absurd f
guarded_frameless (op.Get to size offset) f = absurd f
guarded_frameless (op.Put size offset from) f = absurd f
guarded_frameless op.NearSystem f = absurd f

-- ---- what is asked of the operations of a block
pub record AreOps (ops : List Op) : Type 0 where
  pub form : All (IsOp 0) ops
  pub frameless : All IsFrameless ops
  pub below : All (IsOpBelow 1399997) ops

pub rest_ops : (o : Op) (os : List Op) → AreOps (o ∷ os) → AreOps os
rest_ops o os h = record { form = all_rest (IsOp 0) o os h.form; frameless = all_rest IsFrameless o os h.frameless; below = all_rest (IsOpBelow 1399997) o os h.below }

module _ (words : WordLaws) (memory : MemoryLaws) (usual : UsualLaws) (area : PrivateAccessLaws) (units : UnitLaws) (turn : ℕ) where
  -- both come to the same, and show the same
  pub record RunsAlike (u v : Storage) (ops : List Op) : Type 0 where
    pub meets : Meets v.memory (performs turn ops u) (performs turn (guarded_ops ops) v)
    pub shows : shown_by_all turn ops u ≡ shown_by_all turn (guarded_ops ops) v

  area_then : (m n : Memory) (r s : Result Storage End) → SameArea m n → Meets n r s → Meets m r s
  area_then m n (Ok u) (Ok v) a h = record { beside = h.beside; area = record { places = λ x p. h.area.places x p ∙ a.places x p } }
  area_then m n (Ok u) (Err e) a h = h
  area_then m n (Err e) (Ok v) a h = h
  area_then m n (Err e) (Err f) a h = h

  pub runs_alike : (ops : List Op) (u v : Storage) → AreOps ops → DiffersByArea u v → IsLoweredStorage v → RunsAlike u v ops
  unfolding performs shown_by_all
  runs_alike [] u v asked h kept = record { meets = record { beside = h; area = record { places = λ a p. refl } }; shows = refl }
  runs_alike (o ∷ os) u v asked h kept =
      behind (perform turn o u) (performs turn (guarded o) v) refl refl (op_meets words memory usual area turn o u v (all_first (IsOp 0) o os asked.form) frameless (all_first (IsOpBelow 1399997) o os asked.below) h kept)
      (λ x y go e. runs_alike os x y (rest_ops o os asked) go.beside (ops_keep area units turn (guarded o) v y (guarded_frameless o frameless) kept e))
    where
      frameless : IsFrameless o
      frameless = all_first IsFrameless o os asked.frameless

      shown : shown_with (perform turn o u) (shown_by o u) (λ w. []) ≡ shown_by_all turn (guarded o) v
      shown = op_shown words memory usual area turn o u v frameless h kept

      -- the list is the first one's and the rest
      split : performs turn (guarded o ++ guarded_ops os) v ≡ and_then (performs turn (guarded o) v) (performs turn (guarded_ops os))
      split = units.lists.performs_append turn (guarded o) (guarded_ops os) v

      split_shown : shown_by_all turn (guarded o ++ guarded_ops os) v ≡ shown_by_all turn (guarded o) v ++ shown_with (performs turn (guarded o) v) [] (shown_by_all turn (guarded_ops os))
      split_shown = units.lists.shown_append turn (guarded o) (guarded_ops os) v

      behind : (r s : Result Storage End) → perform turn o u ≡ r → performs turn (guarded o) v ≡ s → Meets v.memory r s → ((x y : Storage) → BothGo v.memory x y → performs turn (guarded o) v ≡ Ok y → RunsAlike x y os) → RunsAlike u v (o ∷ os)
      behind (Ok x) (Ok y) e f go next =
          let more = next x y go f in
          record {
            meets = subst₂ (Meets v.memory) (sym (ap (λ r. and_then r (performs turn os)) e)) (sym (split ∙ ap (λ r. and_then r (performs turn (guarded_ops os))) f)) (area_then v.memory y.memory (performs turn os x) (performs turn (guarded_ops os) y) go.area more.meets);
            shows =
                ap (λ r. shown_with r (shown_by o u) (shown_by_all turn os)) e
                ∙ (ap (λ ls. shown_by o u ++ ls) more.shows
                ∙ sym (split_shown
                ∙ (ap (λ ls. ls ++ shown_with (performs turn (guarded o) v) [] (shown_by_all turn (guarded_ops os))) (sym shown ∙ (ap (λ r. shown_with r (shown_by o u) (λ w. [])) e ∙ append-nil (shown_by o u)))
                ∙ ap (λ r. shown_by o u ++ shown_with r [] (shown_by_all turn (guarded_ops os))) f)));
          }
      behind (Ok x) (Err g) e f go next = absurd go
      behind (Err g) (Ok y) e f go next = absurd go
      behind (Err g) (Err k) e f go next = record {
        meets = subst₂ (Meets v.memory) (sym (ap (λ r. and_then r (performs turn os)) e)) (sym (split ∙ ap (λ r. and_then r (performs turn (guarded_ops os))) f)) go;
        shows =
            ap (λ r. shown_with r (shown_by o u) (shown_by_all turn os)) e
            ∙ sym (split_shown
            ∙ (ap (λ ls. ls ++ shown_with (performs turn (guarded o) v) [] (shown_by_all turn (guarded_ops os))) (sym shown ∙ ap (λ r. shown_with r (shown_by o u) (λ w. [])) e)
            ∙ ap (λ r. shown_with r [] (shown_by_all turn (guarded_ops os))) f));
      }

-- nor does the whole
pub lists_frameless : (ops : List Op) → All IsFrameless ops → All IsFrameless (guarded_ops ops)
lists_frameless [] h = λ k d l. absurd (omega arith)
lists_frameless (o ∷ os) h = All-append IsFrameless (guarded o) (guarded_ops os) (guarded_frameless o (all_first IsFrameless o os h)) (lists_frameless os (all_rest IsFrameless o os h))
