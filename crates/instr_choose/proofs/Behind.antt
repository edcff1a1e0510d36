-- Lists of operations are met by their lists of instructions.
use Rattle.std.proofs.Common.{ℕ, List, [], ◌∷◌, ◌++◌, All, map, Result, Ok, Err, refl, sym, ap, ◌∙◌, subst, append_assoc}
use Rattle.std.proofs.lemmas.List.{map-append}
use Rattle.std.proofs.lemmas.List.Elements.{All-head, All-tail}
use Rattle.traces.specs.Trace.{Label, End}
use Rattle.flag_ir.specs.declared.operation.Op.{Op}
use Rattle.flag_ir.specs.Storage.{Storage}
use Rattle.flag_ir.specs.Operations.{and_then, perform, performs, shown_by, shown_with, shown_by_all}
use Rattle.flag_ir.specs.Form.{IsOp, IsFrameless}
use Rattle.named_code.specs.Items.{Item, named_item}
use Rattle.named_code.specs.Running.{CodeState}
use Rattle.instr_choose.specs.Lists.{choose_op, choose_ops}
use Rattle.instr_choose.specs.Relation.{IsBelow, PassesList, done, more, ListEnds, here, later, IsMetByList, AreMetBy}

-- ---- one list behind another
pub passes_both : (xs ys : List Item) (s t u : CodeState) (ls ks : List Label) → PassesList xs s ls t → PassesList ys t ks u → PassesList (xs ++ ys) s (ls ++ ks) u
passes_both _ ys _ t u _ ks (done s) q = q
passes_both _ ys _ t u _ ks (more x xs s ls m js v h p) q = subst (λ (l : List Label). PassesList (x ∷ (xs ++ ys)) s l u) (sym (append_assoc ls js ks)) (more x (xs ++ ys) s ls m (js ++ ks) u h (passes_both xs ys m t u js ks p q))

pub fails_first : (xs ys : List Item) (s : CodeState) (e : End) → ListEnds xs s e → ListEnds (xs ++ ys) s e
fails_first _ ys s e (here x xs _ _ h) = here x (xs ++ ys) s e h
fails_first _ ys s e (later x xs _ t _ h f) = later x (xs ++ ys) s t e h (fails_first xs ys t e f)

module _ (meets : (turn : ℕ) (o : Op) (u : Storage) (s : CodeState) → IsOp 0 o → IsFrameless o → IsBelow u s → IsMetByList (perform turn o u) (shown_by o u) (map named_item (choose_op o)) s) (turn : ℕ) where
  abbrev Met : List Op → Storage → CodeState → Type 0
  Met ops u s = AreMetBy (performs turn ops u) (shown_by_all turn ops u) (map named_item (choose_ops ops)) s

  behind : (r : Result Storage End) (xs ys : List Item) (s t : CodeState) (ls ks : List Label) → PassesList xs s ls t → AreMetBy r ks ys t → AreMetBy r (ls ++ ks) (xs ++ ys) s
  behind (Ok v) xs ys s t ls ks p h = record { state = h.state; passes = passes_both xs ys s t h.state ls ks p h.passes; below = h.below }
  behind (Err e) xs ys s t ls ks p h = record {
    front = xs ++ h.front;
    rest = h.rest;
    is = ap (λ (zs : List Item). xs ++ zs) h.is ∙ sym (append_assoc xs h.front h.rest);
    state = h.state;
    passes = passes_both xs h.front s t h.state ls ks p h.passes;
    fails = h.fails;
  }

  one_more : (o : Op) (os : List Op) (s : CodeState) (r : Result Storage End) (ls : List Label) → IsMetByList r ls (map named_item (choose_op o)) s → ((v : Storage) (t : CodeState) → IsBelow v t → Met os v t)
      → AreMetBy (and_then r (performs turn os)) (shown_with r ls (shown_by_all turn os)) (map named_item (choose_op o) ++ map named_item (choose_ops os)) s
  one_more o os s (Ok v) ls h k = behind (performs turn os v) (map named_item (choose_op o)) (map named_item (choose_ops os)) s h.state ls (shown_by_all turn os v) h.passes (k v h.state h.below)
  one_more o os s (Err e) ls h k = record {
    front = [];
    rest = map named_item (choose_op o) ++ map named_item (choose_ops os);
    is = refl;
    state = s;
    passes = done s;
    fails = λ defined. fails_first (map named_item (choose_op o)) (map named_item (choose_ops os)) s e (h defined);
  }

  pub lists_meet : (ops : List Op) (u : Storage) (s : CodeState) → All (IsOp 0) ops → All IsFrameless ops → IsBelow u s → Met ops u s
  unfolding performs shown_by_all choose_ops
  lists_meet [] u s i f h = record { state = s; passes = done s; below = h }
  lists_meet (o ∷ os) u s i f h =
      subst (λ (xs : List Item). AreMetBy (and_then (perform turn o u) (performs turn os)) (shown_with (perform turn o u) (shown_by o u) (shown_by_all turn os)) xs s) (sym (map-append named_item (choose_op o) (choose_ops os)))
      (one_more o os s (perform turn o u) (shown_by o u) (meets turn o u s (All-head (IsOp 0) o os i) (All-head IsFrameless o os f) h) (λ v t k. lists_meet os v t (All-tail (IsOp 0) o os i) (All-tail IsFrameless o os f) k))
