-- Lists of operations: their parts, and the machine's way through them.
use Rattle.std.proofs.Common.{◌≡◌, ℕ, suc, ◌<◌, ◌≤◌, ◌⊎◌, List, [], ◌∷◌, ◌++◌, length, Result, Ok, Err, refl, sym, ap, ◌∙◌, subst, inl, inr, append_assoc, arith}
use Rattle.traces.specs.Trace.{Label, End, Stand, Go, Halt}
use Rattle.traces.specs.Steps.{Reaches, rests, goes, EndsFrom}
use Rattle.flag_ir.specs.declared.operation.Op.{Op}
use Rattle.flag_ir.specs.declared.block.Exit.{Exit}
use Rattle.flag_ir.specs.Storage.{Storage}
use Rattle.flag_ir.specs.Operations.{and_then, perform, performs, shown_by, shown_with, shown_by_all}
use Rattle.flag_ir.specs.Entering.{CodeUnit}
use Rattle.flag_ir.specs.UnitRun.{Within, UnitState, state_at, performed, next}

-- ---- a list is its parts
pub performs_append : (turn : ℕ) (xs ys : List Op) (u : Storage) → performs turn (xs ++ ys) u ≡ and_then (performs turn xs u) (performs turn ys)
unfolding performs
performs_append turn [] ys u = refl
performs_append turn (x ∷ xs) ys u = go (perform turn x u) (performs_append turn xs ys)
  where
    go : (r : Result Storage End) → ((v : Storage) → performs turn (xs ++ ys) v ≡ and_then (performs turn xs v) (performs turn ys)) → and_then r (performs turn (xs ++ ys)) ≡ and_then (and_then r (performs turn xs)) (performs turn ys)
    go (Ok v) more = more v
    go (Err e) more = refl

pub shown_append : (turn : ℕ) (xs ys : List Op) (u : Storage) → shown_by_all turn (xs ++ ys) u ≡ shown_by_all turn xs u ++ shown_with (performs turn xs u) [] (shown_by_all turn ys)
unfolding performs shown_by_all
shown_append turn [] ys u = refl
shown_append turn (x ∷ xs) ys u = go (perform turn x u) (shown_append turn xs ys)
  where
    go : (r : Result Storage End) → ((v : Storage) → shown_by_all turn (xs ++ ys) v ≡ shown_by_all turn xs v ++ shown_with (performs turn xs v) [] (shown_by_all turn ys)) → shown_with r (shown_by x u) (shown_by_all turn (xs ++ ys)) ≡ shown_with r (shown_by x u) (shown_by_all turn xs) ++ shown_with (and_then r (performs turn xs)) [] (shown_by_all turn ys)
    go (Ok v) more = ap (λ ls. shown_by x u ++ ls) (more v) ∙ sym (append_assoc (shown_by x u) _ _)
    go (Err e) more = refl

-- ---- the machine goes through it
step_on : (unit : CodeUnit) (turn : ℕ) (o : Op) (ops : List Op) (e : Exit) (u v : Storage) → perform turn o u ≡ Ok v → next unit (state_at turn (Within (o ∷ ops) e) u) ≡ Go (shown_by o u) (state_at turn (Within ops e) v)
unfolding next
step_on unit turn o ops e u v h = ap (λ r. performed turn (shown_by o u) r ops e) h

step_ends : (unit : CodeUnit) (turn : ℕ) (o : Op) (ops : List Op) (e : Exit) (u : Storage) (end : End) → perform turn o u ≡ Err end → next unit (state_at turn (Within (o ∷ ops) e) u) ≡ Halt [] end
unfolding next
step_ends unit turn o ops e u end h = ap (λ r. performed turn (shown_by o u) r ops e) h

same_storage : (u v : Storage) (r : Result Storage End) → r ≡ Ok u → r ≡ Ok v → u ≡ v
same_storage u v r h k = cc

same_end : (e end : End) (r : Result Storage End) → r ≡ Err e → r ≡ Err end → e ≡ end
same_end e end r h k = cc

pub goes_through : (unit : CodeUnit) (turn : ℕ) (ops more : List Op) (e : Exit) (u v : Storage) → performs turn ops u ≡ Ok v → Reaches (next unit) (state_at turn (Within (ops ++ more) e) u) (length ops) (shown_by_all turn ops u) (state_at turn (Within more e) v)
unfolding performs shown_by_all
goes_through unit turn [] more e u v h = subst (λ (w : Storage). Reaches (next unit) (state_at turn (Within more e) u) 0 [] (state_at turn (Within more e) w)) (same_storage u v _ refl h) (rests (state_at turn (Within more e) u))
goes_through unit turn (o ∷ os) more e u v h = go (perform turn o u) (λ w. goes_through unit turn os more e w v) refl h
  where
    go : (r : Result Storage End) → ((w : Storage) → performs turn os w ≡ Ok v → Reaches (next unit) (state_at turn (Within (os ++ more) e) w) (length os) (shown_by_all turn os w) (state_at turn (Within more e) v)) → perform turn o u ≡ r → and_then r (performs turn os) ≡ Ok v → Reaches (next unit) (state_at turn (Within (o ∷ os ++ more) e) u) (suc (length os)) (shown_with r (shown_by o u) (shown_by_all turn os)) (state_at turn (Within more e) v)
    go (Ok w) rest is h = goes _ (shown_by o u) (state_at turn (Within (os ++ more) e) w) (length os) (shown_by_all turn os w) _ (step_on unit turn o (os ++ more) e u w is) (rest w h)
    go (Err x) rest is h = absurd cc

-- a step more before an end
ends_later : (unit : CodeUnit) (s t : UnitState) (n : ℕ) (ls ks : List Label) (end : End) → next unit s ≡ Go ls t → EndsFrom (next unit) t n ks end → EndsFrom (next unit) s (suc n) (ls ++ ks) end
ends_later unit s t n ls ks end h k = record {
  steps = suc k.steps;
  first = ls ++ k.first;
  state = k.state;
  last = k.last;
  reaches = goes s ls t k.steps k.first k.state h k.reaches;
  trace = ap (λ x. ls ++ x) k.trace ∙ sym (append_assoc ls k.first k.last);
  by = later k.by;
}
  where
    later : ((next unit k.state ≡ Stand k.last end) × (k.steps ≤ n)) ⊎ ((next unit k.state ≡ Halt k.last end) × (k.steps < n)) → ((next unit k.state ≡ Stand k.last end) × (suc k.steps ≤ suc n)) ⊎ ((next unit k.state ≡ Halt k.last end) × (suc k.steps < suc n))
    later (inl x) = inl (x.0, omega (arith, x.1))
    later (inr x) = inr (x.0, omega (arith, x.1))

pub ends_within : (unit : CodeUnit) (turn : ℕ) (ops more : List Op) (e : Exit) (u : Storage) (end : End) → performs turn ops u ≡ Err end → EndsFrom (next unit) (state_at turn (Within (ops ++ more) e) u) (length ops) (shown_by_all turn ops u) end
unfolding performs shown_by_all
ends_within unit turn [] more e u end h = absurd cc
ends_within unit turn (o ∷ os) more e u end h = go (perform turn o u) (λ w. ends_within unit turn os more e w end) refl h
  where
    go : (r : Result Storage End) → ((w : Storage) → performs turn os w ≡ Err end → EndsFrom (next unit) (state_at turn (Within (os ++ more) e) w) (length os) (shown_by_all turn os w) end) → perform turn o u ≡ r → and_then r (performs turn os) ≡ Err end → EndsFrom (next unit) (state_at turn (Within (o ∷ os ++ more) e) u) (suc (length os)) (shown_with r (shown_by o u) (shown_by_all turn os)) end
    go (Ok w) rest is h = ends_later unit _ (state_at turn (Within (os ++ more) e) w) (length os) (shown_by o u) (shown_by_all turn os w) end (step_on unit turn o (os ++ more) e u w is) (rest w h)
    go (Err x) rest is h = record {
      steps = 0;
      first = [];
      state = state_at turn (Within (o ∷ os ++ more) e) u;
      last = [];
      reaches = rests _;
      trace = refl;
      by = inr (step_ends unit turn o (os ++ more) e u end (is ∙ ap Err (same_end x end _ refl h)), omega arith);
    }
