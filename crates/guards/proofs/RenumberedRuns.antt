-- The same is seen of a unit and of the unit with its temporaries numbered anew: both go step by step.
use Rattle.std.proofs.Common.{◌≡◌, ℕ, zero, suc, ◌==◌, Bool, true, false, cond, List, [], ◌∷◌, map, Option, Some, None, Result, Ok, Err, refl, sym, ap, ◌∙◌, subst}
use Rattle.std.specs.List.{slice_get, flat_map}
use Rattle.traces.specs.Trace.{Label, Turn, End, seen, before, Move, Stand, Go, Halt, run}
use Rattle.traces.specs.Machines.{marked}
use Rattle.traces.specs.RunLaws.{RunLaws}
use Rattle.flag_ir.specs.declared.variable.Var.{Var}
use Rattle.flag_ir.specs.declared.variable.Var.TheVariants as var
use Rattle.flag_ir.specs.declared.variable.Term.{Term}
use Rattle.flag_ir.specs.declared.variable.Term.TheVariants as term
use Rattle.flag_ir.specs.declared.operation.Op.{Op}
use Rattle.flag_ir.specs.declared.operation.Op.TheVariants as op
use Rattle.flag_ir.specs.declared.block.Block.{Block}
use Rattle.flag_ir.specs.declared.block.Exit.{Exit}
use Rattle.flag_ir.specs.declared.block.Exit.TheVariants as exit
use Rattle.flag_ir.specs.Storage.{Frame, Storage}
use Rattle.flag_ir.specs.Operations.{perform, shown_by}
use Rattle.flag_ir.specs.Entering.{CodeUnit, Onward, blocks_of, jump, leave}
use Rattle.flag_ir.specs.UnitRun.{Point, Before, Within, Over, UnitState, state_at, performed, left_for, within, fresh, begun, next, entered, first_storage, first_state, unit_run}
use Rattle.guards.specs.Renumbering.{renumbered_var, renumbered_term, renumbered_op, renumbered_exit, temps_written, block_numbers, renumbered_block, renumbered_unit}
use Rattle.guards.specs.RenumberingLaw.{HasRunsOf}
use Rattle.guards.proofs.Numbering.{AreTold, block_told, told_first, told_rest, all_told}
use Rattle.guards.proofs.GuardedBlocks.{mapped_there, mapped_none}
use Rattle.guards.proofs.RenumberedOps.{mapped, renamed, op_renamed, op_shown}
use Rattle.guards.proofs.RenumberedExits.{renamed_onward, jump_on, exit_same}

-- ---- with the numbers that there are nothing changes
same_var : (x : Var) → renumbered_var (λ k. k) x ≡ x
same_var (var.Reg n) = refl
same_var (var.Flag n) = refl
same_var (var.Temp n) = refl
same_var (var.Local n) = refl

same_term : (t : Term) → renumbered_term (λ k. k) t ≡ t
same_term (term.Var x) = ap term.Var (same_var x)
same_term (term.Word n) = refl

same_op : (o : Op) → renumbered_op (λ k. k) o ≡ o
same_op (op.Set to from) = λ i. op.Set (same_var to i) (same_term from i)
same_op (op.Calc to c left right) = λ i. op.Calc (same_var to i) c (same_term left i) (same_term right i)
same_op (op.Forget to) = λ i. op.Forget (same_var to i)
same_op (op.Pick to test x y) = λ i. op.Pick (same_var to i) (same_term test i) (same_term x i) (same_term y i)
same_op (op.Need from) = λ i. op.Need (same_term from i)
same_op (op.Divide q r high low by size signed) = λ i. op.Divide (same_var q i) (same_var r i) (same_term high i) (same_term low i) (same_term by i) size signed
same_op (op.Load to size at) = λ i. op.Load (same_var to i) size (same_term at i)
same_op (op.Store size at from) = λ i. op.Store size (same_term at i) (same_term from i)
same_op (op.NearLoad to size at) = λ i. op.NearLoad (same_var to i) size (same_term at i)
same_op (op.NearStore size at from) = λ i. op.NearStore size (same_term at i) (same_term from i)
same_op (op.Get to size offset) = λ i. op.Get (same_var to i) size offset
same_op (op.Put size offset from) = λ i. op.Put size offset (same_term from i)
same_op op.System = refl
same_op op.NearSystem = refl

same_ops : (ops : List Op) → map (renumbered_op (λ k. k)) ops ≡ ops
same_ops [] = refl
same_ops (o ∷ os) = λ i. same_op o i ∷ same_ops os i

same_exit : (e : Exit) → renumbered_exit (λ k. k) e ≡ e
same_exit (exit.Go n) = refl
same_exit (exit.Branch test m n) = λ i. exit.Branch (same_term test i) m n
same_exit (exit.Jump to) = λ i. exit.Jump (same_term to i)
same_exit (exit.CallProc entry back) = refl
same_exit exit.Return = refl
same_exit exit.Fault = refl
same_exit exit.Stop = refl

-- ---- states side by side
abbrev IsPointTold : (ℕ → ℕ) → Point → Type 0
IsPointTold f (Before k) = Unit {0}
IsPointTold f (Within ops e) = AreTold f (flat_map temps_written ops)
IsPointTold f (Over e) = Unit {0}

abbrev renumbered_point : (ℕ → ℕ) → Point → Point
renumbered_point f (Before k) = Before k
renumbered_point f (Within ops e) = Within (map (renumbered_op f) ops) (renumbered_exit f e)
renumbered_point f (Over e) = Over e

record StandsAlike : Type 0 where
  numbers : ℕ → ℕ
  turn : ℕ
  point : Point
  storage : Storage
  told : IsPointTold numbers point

abbrev left : StandsAlike → UnitState
left p = state_at p.turn p.point (renamed p.numbers p.storage)

abbrev right : StandsAlike → UnitState
right p = state_at p.turn (renumbered_point p.numbers p.point) p.storage

record GoAlike (s t : UnitState) : Type 0 where
  pair : StandsAlike
  first : left pair ≡ s
  second : right pair ≡ t

abbrev MovesAlike : Move UnitState → Move UnitState → Type 0
MovesAlike (Stand ls e) (Stand ks f) = (ls ≡ ks) × (e ≡ f)
MovesAlike (Stand ls e) (Go ks t) = ⊥
MovesAlike (Stand ls e) (Halt ks f) = ⊥
MovesAlike (Go ls s) (Stand ks f) = ⊥
MovesAlike (Go ls s) (Go ks t) = (ls ≡ ks) × GoAlike s t
MovesAlike (Go ls s) (Halt ks f) = ⊥
MovesAlike (Halt ls e) (Stand ks f) = ⊥
MovesAlike (Halt ls e) (Go ks t) = ⊥
MovesAlike (Halt ls e) (Halt ks f) = (ls ≡ ks) × (e ≡ f)

marked_alike : (a : ℕ) (m n : Move UnitState) → MovesAlike m n → MovesAlike (marked a m) (marked a n)
marked_alike a (Stand ls e) (Stand ks f) h = h
marked_alike a (Stand ls e) (Go ks t) h = h
marked_alike a (Stand ls e) (Halt ks f) h = h
marked_alike a (Go ls s) (Stand ks f) h = h
marked_alike a (Go ls s) (Go ks t) h = (ap (λ xs. Turn a ∷ xs) h.0, h.1)
marked_alike a (Go ls s) (Halt ks f) h = h
marked_alike a (Halt ls e) (Stand ks f) h = h
marked_alike a (Halt ls e) (Go ks t) h = h
marked_alike a (Halt ls e) (Halt ks f) h = (ap (λ xs. Turn a ∷ xs) h.0, h.1)

-- ---- moves
module _ (f : ℕ → ℕ) where
  done_alike : (turn : ℕ) (ls : List Label) (r : Result Storage End) (ops : List Op) (e : Exit) → AreTold f (flat_map temps_written ops) → MovesAlike (performed turn ls (mapped (renamed f) r) ops e) (performed turn ls r (map (renumbered_op f) ops) (renumbered_exit f e))
  done_alike turn ls (Ok v) ops e told = (refl, record { pair = record { numbers = f; turn = turn; point = Within ops e; storage = v; told = told }; first = refl; second = refl })
  done_alike turn ls (Err g) ops e told = (refl, refl)

  left_alike : (turn : ℕ) (r : Onward) → MovesAlike (left_for turn (mapped (renamed_onward f) r)) (left_for turn r)
  left_alike turn (Ok p) = (refl, record { pair = record { numbers = f; turn = turn; point = Before p.0; storage = p.1; told = tt }; first = refl; second = refl })
  left_alike turn (Err e) = (refl, refl)

  within_alike : (u : CodeUnit) (turn : ℕ) (ops : List Op) (e : Exit) (v : Storage) → AreTold f (flat_map temps_written ops) → MovesAlike (within u turn ops e (renamed f v)) (within (renumbered_unit u) turn (map (renumbered_op f) ops) (renumbered_exit f e) v)
  within_alike u turn [] e v told = subst (λ r. MovesAlike (left_for turn r) (left_for turn (leave (renumbered_unit u) turn (renumbered_exit f e) v))) (sym (exit_same f u turn e v)) (left_alike turn (leave (renumbered_unit u) turn (renumbered_exit f e) v))
  within_alike u turn (o ∷ os) e v told =
      let new = renumbered_op f o in
      let shown : performed turn (shown_by new v) (mapped (renamed f) (perform turn new v)) os e ≡ performed turn (shown_by o (renamed f v)) (perform turn o (renamed f v)) os e =
      λ i. performed turn (sym (op_shown f o v) i) (sym (op_renamed f turn o v (told_first f (temps_written o) (flat_map temps_written os) told)) i) os e in
      subst (λ m. MovesAlike m (performed turn (shown_by new v) (perform turn new v) (map (renumbered_op f) os) (renumbered_exit f e))) shown (done_alike turn (shown_by new v) (perform turn new v) os e (told_rest f (temps_written o) (flat_map temps_written os) told))

module _ (u : CodeUnit) where
  -- a block begins with the numbers that its list has
  block_alike : (f g : ℕ → ℕ) (turn : ℕ) (ops : List Op) (e : Exit) (at : ℕ) (v : Storage) → AreTold g (flat_map temps_written ops) → MovesAlike (cond (at == 0) (within u turn ops e (fresh (renamed f v))) (marked at (within u at ops e (fresh (renamed f v))))) (cond (at == 0) (within (renumbered_unit u) turn (map (renumbered_op g) ops) (renumbered_exit g e) (fresh v)) (marked at (within (renumbered_unit u) at (map (renumbered_op g) ops) (renumbered_exit g e) (fresh v))))
  block_alike f g turn ops e at v told = by (at == 0)
    where
      by : (z : Bool) → MovesAlike (cond z (within u turn ops e (fresh (renamed f v))) (marked at (within u at ops e (fresh (renamed f v))))) (cond z (within (renumbered_unit u) turn (map (renumbered_op g) ops) (renumbered_exit g e) (fresh v)) (marked at (within (renumbered_unit u) at (map (renumbered_op g) ops) (renumbered_exit g e) (fresh v))))
      by true = within_alike g u turn ops e (fresh v) told
      by false = marked_alike at _ _ (within_alike g u at ops e (fresh v) told)

  -- a block of the one-stack part, and one of a procedure
  whole_alike : (f : ℕ → ℕ) (turn k : ℕ) (v : Storage) (o : Option Block) → slice_get u.whole k ≡ o → MovesAlike (begun u turn o (renamed f v)) (begun (renumbered_unit u) turn (slice_get (map renumbered_block u.whole) k) v)
  whole_alike f turn k v None e = subst (λ x. MovesAlike (begun u turn None (renamed f v)) (begun (renumbered_unit u) turn x v)) (sym (mapped_none renumbered_block u.whole k e)) (refl, refl)
  whole_alike f turn k v (Some b) e = subst (λ x. MovesAlike (begun u turn (Some b) (renamed f v)) (begun (renumbered_unit u) turn x v)) (sym (mapped_there renumbered_block u.whole k b e)) (block_alike f (block_numbers b) turn b.ops b.exit b.at v (block_told b.ops))

  proc_alike : (f : ℕ → ℕ) (turn : ℕ) (v : Storage) (o : Option Block) → MovesAlike (begun u turn o (renamed f v)) (begun (renumbered_unit u) turn o v)
  proc_alike f turn v None = (refl, refl)
  proc_alike f turn v (Some b) =
      subst (λ d. MovesAlike (begun u turn (Some b) (renamed f v)) (begun (renumbered_unit u) turn (Some d) v)) same (block_alike f (λ k. k) turn b.ops b.exit b.at v (all_told (flat_map temps_written b.ops)))
    where
      same : (let d : Block = record b { ops = map (renumbered_op (λ k. k)) b.ops; exit = renumbered_exit (λ k. k) b.exit } in d) ≡ b
      same = λ i. record b { ops = same_ops b.ops i; exit = same_exit b.exit i }

  part_alike : (f : ℕ → ℕ) (turn k : ℕ) (v : Storage) (frames : List Frame) → MovesAlike (begun u turn (slice_get (blocks_of u frames) k) (renamed f v)) (begun (renumbered_unit u) turn (slice_get (blocks_of (renumbered_unit u) frames) k) v)
  part_alike f turn k v [] = whole_alike f turn k v (slice_get u.whole k) refl
  part_alike f turn k v (x ∷ xs) = proc_alike f turn v (slice_get x.proc.blocks k)

  point_alike : (f : ℕ → ℕ) (turn : ℕ) (point : Point) (v : Storage) → IsPointTold f point → MovesAlike (next u (state_at turn point (renamed f v))) (next (renumbered_unit u) (state_at turn (renumbered_point f point) v))
  unfolding next
  point_alike f turn (Before k) v told = part_alike f turn k v v.frames
  point_alike f turn (Within ops e) v told = within_alike f u turn ops e v told
  point_alike f turn (Over e) v told = (refl, refl)

  -- ---- runs
  module _ (runs : RunLaws UnitState) where
    abbrev Same : ℕ → UnitState → UnitState → Type 0
    Same n s t = run (next u) s n ≡ run (next (renumbered_unit u)) t n

    rests : (s t : UnitState) (m n : Move UnitState) → next u s ≡ m → next (renumbered_unit u) t ≡ n → MovesAlike m n → Same 0 s t
    rests s t (Stand ls e) (Stand ks f) g h a = runs.run_stand (next u) s ls e g 0 ∙ (λ i. seen (a.0 i) (Some (a.1 i))) ∙ sym (runs.run_stand (next (renumbered_unit u)) t ks f h 0)
    rests s t (Stand ls e) (Go ks y) g h a = absurd a
    rests s t (Stand ls e) (Halt ks f) g h a = absurd a
    rests s t (Go ls x) (Stand ks f) g h a = absurd a
    rests s t (Go ls x) (Go ks y) g h a = runs.rest_go (next u) s ls x g ∙ sym (runs.rest_go (next (renumbered_unit u)) t ks y h)
    rests s t (Go ls x) (Halt ks f) g h a = absurd a
    rests s t (Halt ls e) (Stand ks f) g h a = absurd a
    rests s t (Halt ls e) (Go ks y) g h a = absurd a
    rests s t (Halt ls e) (Halt ks f) g h a = runs.rest_halt (next u) s ls e g ∙ sym (runs.rest_halt (next (renumbered_unit u)) t ks f h)

    steps : (k : ℕ) (s t : UnitState) (m n : Move UnitState) → next u s ≡ m → next (renumbered_unit u) t ≡ n → MovesAlike m n → ((p : StandsAlike) → Same k (left p) (right p)) → Same (suc k) s t
    steps k s t (Stand ls e) (Stand ks f) g h a rest = runs.run_stand (next u) s ls e g (suc k) ∙ (λ i. seen (a.0 i) (Some (a.1 i))) ∙ sym (runs.run_stand (next (renumbered_unit u)) t ks f h (suc k))
    steps k s t (Stand ls e) (Go ks y) g h a rest = absurd a
    steps k s t (Stand ls e) (Halt ks f) g h a rest = absurd a
    steps k s t (Go ls x) (Stand ks f) g h a rest = absurd a
    steps k s t (Go ls x) (Go ks y) g h a rest =
        let go = a.1 in
        runs.run_go (next u) s ls x g k
        ∙ (λ i. before (a.0 i) (run (next u) (sym go.first i) k))
        ∙ ap (before ks) (rest go.pair)
        ∙ ap (λ z. before ks (run (next (renumbered_unit u)) z k)) go.second
        ∙ sym (runs.run_go (next (renumbered_unit u)) t ks y h k)
    steps k s t (Go ls x) (Halt ks f) g h a rest = absurd a
    steps k s t (Halt ls e) (Stand ks f) g h a rest = absurd a
    steps k s t (Halt ls e) (Go ks y) g h a rest = absurd a
    steps k s t (Halt ls e) (Halt ks f) g h a rest = runs.run_halt (next u) s ls e g k ∙ (λ i. seen (a.0 i) (Some (a.1 i))) ∙ sym (runs.run_halt (next (renumbered_unit u)) t ks f h k)

    runs_same : (n : ℕ) (p : StandsAlike) → Same n (left p) (right p)
    runs_same zero p = rests (left p) (right p) (next u (left p)) (next (renumbered_unit u) (right p)) refl refl (point_alike p.numbers p.turn p.point p.storage p.told)
    runs_same (suc n) p = steps n (left p) (right p) (next u (left p)) (next (renumbered_unit u) (right p)) refl refl (point_alike p.numbers p.turn p.point p.storage p.told) (runs_same n)

    -- ---- from the start on
    enters : (v : Storage) (r : Onward) (n : ℕ) → Same n (entered v (mapped (renamed_onward (λ k. k)) r)) (entered v r)
    enters v (Ok p) n = runs_same n (record { numbers = λ k. k; turn = 0; point = Before p.0; storage = p.1; told = tt })
    enters v (Err e) n = runs_same n (record { numbers = λ k. k; turn = 0; point = Over e; storage = v; told = tt })

    pub same_runs : HasRunsOf u (renumbered_unit u)
    unfolding unit_run first_state
    same_runs m entry esp0 stack env n =
        let v = first_storage m esp0 stack env in
        sym (ap (λ r. run (next u) (entered v r) n) (jump_on (λ k. k) u entry v) ∙ enters v (jump (renumbered_unit u) entry v) n)
