-- What a unit does from the beginning of a block on: it goes through the operations and leaves by the exit.
use Rattle.std.proofs.Common.{◌≡◌, ◌≢◌, ◌⊎◌, ℕ, suc, ◌<◌, ◌≤◌, ◌==◌, Bool, true, false, cond, List, [], ◌∷◌, ◌++◌, length, Some, None, Result, Ok, Err, refl, sym, ap, ◌∙◌, subst, inl, inr}
use Rattle.std.specs.List.{slice_get}
use Rattle.std.proofs.lemmas.Bool.{eqb-true, eq-eqb}
use Rattle.std.proofs.lemmas.List.{append-nil}
use Rattle.traces.specs.Trace.{Label, Turn, End, seen, Stand, Halt, run}
use Rattle.traces.specs.Steps.{Goes, Reaches, EndsFrom}
use Rattle.traces.specs.Machines.{marked}
use Rattle.traces.specs.RunLaws.{RunLaws}
use Rattle.flag_ir.specs.declared.operation.Op.{Op}
use Rattle.flag_ir.specs.declared.block.Block.{Block}
use Rattle.flag_ir.specs.declared.block.Exit.{Exit}
use Rattle.flag_ir.specs.Storage.{Storage}
use Rattle.flag_ir.specs.Operations.{perform, performs, shown_by, shown_by_all}
use Rattle.flag_ir.specs.Entering.{CodeUnit, Onward, blocks_of, leave}
use Rattle.flag_ir.specs.UnitRun.{Before, Within, UnitState, state_at, performed, left_for, within, fresh, next}
use Rattle.flag_ir.specs.UnitLaws.{UnitLaws}
use Rattle.named_code.specs.TestedRun.{turn_shown}
use Rattle.instr_choose.proofs.Beginnings.{IsStep, advances, halts, Begins, same, turn, RunEnds, step_rests, reach_go, reach_ends, begun_goes, begun_ends}

-- the turn to which a block belongs
abbrev pub turn_of : ℕ → Block → ℕ
turn_of t b = cond (b.at == 0) t b.at

within_steps : (unit : CodeUnit) (t : ℕ) (ops : List Op) (e : Exit) (u : Storage) → IsStep (within unit t ops e u)
within_steps unit t [] e u = cases (leave unit t e u)
  where
    cases : (o : Onward) → IsStep (left_for t o)
    cases (Ok p) = advances [] _ refl
    cases (Err f) = halts [] f refl
within_steps unit t (o ∷ ops) e u = cases (perform t o u)
  where
    cases : (r : Result Storage End) → IsStep (performed t (shown_by o u) r ops e)
    cases (Ok v) = advances (shown_by o u) _ refl
    cases (Err f) = halts [] f refl

module _ (runs : RunLaws UnitState) (units : UnitLaws) (unit : CodeUnit) where
  -- ---- from within a block
  list_goes : (t : ℕ) (ops : List Op) (e : Exit) (u v : Storage) → performs t ops u ≡ Ok v → Reaches (next unit) (state_at t (Within ops e) u) (length ops) (shown_by_all t ops u) (state_at t (Within [] e) v)
  list_goes t ops e u v h =
      subst (λ xs. Reaches (next unit) (state_at t (Within xs e) u) (length ops) (shown_by_all t ops u) (state_at t (Within [] e) v)) (append-nil ops) (units.lists.goes_through unit t ops [] e u v h)

  list_ends : (t : ℕ) (ops : List Op) (e : Exit) (u : Storage) (f : End) → performs t ops u ≡ Err f → RunEnds (next unit) (state_at t (Within ops e) u) (shown_by_all t ops u) f
  list_ends t ops e u f h = cases r.by
    where
      r : EndsFrom (next unit) (state_at t (Within ops e) u) (length ops) (shown_by_all t ops u) f
      r = subst (λ xs. EndsFrom (next unit) (state_at t (Within xs e) u) (length ops) (shown_by_all t ops u) f) (append-nil ops) (units.lists.ends_within unit t ops [] e u f h)

      by_last : run (next unit) r.state 1 ≡ seen r.last (Some f) → RunEnds (next unit) (state_at t (Within ops e) u) (shown_by_all t ops u) f
      by_last last = subst (λ ls. RunEnds (next unit) (state_at t (Within ops e) u) ls f) (sym r.trace) (reach_ends runs (next unit) _ r.state r.steps r.first r.last f r.reaches (record { steps = 0; ends = last }))

      cases : ((next unit r.state ≡ Stand r.last f) × (r.steps ≤ length ops)) ⊎ ((next unit r.state ≡ Halt r.last f) × (r.steps < length ops)) → RunEnds (next unit) (state_at t (Within ops e) u) (shown_by_all t ops u) f
      cases (inl stands) = by_last (runs.run_stand (next unit) r.state r.last f stands.0 1)
      cases (inr halted) = by_last (runs.run_halt (next unit) r.state r.last f halted.0 0)

  exit_ends : (t : ℕ) (ops : List Op) (e : Exit) (u v : Storage) (f : End) → performs t ops u ≡ Ok v → leave unit t e v ≡ Err f → RunEnds (next unit) (state_at t (Within ops e) u) (shown_by_all t ops u) f
  exit_ends t ops e u v f h l =
      let last : next unit (state_at t (Within [] e) v) ≡ Halt [] f = units.moves.by_within unit t [] e v ∙ ap (left_for t) l in
      subst (λ ls. RunEnds (next unit) (state_at t (Within ops e) u) ls f) (append-nil (shown_by_all t ops u))
      (reach_ends runs (next unit) _ _ (length ops) _ [] f (list_goes t ops e u v h) (record { steps = 0; ends = runs.run_halt (next unit) _ [] f last 0 }))

  -- ---- from the beginning of a block
  module _ (t k : ℕ) (b : Block) (u : Storage) (there : slice_get (blocks_of unit u.frames) k ≡ Some b) where
    abbrev outer : UnitState
    outer = state_at t (Before k) u

    abbrev inner : UnitState
    inner = state_at (turn_of t b) (Within b.ops b.exit) (fresh u)

    pub begins : Begins (next unit) outer inner (turn_shown b.at)
    begins = by (b.at == 0) refl
      where
        not_zero : (b.at == 0) ≡ false → b.at ≢ 0
        not_zero e z = let both : true ≡ false = sym (eq-eqb b.at 0 z) ∙ e in absurd cc

        by : (z : Bool) → (b.at == 0) ≡ z → Begins (next unit) outer (state_at (cond z t b.at) (Within b.ops b.exit) (fresh u)) (cond z [] (Turn b.at ∷ []))
        by true e = same (units.moves.goes_on unit t k b u there (eqb-true b.at 0 e) ∙ sym (units.moves.by_within unit t b.ops b.exit (fresh u)))
        by false e = turn b.at (units.moves.begins unit t k b u there (not_zero e) ∙ ap (marked b.at) (sym (units.moves.by_within unit b.at b.ops b.exit (fresh u))))

    awake : run (next unit) inner 0 ≡ seen [] None
    awake = step_rests runs (next unit) inner (subst IsStep (sym (units.moves.by_within unit (turn_of t b) b.ops b.exit (fresh u))) (within_steps unit (turn_of t b) b.ops b.exit (fresh u)))

    abbrev pub labels : List Label
    labels = turn_shown b.at ++ shown_by_all (turn_of t b) b.ops (fresh u)

    pub block_goes : (v w : Storage) (j : ℕ) → performs (turn_of t b) b.ops (fresh u) ≡ Ok v → leave unit (turn_of t b) b.exit v ≡ Ok (j, w) → Goes (next unit) outer (suc (length b.ops)) labels (state_at (turn_of t b) (Before j) w)
    block_goes v w j h l =
        begun_goes runs (next unit) outer inner _ (turn_shown b.at) (shown_by_all (turn_of t b) b.ops (fresh u)) (suc (length b.ops)) begins
        (reach_go runs (next unit) inner _ _ (length b.ops) _ (list_goes (turn_of t b) b.ops b.exit (fresh u) v h) (units.moves.by_within unit (turn_of t b) [] b.exit v ∙ ap (left_for (turn_of t b)) l))

    pub block_leaves : (v : Storage) (f : End) → performs (turn_of t b) b.ops (fresh u) ≡ Ok v → leave unit (turn_of t b) b.exit v ≡ Err f → RunEnds (next unit) outer labels f
    block_leaves v f h l = begun_ends runs (next unit) outer inner (turn_shown b.at) _ f begins awake (exit_ends (turn_of t b) b.ops b.exit (fresh u) v f h l)

    pub block_ends : (f : End) → performs (turn_of t b) b.ops (fresh u) ≡ Err f → RunEnds (next unit) outer labels f
    block_ends f h = begun_ends runs (next unit) outer inner (turn_shown b.at) _ f begins awake (list_ends (turn_of t b) b.ops b.exit (fresh u) f h)
