-- What a unit does from the beginning of a block on: it goes through the operations and leaves by the exit.
use Rattle.std.proofs.Common.{◌≡◌, ◌≢◌, ◌⊎◌, ℕ, suc, zero, ◌+◌, ◌<◌, ◌≤◌, ◌==◌, Bool, true, false, cond, List, [], ◌∷◌, ◌++◌, length, Some, None, Result, Ok, Err, refl, sym, ap, ◌∙◌, subst, subst₂, inl, inr, arith}
use Rattle.std.specs.List.{slice_get}
use Rattle.std.proofs.lemmas.Bool.{eqb-true, eq-eqb}
use Rattle.std.proofs.lemmas.List.{append-nil}
use Rattle.traces.specs.Trace.{Label, Turn, End, Seen, seen, before, Stand, Go, Halt, run}
use Rattle.traces.specs.Steps.{Goes, Reaches, EndsFrom}
use Rattle.traces.specs.Machines.{marked}
use Rattle.traces.specs.RunLaws.{RunLaws}
use Rattle.flag_ir.specs.declared.operation.Op.{Op}
use Rattle.flag_ir.specs.declared.block.Block.{Block}
use Rattle.flag_ir.specs.declared.block.Exit.{Exit}
use Rattle.flag_ir.specs.Storage.{Storage}
use Rattle.flag_ir.specs.Operations.{perform, performs, shown_by, shown_by_all}
use Rattle.flag_ir.specs.Entering.{CodeUnit, Onward, blocks_of, leave}
use Rattle.flag_ir.specs.UnitRun.{Before, Within, UnitState, state_at, performed, left_for, fresh, next}
use Rattle.flag_ir.specs.UnitLaws.{UnitLaws}

pub record EndsWith (unit : CodeUnit) (c : UnitState) (ls : List Label) (e : End) : Type 0 where
  pub steps : ℕ
  pub ends : run (next unit) c steps ≡ seen ls (Some e)

-- the turn to which a block belongs, and what its first step shows before all else
abbrev pub turn_of : ℕ → Block → ℕ
turn_of turn b = cond (b.at == 0) turn b.at

abbrev pub turn_shown : Block → List Label
turn_shown b = cond (b.at == 0) [] (Turn b.at ∷ [])

module _ (runs : RunLaws UnitState) (units : UnitLaws) (unit : CodeUnit) where
  -- ---- several steps, and one more
  one_more : (n : ℕ) → n + 1 ≡ suc n
  one_more n = omega arith

  reach_go : (s t w : UnitState) (n : ℕ) (ls : List Label) → Reaches (next unit) s n ls t → next unit t ≡ Go [] w → Goes (next unit) s (suc n) ls w
  reach_go s t w n ls r e =
      let both = runs.reaches_then (next unit) s n ls t 1 [] w r (runs.reaches_step (next unit) t [] w e) in
      runs.reaches_goes (next unit) s n ls w (subst₂ (λ k ks. Reaches (next unit) s k ks w) (one_more n) (append-nil ls) both)

  reach_halt : (s t : UnitState) (n : ℕ) (ls : List Label) (e : End) → Reaches (next unit) s n ls t → next unit t ≡ Halt [] e → run (next unit) s (n + 1) ≡ seen ls (Some e)
  reach_halt s t n ls e r h = runs.reaches_run (next unit) s n ls t r 1 ∙ (ap (before ls) (runs.run_halt (next unit) t [] e h 0) ∙ ap (λ ks. seen ks (Some e)) (append-nil ls))

  -- ---- from within a block
  list_goes : (turn : ℕ) (ops : List Op) (e : Exit) (u v : Storage) → performs turn ops u ≡ Ok v → Reaches (next unit) (state_at turn (Within ops e) u) (length ops) (shown_by_all turn ops u) (state_at turn (Within [] e) v)
  list_goes turn ops e u v h =
      subst (λ xs. Reaches (next unit) (state_at turn (Within xs e) u) (length ops) (shown_by_all turn ops u) (state_at turn (Within [] e) v)) (append-nil ops) (units.lists.goes_through unit turn ops [] e u v h)

  list_ends : (turn : ℕ) (ops : List Op) (e : Exit) (u : Storage) (f : End) → performs turn ops u ≡ Err f → EndsWith unit (state_at turn (Within ops e) u) (shown_by_all turn ops u) f
  list_ends turn ops e u f h = cases r.by
    where
      r : EndsFrom (next unit) (state_at turn (Within ops e) u) (length ops) (shown_by_all turn ops u) f
      r = subst (λ xs. EndsFrom (next unit) (state_at turn (Within xs e) u) (length ops) (shown_by_all turn ops u) f) (append-nil ops) (units.lists.ends_within unit turn ops [] e u f h)

      by_last : run (next unit) r.state 1 ≡ seen r.last (Some f) → EndsWith unit (state_at turn (Within ops e) u) (shown_by_all turn ops u) f
      by_last last = record {
        steps = r.steps + 1;
        ends = runs.reaches_run (next unit) (state_at turn (Within ops e) u) r.steps r.first r.state r.reaches 1 ∙ (ap (before r.first) last ∙ ap (λ ls. seen ls (Some f)) (sym r.trace));
      }

      cases : ((next unit r.state ≡ Stand r.last f) × (r.steps ≤ length ops)) ⊎ ((next unit r.state ≡ Halt r.last f) × (r.steps < length ops)) → EndsWith unit (state_at turn (Within ops e) u) (shown_by_all turn ops u) f
      cases (inl stands) = by_last (runs.run_stand (next unit) r.state r.last f stands.0 1)
      cases (inr halts) = by_last (runs.run_halt (next unit) r.state r.last f halts.0 0)

  exit_goes : (turn : ℕ) (ops : List Op) (e : Exit) (u v w : Storage) (k : ℕ) → performs turn ops u ≡ Ok v → leave unit turn e v ≡ Ok (k, w) → Goes (next unit) (state_at turn (Within ops e) u) (suc (length ops)) (shown_by_all turn ops u) (state_at turn (Before k) w)
  exit_goes turn ops e u v w k h l = reach_go _ _ _ (length ops) _ (list_goes turn ops e u v h) (units.moves.by_within unit turn [] e v ∙ ap (left_for turn) l)

  exit_ends : (turn : ℕ) (ops : List Op) (e : Exit) (u v : Storage) (f : End) → performs turn ops u ≡ Ok v → leave unit turn e v ≡ Err f → EndsWith unit (state_at turn (Within ops e) u) (shown_by_all turn ops u) f
  exit_ends turn ops e u v f h l = record { steps = length ops + 1; ends = reach_halt _ _ (length ops) _ f (list_goes turn ops e u v h) (units.moves.by_within unit turn [] e v ∙ ap (left_for turn) l) }

  -- ---- a state within a block hasn't ended
  within_rests : (turn : ℕ) (ops : List Op) (e : Exit) (u : Storage) → run (next unit) (state_at turn (Within ops e) u) 0 ≡ seen [] None
  within_rests turn [] e u = cases (leave unit turn e u) (units.moves.by_within unit turn [] e u)
    where
      cases : (o : Onward) → next unit (state_at turn (Within [] e) u) ≡ left_for turn o → run (next unit) (state_at turn (Within [] e) u) 0 ≡ seen [] None
      cases (Ok p) h = runs.rest_go (next unit) _ [] _ h
      cases (Err f) h = runs.rest_halt (next unit) _ [] f h
  within_rests turn (o ∷ ops) e u = cases (perform turn o u) (units.moves.by_within unit turn (o ∷ ops) e u)
    where
      cases : (r : Result Storage End) → next unit (state_at turn (Within (o ∷ ops) e) u) ≡ performed turn (shown_by o u) r ops e → run (next unit) (state_at turn (Within (o ∷ ops) e) u) 0 ≡ seen [] None
      cases (Ok v) h = runs.rest_go (next unit) _ (shown_by o u) _ h
      cases (Err f) h = runs.rest_halt (next unit) _ [] f h

  -- ---- from the beginning of a block
  module _ (turn k : ℕ) (b : Block) (u : Storage) (there : slice_get (blocks_of unit u.frames) k ≡ Some b) where
    abbrev outside : UnitState
    outside = state_at turn (Before k) u

    abbrev inside : ℕ → UnitState
    inside t = state_at t (Within b.ops b.exit) (fresh u)

    begins : b.at ≢ 0 → next unit outside ≡ marked b.at (next unit (inside b.at))
    begins nonzero = units.moves.begins unit turn k b u there nonzero ∙ ap (marked b.at) (sym (units.moves.by_within unit b.at b.ops b.exit (fresh u)))

    goes_on : b.at ≡ 0 → next unit outside ≡ next unit (inside turn)
    goes_on none = units.moves.goes_on unit turn k b u there none ∙ sym (units.moves.by_within unit turn b.ops b.exit (fresh u))

    not_zero : (b.at == 0) ≡ false → b.at ≢ 0
    not_zero e z = let both : true ≡ false = sym (eq-eqb b.at 0 z) ∙ e in absurd cc

    outer_goes : (n : ℕ) (ls : List Label) (t : UnitState) → Goes (next unit) (inside (turn_of turn b)) n ls t → Goes (next unit) outside n (turn_shown b ++ ls) t
    outer_goes n ls t g = cases (b.at == 0) refl g
      where
        cases : (z : Bool) → (b.at == 0) ≡ z → Goes (next unit) (inside (cond z turn b.at)) n ls t → Goes (next unit) outside n (cond z [] (Turn b.at ∷ []) ++ ls) t
        cases true e g = runs.same_goes (next unit) outside (inside turn) (goes_on (eqb-true b.at 0 e)) n ls t g
        cases false e g = runs.marked_goes (next unit) outside (inside b.at) b.at (begins (not_zero e)) n ls t g

    marked_ends : b.at ≢ 0 → (ls : List Label) (f : End) (n : ℕ) → run (next unit) (inside b.at) n ≡ seen ls (Some f) → EndsWith unit outside (Turn b.at ∷ ls) f
    marked_ends nonzero ls f zero h = let both : seen [] None ≡ seen ls (Some f) = sym (within_rests b.at b.ops b.exit (fresh u)) ∙ h in let no : None ≡ Some f = ap (λ (z : Seen). z.end) both in absurd cc
    marked_ends nonzero ls f (suc n) h = record { steps = suc n; ends = runs.marked_run (next unit) outside (inside b.at) b.at (begins nonzero) (within_rests b.at b.ops b.exit (fresh u)) n ∙ ap (before (Turn b.at ∷ [])) h }

    outer_ends : (ls : List Label) (f : End) → EndsWith unit (inside (turn_of turn b)) ls f → EndsWith unit outside (turn_shown b ++ ls) f
    outer_ends ls f r = cases (b.at == 0) refl r
      where
        cases : (z : Bool) → (b.at == 0) ≡ z → EndsWith unit (inside (cond z turn b.at)) ls f → EndsWith unit outside (cond z [] (Turn b.at ∷ []) ++ ls) f
        cases true e r = record { steps = r.steps; ends = runs.same_run (next unit) outside (inside turn) (goes_on (eqb-true b.at 0 e)) r.steps ∙ r.ends }
        cases false e r = marked_ends (not_zero e) ls f r.steps r.ends

    pub block_goes : (v w : Storage) (j : ℕ) → performs (turn_of turn b) b.ops (fresh u) ≡ Ok v → leave unit (turn_of turn b) b.exit v ≡ Ok (j, w) → Goes (next unit) (state_at turn (Before k) u) (suc (length b.ops)) (turn_shown b ++ shown_by_all (turn_of turn b) b.ops (fresh u)) (state_at (turn_of turn b) (Before j) w)
    block_goes v w j h l = outer_goes (suc (length b.ops)) _ _ (exit_goes (turn_of turn b) b.ops b.exit (fresh u) v w j h l)

    pub block_leaves : (v : Storage) (f : End) → performs (turn_of turn b) b.ops (fresh u) ≡ Ok v → leave unit (turn_of turn b) b.exit v ≡ Err f → EndsWith unit (state_at turn (Before k) u) (turn_shown b ++ shown_by_all (turn_of turn b) b.ops (fresh u)) f
    block_leaves v f h l = outer_ends _ f (exit_ends (turn_of turn b) b.ops b.exit (fresh u) v f h l)

    pub block_ends : (f : End) → performs (turn_of turn b) b.ops (fresh u) ≡ Err f → EndsWith unit (state_at turn (Before k) u) (turn_shown b ++ shown_by_all (turn_of turn b) b.ops (fresh u)) f
    block_ends f h = outer_ends _ f (list_ends (turn_of turn b) b.ops b.exit (fresh u) f h)
