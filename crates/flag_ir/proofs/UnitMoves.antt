-- The moves of a unit, by the point, and what they show.
use Rattle.std.proofs.Common.{◌≡◌, ◌≢◌, ℕ, ◌≤◌, ◌==◌, List, [], ◌∷◌, length, slice_get, Option, Some, None, Result, Ok, Err, refl, ap, ◌∙◌, arith}
use Rattle.std.proofs.lemmas.Bool.{ne_eqb, eq-eqb, cond-false, cond-true, cond_both}
use Rattle.traces.specs.Trace.{Label, Turn, Took, Made, End, Outside, Move, Stand, Go, Halt, events, turns}
use Rattle.traces.specs.Machines.{marked}
use Rattle.traces.specs.Moves.{OneEventStep, OneTurn}
use Rattle.memory.specs.SystemCall.{Called, Ends, Gives}
use Rattle.memory.specs.CallLaws.{CallLaws, IsPlainCall, ShowsOneEvent}
use Rattle.flag_ir.specs.declared.operation.Op.{Op}
use Rattle.flag_ir.specs.declared.operation.Op.TheVariants as op
use Rattle.flag_ir.specs.declared.block.Block.{Block}
use Rattle.flag_ir.specs.declared.block.Exit.{Exit}
use Rattle.flag_ir.specs.Storage.{Storage}
use Rattle.flag_ir.specs.Operations.{perform, shown_by, labels_of, request_in, call_in, buffer_in, near_call_in, near_call_by}
use Rattle.flag_ir.specs.Frames.{reached_frames, seen_memory}
use Rattle.flag_ir.specs.Entering.{CodeUnit, Onward, blocks_of, leave}
use Rattle.flag_ir.specs.UnitRun.{Point, Before, Within, Over, UnitState, state_at, performed, left_for, fresh, within, begun, next}

-- ---- by the point
pub begins : (unit : CodeUnit) (turn k : ℕ) (b : Block) (u : Storage) → slice_get (blocks_of unit u.frames) k ≡ Some b → b.at ≢ 0 → next unit (state_at turn (Before k) u) ≡ marked b.at (within unit b.at b.ops b.exit (fresh u))
unfolding next
begins unit turn k b u h n = ap (λ o. begun unit turn o u) h ∙ cond-false (b.at == 0) _ _ (ne_eqb b.at 0 n)

pub goes_on : (unit : CodeUnit) (turn k : ℕ) (b : Block) (u : Storage) → slice_get (blocks_of unit u.frames) k ≡ Some b → b.at ≡ 0 → next unit (state_at turn (Before k) u) ≡ within unit turn b.ops b.exit (fresh u)
unfolding next
goes_on unit turn k b u h n = ap (λ o. begun unit turn o u) h ∙ cond-true (b.at == 0) _ _ (eq-eqb b.at 0 n)

pub no_block : (unit : CodeUnit) (turn k : ℕ) (u : Storage) → slice_get (blocks_of unit u.frames) k ≡ None → next unit (state_at turn (Before k) u) ≡ Stand [] Outside
unfolding next
no_block unit turn k u h = ap (λ o. begun unit turn o u) h

pub by_within : (unit : CodeUnit) (turn : ℕ) (ops : List Op) (e : Exit) (u : Storage) → next unit (state_at turn (Within ops e) u) ≡ within unit turn ops e u
unfolding next
by_within unit turn ops e u = refl

pub over : (unit : CodeUnit) (turn : ℕ) (e : End) (u : Storage) → next unit (state_at turn (Over e) u) ≡ Stand [] e
unfolding next
over unit turn e u = refl

-- ---- what an operation shows: at most one event, and no turn
pub record ShowsLittle (ls : List Label) : Type 0 where
  pub events : length (events ls) ≤ 1
  pub turns : turns ls ≡ 0

shows_nothing : ShowsLittle []
shows_nothing = record { events = omega arith; turns = refl }

call_little : (x : Called) → IsPlainCall x → ShowsOneEvent x → ShowsLittle (labels_of x)
call_little (Ends e) h k = shows_nothing
call_little (Gives labels result stores left) h k = record { events = k; turns = h }

pub no_turn_first : (ls : List Label) → turns ls ≡ 0 → OneTurn ls
no_turn_first [] h = tt
no_turn_first (Turn a ∷ ls) h = absurd cc
no_turn_first (Took ∷ ls) h = h
no_turn_first (Made e ∷ ls) h = h

module _ (calls : CallLaws) where
  call_shows : (u : Storage) → ShowsLittle (labels_of (call_in u))
  call_shows u = call_little (call_in u) (calls.are_plain (request_in u) u.memory u.left) (calls.show_one_event (request_in u) u.memory u.left)

  near_call_shows : (u : Storage) (o : Option (ℕ × ℕ)) → ShowsLittle (labels_of (near_call_by o u))
  near_call_shows u None = call_shows u
  near_call_shows u (Some p) =
      let m = seen_memory (reached_frames u.frames) u.memory in
      call_little (near_call_in u) (calls.are_plain (request_in u) m u.left) (calls.show_one_event (request_in u) m u.left)

  pub shows_little : (o : Op) (u : Storage) → ShowsLittle (shown_by o u)
  shows_little op.System u = call_shows u
  shows_little op.NearSystem u = near_call_shows u (buffer_in u)
  shows_little (op.Set to from) u = shows_nothing
  shows_little (op.Calc to calc left right) u = shows_nothing
  shows_little (op.Forget to) u = shows_nothing
  shows_little (op.Pick to test x y) u = shows_nothing
  shows_little (op.Need from) u = shows_nothing
  shows_little (op.Divide quotient remainder high low by size signed) u = shows_nothing
  shows_little (op.Load to size at) u = shows_nothing
  shows_little (op.Store size at from) u = shows_nothing
  shows_little (op.NearLoad to size at) u = shows_nothing
  shows_little (op.NearStore size at from) u = shows_nothing
  shows_little (op.Get to size offset) u = shows_nothing
  shows_little (op.Put size offset from) u = shows_nothing

  -- ---- so each move shows at most one event
  performed_event : (turn : ℕ) (labels : List Label) (r : Result Storage End) (ops : List Op) (e : Exit) → ShowsLittle labels → OneEventStep (performed turn labels r ops e)
  performed_event turn labels (Ok u) ops e h = h.events
  performed_event turn labels (Err x) ops e h = omega arith

  left_event : (turn : ℕ) (r : Onward) → OneEventStep (left_for turn r)
  left_event turn (Ok p) = omega arith
  left_event turn (Err e) = omega arith

  within_event : (unit : CodeUnit) (turn : ℕ) (ops : List Op) (e : Exit) (u : Storage) → OneEventStep (within unit turn ops e u)
  within_event unit turn [] e u = left_event turn (leave unit turn e u)
  within_event unit turn (o ∷ ops) e u = performed_event turn (shown_by o u) (perform turn o u) ops e (shows_little o u)

  marked_event : (a : ℕ) (m : Move UnitState) → OneEventStep m → OneEventStep (marked a m)
  marked_event a (Stand ls e) h = h
  marked_event a (Go ls s) h = h
  marked_event a (Halt ls e) h = h

  begun_event : (unit : CodeUnit) (turn : ℕ) (o : Option Block) (u : Storage) → OneEventStep (begun unit turn o u)
  begun_event unit turn None u = refl
  begun_event unit turn (Some b) u = cond_both (b.at == 0) _ _ OneEventStep (λ h. within_event unit turn b.ops b.exit (fresh u)) (λ h. marked_event b.at _ (within_event unit b.at b.ops b.exit (fresh u)))

  point_event : (unit : CodeUnit) (p : Point) (turn : ℕ) (u : Storage) → OneEventStep (next unit (state_at turn p u))
  unfolding next
  point_event unit (Before k) turn u = begun_event unit turn (slice_get (blocks_of unit u.frames) k) u
  point_event unit (Within ops e) turn u = within_event unit turn ops e u
  point_event unit (Over e) turn u = refl

  pub next_event : (unit : CodeUnit) (s : UnitState) → OneEventStep (next unit s)
  next_event unit s = point_event unit s.point s.turn s.storage
