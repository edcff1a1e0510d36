-- A machine that is run over a host that tells.
use Rattle.std.proofs.Common.{◌≡◌, ℕ, ◌+◌, ◌≤◌, ◌<◌, ◌^◌, Option, Some, None, Result, Ok, Err, refl, sym, subst, arith}
use Rattle.std.specs.declared.alloc.AllocError.{AllocError}
use Rattle.mem_pages.specs.declared.end.RunEnd.{RunEnd}
use Rattle.mem_pages.specs.declared.end.RunEnd.TheVariants as ends
use Rattle.sw_host.specs.Told.{Told, Tells}
use Rattle.sw_host.specs.Chains.{tells_none, tells_map, tells_then}
use Rattle.x86_machine.specs.declared.machine.Machine.{Machine}
use Rattle.x86_machine.specs.declared.turn.Turned.TheVariants as turned
use Rattle.x86_machine.specs.Standing.{steps_in, ended_in}
use Rattle.x86_machine.specs.Running.{GoesOn, Runs, RunsFrom}
use Rattle.x86_machine.specs.Turning.{Turns, Rests}
use Rattle.x86_machine.proofs.Goings.{LawsBelow, goes_none, goes_step, goes_still, goes_wanting, ends_last, ends_outside, spends, runs_ended}

-- a run that had ended before
pub ended_before : (o : Option Told) (m : Machine) (budget : ℕ) (end : RunEnd) → ended_in m ≡ Some end → Tells o o (RunsFrom (ended_in m) budget (Ok end) m m)
ended_before o m budget end is = subst (λ (e : Option RunEnd). Tells o o (RunsFrom e budget (Ok end) m m)) (sym is) (tells_none o (RunsFrom (Some end) budget (Ok end) m m) (λ a. (refl, record { machine = refl; host = refl })))

-- one that had not
from_open : (o p : Option Told) (m n : Machine) (budget : ℕ) (r : Result RunEnd AllocError) → ended_in m ≡ None → Tells o p (Runs budget r m n) → Tells o p (RunsFrom (ended_in m) budget r m n)
from_open o p m n budget r open_ t = subst (λ (e : Option RunEnd). Tells o p (RunsFrom e budget r m n)) (sym open_) t

pub starts : (o : Option Told) (m : Machine) → steps_in m < 2 ^ 64 → ended_in m ≡ None → Tells o o (GoesOn 0 0 m m)
starts o m few open_ = tells_none o (GoesOn 0 0 m m) (λ a. goes_none m a few open_)

module _ (laws : LawsBelow) (o p q : Option Told) (k : ℕ) (m n s : Machine) (t : Tells o p (GoesOn k 0 m n)) where
  pub turned_on : Tells p q (Turns (Ok turned.On) n s) → Tells o q (GoesOn (k + 1) 0 m s)
  turned_on u = tells_then o p q (GoesOn k 0 m n) (Turns (Ok turned.On) n s) (GoesOn (k + 1) 0 m s) t u (λ a b c g h. goes_step laws k m n s a b c g h)

  module _ (budget : ℕ) (open_ : ended_in m ≡ None) where
    pub turned_last : (end : RunEnd) → k + 1 ≤ budget → Tells p q (Turns (Ok (turned.Ended end)) n s) → Tells o q (RunsFrom (ended_in m) budget (Ok end) m s)
    turned_last end within u = from_open o q m s budget (Ok end) open_ (tells_then o p q (GoesOn k 0 m n) (Turns (Ok (turned.Ended end)) n s) (Runs budget (Ok end) m s) t u
        (λ a b c g h. runs_ended budget end h.move.last m s a c h.move.is_last (ends_last laws k budget end m n s a b c g h within)))

    pub turned_outside : k ≤ budget → Tells p q (Turns (Ok turned.Outside) n s) → Tells o q (RunsFrom (ended_in m) budget (Ok ends.Outside) m s)
    turned_outside within u = from_open o q m s budget (Ok ends.Outside) open_ (tells_then o p q (GoesOn k 0 m n) (Turns (Ok turned.Outside) n s) (Runs budget (Ok ends.Outside) m s) t u
        (λ a b c g h. subst (λ (x : Told). Runs budget (Ok ends.Outside) m s a x) (sym h.1) (ends_outside laws k budget m n s a b g h.0 within)))

    pub turned_wanting : (error : AllocError) → k ≤ budget → Tells p q (Turns (Err error) n s) → Tells o q (RunsFrom (ended_in m) budget (Err error) m s)
    turned_wanting error within u = from_open o q m s budget (Err error) open_ (tells_then o p q (GoesOn k 0 m n) (Turns (Err error) n s) (Runs budget (Err error) m s) t u
        (λ a b c g h. (k, h.1.calls, within, goes_wanting laws k m n s a b c g h.0 h.1)))

-- after all steps
rests_so : LawsBelow → (budget : ℕ) (m n s : Machine) (r : Result RunEnd AllocError) (a b : Told) → GoesOn budget 0 m n a b → Rests r n s → Runs budget r m s a b
rests_so laws budget m n s (Ok ends.Spent) a b g h = spends laws budget m n s a b g h
rests_so laws budget m n s (Ok ends.Outside) a b g h = ends_outside laws budget budget m n s a b g h (omega arith)
rests_so laws budget m n s (Ok (ends.Exited status)) a b g h = absurd h
rests_so laws budget m n s (Ok ends.MemoryFault) a b g h = absurd h
rests_so laws budget m n s (Ok ends.DivideFault) a b g h = absurd h
rests_so laws budget m n s (Ok (ends.OtherCall number)) a b g h = absurd h
rests_so laws budget m n s (Ok ends.Unspecified) a b g h = absurd h
rests_so laws budget m n s (Err error) a b g h = (budget, 0, omega arith, goes_still budget 0 m n s a b g h g.ended)

pub rested : LawsBelow → (o p : Option Told) (budget k : ℕ) (m n s : Machine) (r : Result RunEnd AllocError) → k ≡ budget → ended_in m ≡ None → Tells o p (GoesOn k 0 m n) → Rests r n s → Tells o p (RunsFrom (ended_in m) budget r m s)
rested laws o p budget k m n s r is open_ t h =
    let all : Tells o p (GoesOn budget 0 m n) = subst (λ (j : ℕ). Tells o p (GoesOn j 0 m n)) is t in
    from_open o p m s budget r open_ (tells_map o p (GoesOn budget 0 m n) (Runs budget r m s) all (λ a b g. rests_so laws budget m n s r a b g h))
