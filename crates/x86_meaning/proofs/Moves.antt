-- What each move of the machine shows, and how it ends.
use Rattle.std.proofs.Common.{◌≡◌, ℕ, ◌+◌, ◌≢◌, true, false, List, [], Some, refl, subst}
use Rattle.traces.specs.Trace.{Label, End, Guard, Stopped, GuardKind, Move, Stand, Go, Halt, Grows, turns, input_left}
use Rattle.traces.specs.Steps.{Reaches}
use Rattle.traces.specs.Weight.{Paced, Ticks}
use Rattle.traces.specs.Plain.{NeverStops}
use Rattle.traces.specs.Machines.{marked}
use Rattle.traces.specs.Moves.{Unturned, EndsIn, InputMove}
use Rattle.traces.specs.RunLaws.{RunLaws}
use Rattle.traces.specs.MoveLaws.{MoveLaws}
use Rattle.memory.specs.CallLaws.{CallLaws, is_own_end, IsPlainCall, LeavesInput}
use Rattle.memory.specs.SystemCall.{Called, Ends, Gives, system_call}
use Rattle.x86_code.specs.Code.{Code}
use Rattle.x86_meaning.specs.declared.stop.Stop.{Stop}
use Rattle.x86_meaning.specs.declared.stop.Stop.TheVariants.{MemoryFault, DivideFault, Unspecified}
use Rattle.x86_meaning.specs.Outcomes.{Way}
use Rattle.x86_meaning.specs.Step.{State, settled, at_address, request_of, after_call, finish, performed, end_of, next}
use Rattle.x86_meaning.specs.Run.{machine, run_from}
use Rattle.x86_meaning.proofs.Cases.{settled_holds, finish_holds, step_holds, next_holds}

abbrev pub IsOwn : End → Type 0
IsOwn e = is_own_end e ≡ true

-- a move of the machine begins no turn, and ends with an end of its own
pub record IsPlain (m : Move State) : Type 0 where
  pub unturned : Unturned m
  pub own : EndsIn IsOwn m

settled_plain : (ls : List Label) (s : State) → turns ls ≡ 0 → IsPlain (settled ls s)
settled_plain ls s h = settled_holds IsPlain ls s (record { unturned = h; own = refl }) (λ esp e. record { unturned = h; own = tt })

called_plain : (x : Called) (s : State) → IsPlainCall x → IsPlain (after_call x s)
called_plain (Ends e) s h = record { unturned = refl; own = h }
called_plain (Gives ls result stores left) s h = settled_plain ls _ h

stop_own : (x : Stop) → IsOwn (end_of x)
stop_own MemoryFault = refl
stop_own DivideFault = refl
stop_own Unspecified = refl

module _ (calls : CallLaws) where
  finish_plain : (w : Way) (n : ℕ) (t : State) → IsPlain (finish w n t)
  finish_plain w n t =
      finish_holds IsPlain w n t (λ a. settled_plain [] (at_address a t) refl) (settled_plain [] t refl) (λ a. called_plain (system_call (request_of t.cpu) t.memory t.left) (at_address a t) (calls.are_plain (request_of t.cpu) t.memory t.left))

  pub next_plain : (code : Code) (s : State) → IsPlain (next code s)
  next_plain code s = next_holds IsPlain code s (record { unturned = refl; own = refl }) (λ i len. step_holds IsPlain i len s (λ x. record { unturned = refl; own = stop_own x }) (λ e h. finish_plain e.way (s.eip + len) (performed e s)))

turned_own : (a : ℕ) (m : Move State) → EndsIn IsOwn m → EndsIn IsOwn (marked a m)
turned_own a (Stand ls e) h = h
turned_own a (Go ls s) h = h
turned_own a (Halt ls e) h = h

module _ (calls : CallLaws) (runs : RunLaws State) (moves : MoveLaws State) (code : Code) (s : State) where
  run_own : (n : ℕ) (e : End) → (run_from code s n).end ≡ Some e → IsOwn e
  unfolding run_from
  run_own = moves.ends_by_moves (machine code) is_own_end (λ t. turned_own t.eip (next code t) (next_plain calls code t).own) s

  pub grow : Grows (run_from code s)
  unfolding run_from
  grow = runs.run_grows (machine code) s

  pub never_stop : NeverStops (run_from code s)
  never_stop n a h = let own : false ≡ true = run_own n (Stopped a) h in cc

  pub no_guard : (n : ℕ) (k : GuardKind) (a : ℕ) → (run_from code s n).end ≢ Some (Guard k a)
  no_guard n k a h = let own : false ≡ true = run_own n (Guard k a) h in cc

  turns_of : Ticks (run_from code s) × Paced 1 0 (run_from code s)
  unfolding run_from
  turns_of = moves.turned_ticks (λ t. t.eip) (next code) (λ t. (next_plain calls code t).unturned) s

  pub tick : Ticks (run_from code s)
  tick = turns_of.0

  pub paced : Paced 1 0 (run_from code s)
  paced = turns_of.1

-- ---- the input
settled_input : (input : List ℕ) (ls : List Label) (s : State) → s.left.input ≡ input_left input ls → InputMove (λ t. t.left.input) input (settled ls s)
settled_input input ls s h = settled_holds (InputMove (λ t. t.left.input) input) ls s tt (λ esp e. h)

called_input : (input : List ℕ) (x : Called) (s : State) → LeavesInput input x → InputMove (λ t. t.left.input) input (after_call x s)
called_input input (Ends e) s h = tt
called_input input (Gives ls result stores left) s h = settled_input input ls _ h

marked_input : (a : ℕ) (input : List ℕ) (m : Move State) → InputMove (λ t. t.left.input) input m → InputMove (λ t. t.left.input) input (marked a m)
marked_input a input (Stand ls e) h = h
marked_input a input (Go ls s) h = h
marked_input a input (Halt ls e) h = h

module _ (calls : CallLaws) where
  finish_input : (input : List ℕ) (w : Way) (n : ℕ) (t : State) → t.left.input ≡ input → InputMove (λ u. u.left.input) input (finish w n t)
  finish_input input w n t h =
      finish_holds (InputMove (λ u. u.left.input) input) w n t (λ a. settled_input input [] (at_address a t) h) (settled_input input [] t h)
      (λ a. called_input input (system_call (request_of t.cpu) t.memory t.left) (at_address a t) (subst (λ (i : List ℕ). LeavesInput i (system_call (request_of t.cpu) t.memory t.left)) h (calls.leave_input (request_of t.cpu) t.memory t.left)))

  machine_input : (code : Code) (s : State) → InputMove (λ t. t.left.input) s.left.input (machine code s)
  machine_input code s = marked_input s.eip s.left.input (next code s) (next_holds (InputMove (λ t. t.left.input) s.left.input) code s tt (λ i len. step_holds (InputMove (λ t. t.left.input) s.left.input) i len s (λ x. tt) (λ e h. finish_input s.left.input e.way (s.eip + len) (performed e s) refl)))

  pub input_reached : MoveLaws State → (code : Code) (s t : State) (n : ℕ) (ls : List Label) → Reaches (machine code) s n ls t → t.left.input ≡ input_left s.left.input ls
  input_reached moves code s t n ls r = moves.input_reached (machine code) (λ u. u.left.input) (machine_input code) s n ls t r
