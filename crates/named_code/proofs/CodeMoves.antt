-- The moves of code: what they show, and how they end.
use Rattle.std.proofs.Common.{◌≡◌, ℕ, ◌==◌, Bool, true, false, List, [], ◌∷◌, Option, Some, None, Result, Ok, Err, refl, arith}
use Rattle.std.proofs.lemmas.Bool.{cond_both}
use Rattle.traces.specs.Trace.{Move, Stand, Go, Halt}
use Rattle.traces.specs.Machines.{marked}
use Rattle.traces.specs.Moves.{OneEventStep, Unturned, EndsIn}
use Rattle.memory.specs.Memory.{Load, Store}
use Rattle.memory.specs.SystemCall.{Called, Ends, Gives, system_call}
use Rattle.memory.specs.CallLaws.{CallLaws, is_own_end, IsPlainCall, ShowsOneEvent}
use Rattle.x86_meaning.specs.declared.stop.Stop.{Stop}
use Rattle.x86_meaning.specs.declared.stop.Stop.TheVariants.{MemoryFault, DivideFault, Unspecified}
use Rattle.x86_meaning.specs.Outcomes.{Way, Falls, JumpsBy, JumpsTo, Repeats, Calls}
use Rattle.x86_meaning.specs.Effect.{Effect, accesses, effect}
use Rattle.x86_meaning.specs.Step.{all_allowed, end_of, request_of}
use Rattle.named_code.specs.Items.{Item, CodeBlock}
use Rattle.named_code.specs.Running.{CodeState, CodePoint, AtNumber, AtOld, Inside, CodePosition, after_call, onward, performed, by_stores, by_effect, by_loads, act, goes_on, block_of_number, block_at, Marks, begun, move_at, code_next}

-- ---- what holds of an item's move where it holds of each outcome
module _ (P : Move CodePosition → Type 0) (x : Item) (rest : List Item) (s : CodeState) (ends : (stop : Stop) → P (Halt [] (end_of stop))) where
  by_stores_holds : (b : Bool) (e : Effect) → P (onward e.way x rest (performed e s)) → P (by_stores b e x rest s)
  by_stores_holds false e h = ends MemoryFault
  by_stores_holds true e h = h

  by_effect_holds : (r : Result Effect Stop) (b : Bool) → ((e : Effect) → r ≡ Ok e → P (onward e.way x rest (performed e s))) → P (by_effect r b x rest s)
  by_effect_holds (Err stop) b h = ends stop
  by_effect_holds (Ok e) b h = by_stores_holds b e (h e refl)

  by_loads_holds : (a b : Bool) (r : Result Effect Stop) → ((e : Effect) → r ≡ Ok e → P (onward e.way x rest (performed e s))) → P (by_loads a b r x rest s)
  by_loads_holds false b r h = ends MemoryFault
  by_loads_holds true b r h = by_effect_holds r b h

  pub act_holds : ((e : Effect) → effect x.naming x.instr 0 s.cpu s.memory ≡ Ok e → P (onward e.way x rest (performed e s))) → P (act x rest s)
  unfolding act
  act_holds h =
      let made = accesses x.naming x.instr s.cpu.regs in
      by_loads_holds (all_allowed Load made s.memory) (all_allowed Store made s.memory) (effect x.naming x.instr 0 s.cpu s.memory) h

-- ---- a move shows at most one event and begins no turn, and ends with an end of its own
pub record IsPlain (m : Move CodePosition) : Type 0 where
  pub event : OneEventStep m
  pub unturned : Unturned m
  pub own : EndsIn (λ e. is_own_end e ≡ true) m

stop_own : (x : Stop) → is_own_end (end_of x) ≡ true
stop_own MemoryFault = refl
stop_own DivideFault = refl
stop_own Unspecified = refl

called_plain : (c : Called) (rest : List Item) (s : CodeState) → IsPlainCall c → ShowsOneEvent c → IsPlain (after_call c rest s)
called_plain (Ends e) rest s h k = record { event = omega arith; unturned = refl; own = h }
called_plain (Gives labels result stores left) rest s h k = record { event = k; unturned = h; own = tt }

module _ (calls : CallLaws) where
  onward_plain : (w : Way) (x : Item) (rest : List Item) (s : CodeState) → IsPlain (onward w x rest s)
  onward_plain Falls x rest s = record { event = omega arith; unturned = refl; own = tt }
  onward_plain (JumpsBy by) x rest s = record { event = omega arith; unturned = refl; own = tt }
  onward_plain (JumpsTo at) x rest s = record { event = omega arith; unturned = refl; own = tt }
  onward_plain Repeats x rest s = record { event = omega arith; unturned = refl; own = tt }
  onward_plain Calls x rest s = called_plain (system_call (request_of s.cpu) s.memory s.left) rest s (calls.are_plain (request_of s.cpu) s.memory s.left) (calls.show_one_event (request_of s.cpu) s.memory s.left)

  pub goes_on_plain : (xs : List Item) (s : CodeState) → IsPlain (goes_on xs s)
  goes_on_plain [] s = record { event = refl; unturned = refl; own = refl }
  goes_on_plain (x ∷ rest) s = act_holds IsPlain x rest s (λ stop. record { event = omega arith; unturned = refl; own = stop_own stop }) (λ e h. onward_plain e.way x rest (performed e s))

  -- ---- with the turn that a block begins
  pub record IsSmall (m : Move CodePosition) : Type 0 where
    pub event : OneEventStep m
    pub own : EndsIn (λ e. is_own_end e ≡ true) m

  marked_small : (a : ℕ) (m : Move CodePosition) → IsPlain m → IsSmall (marked a m)
  marked_small a (Stand ls e) h = record { event = h.event; own = h.own }
  marked_small a (Go ls s) h = record { event = h.event; own = h.own }
  marked_small a (Halt ls e) h = record { event = h.event; own = h.own }

  begun_small : (marks : Marks) (o : Option CodeBlock) (s : CodeState) → IsSmall (begun marks o s)
  begun_small marks None s = record { event = refl; own = refl }
  begun_small marks (Some b) s =
      let plain = goes_on_plain b.items s in
      cond_both (marks b.number == 0) _ _ IsSmall (λ z. record { event = plain.event; own = plain.own }) (λ z. marked_small (marks b.number) (goes_on b.items s) plain)

  small_at : (marks : Marks) (code : List CodeBlock) (p : CodePoint) (s : CodeState) → IsSmall (move_at marks code p s)
  small_at marks code (AtNumber n) s = begun_small marks (block_of_number n code) s
  small_at marks code (AtOld a) s = begun_small marks (block_at a code) s
  small_at marks code (Inside items) s = let plain = goes_on_plain items s in record { event = plain.event; own = plain.own }

  pub next_small : (marks : Marks) (code : List CodeBlock) (p : CodePosition) → IsSmall (code_next marks code p)
  unfolding code_next
  next_small marks code p = small_at marks code p.point p.state
