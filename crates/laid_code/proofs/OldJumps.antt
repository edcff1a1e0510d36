-- A jump to an old address is met by the six instructions of a jump by the table, or by four where the address lies outside the span.
use Rattle.std.proofs.Common.{◌≡◌, ◌≢◌, ◌⊎◌, inl, inr, ℕ, ◌+◌, ◌-◌, ◌%◌, ◌<◌, ◌≤◌, ◌||◌, Bool, true, false, cond, leb, ltb, List, [], All, Option, Some, None, refl, sym, ap, ap₂, ◌∙◌, subst, arith}
use Rattle.std.proofs.lemmas.Bool.{ltb-true, ltb-false, leb-true, leb-false, lt-ltb, le-ltb}
use Rattle.x86_values.specs.declared.word.Word.{Word}
use Rattle.x86_values.specs.Sizes.{cut, number}
use Rattle.x86_values.specs.Words.{known}
use Rattle.x86_values.specs.LessSpecified.{WordLessSpecified}
use Rattle.traces.specs.Trace.{End, Move, Stand, Go, Halt, run, seen}
use Rattle.traces.specs.Trace as trace
use Rattle.traces.specs.Steps.{Goes}
use Rattle.memory.specs.Memory.{Memory, wrapped}
use Rattle.x86_types.specs.declared.operand.Reg.TheVariants.{Esp}
use Rattle.x86_types.specs.declared.operand.Rm.{Rm}
use Rattle.x86_types.specs.declared.instr.Instr.TheVariants as instr
use Rattle.x86_code.specs.Code.{Code}
use Rattle.x86_meaning.specs.Registers.{machine_naming}
use Rattle.x86_meaning.specs.Outcomes.{Way, Falls, JumpsBy, JumpsTo, Repeats, Calls}
use Rattle.x86_meaning.specs.Effect.{accesses}
use Rattle.x86_meaning.specs.Step.{State, at_address, finish, step, next}
use Rattle.x86_meaning.specs.Step as processor
use Rattle.x86_meaning.specs.LessSpecified.{MoveLessSpecified}
use Rattle.private_memory.specs.PrivateArea.{is_clear_access}
use Rattle.field_places.specs.Fields.{fields}
use Rattle.named_code.specs.Items.{Item, CodeBlock, own_item}
use Rattle.named_code.specs.Running.{CodeState, AtOld, Inside, CodePosition, standing_at, onward, performed, lost, act}
use Rattle.named_code.specs.Weight.{Next, IsWayOf}
use Rattle.laid_code.specs.Laid.{Places, JumpsByTable, place_of_old, IsLaid}
use Rattle.laid_code.specs.LaidRun.{AreStatesBeside, HasAddressTable}
use Rattle.laid_code.proofs.Given.{Given}
use Rattle.laid_code.proofs.Acting.{alone, EndAlike, GoAlike, both_moves}
use Rattle.laid_code.proofs.Stepping.{less_move, goes_beside, ends_as}
use Rattle.laid_code.proofs.Moving.{Simulated, awake, ends_met}
use Rattle.laid_code.proofs.TableSteps.{Holds, HoldsOn, less_in_span, lost_registers, sub_holds, cmp_holds, passes_holds, stops_holds, look_holds, jump_holds}
use Rattle.laid_code.proofs.TableJumps.{takes, taken, jumped, moved, TakesWord, both_take, same_reads, fields_of_move}

module _ (given : Given) (l : Places) (code : Code) (blocks : List CodeBlock) (first : Memory) where
  -- fewer steps are within more
  pub simulated_within : (m : Move CodePosition) (t : State) (k : ℕ) → 1 ≤ k → Simulated given l code blocks first 1 m t → Simulated given l code blocks first k m t
  simulated_within (Stand ls e) t k some h = h
  simulated_within (Go ls p) t k some h = record { steps = h.steps; few = let f = h.few in omega (arith, some, f); trace = h.trace; state = h.state; fits = h.fits; goes = h.goes; related = h.related }
  simulated_within (Halt ls e) t k some h = (record { steps = h.0.steps; few = let f = h.0.few in omega (arith, some, f); fits = h.0.fits }, h.1)

  module _ (laid : IsLaid l code blocks) (table : HasAddressTable l first) (to : Rm) (rest : List Item) (s : CodeState) (t : State) (states : AreStatesBeside first s t) (r : ℕ) (stands : JumpsByTable l code t.eip to r)
      (no_esp : All (λ f. f.register ≢ Esp) (fields (instr.JmpTo to))) (clear : All (λ a. is_clear_access s.memory a ≡ true) (accesses machine_naming (instr.JmpTo to) s.cpu.regs)) where
    abbrev Met : Move CodePosition → Type 0
    Met m = Simulated given l code blocks first 6 m t

    abbrev u : State
    u = alone first s t.eip

    abbrev len : ℕ
    len = stands.takes.len

    -- the MOV beside the step of the processor
    taking : EndAlike (own_item (takes to)) rest s len u ⊎ GoAlike first (own_item (takes to)) rest s len u
    taking = both_moves given first (takes to) rest s t.eip len states.memory.free (fields_of_move to no_esp) tt (subst (All (λ a. is_clear_access s.memory a ≡ true)) (sym (same_reads to s.cpu.regs)) clear)

    abbrev less_by : (m : Move State) → step (takes to) len u ≡ m → MoveLessSpecified m (next code t)
    less_by m e = subst (λ x. MoveLessSpecified x (next code t)) e (less_move given first code s t (takes to) len stands.takes.is states)

    awakes : run (next code) t 0 ≡ seen [] None
    awakes = awake given l code blocks first t (takes to) len stands.takes.is

    -- ---- where the jump ends, so does the processor, or the code used an unspecified value
    unspecified_met : act (own_item (instr.JmpTo to)) rest s ≡ Halt [] trace.Unspecified → Met (act (own_item (instr.JmpTo to)) rest s)
    unspecified_met e = subst Met (sym e) (simulated_within (Halt [] trace.Unspecified) t 6 (omega arith) (ends_met given l code blocks first trace.Unspecified t refl awakes (λ differs. absurd (differs refl))))

    end_of_move : Move CodePosition → End
    end_of_move (Stand ls e) = e
    end_of_move (Go ls p) = trace.Unspecified
    end_of_move (Halt ls e) = e

    is_halt : Move CodePosition → Bool
    is_halt (Stand ls e) = false
    is_halt (Go ls p) = false
    is_halt (Halt ls e) = true

    onward_way : (w : Way) → IsWayOf Next w → (w ≡ Calls → ⊥) → w ≡ Falls
    onward_way Falls h other = refl
    onward_way Calls h other = absurd (other refl)
    onward_way (JumpsBy by) h other = absurd h
    onward_way (JumpsTo at) h other = absurd h
    onward_way Repeats h other = absurd h

    no_call : takes to ≡ instr.Int80 → ⊥
    no_call e = absurd (cc e)

    falls : (g : GoAlike first (own_item (takes to)) rest s len u) → g.left.way ≡ Falls
    falls g = onward_way g.left.way (given.code.way machine_naming (takes to) 0 s.cpu s.memory g.left g.is_left) (λ e. no_call (given.code.calls machine_naming (takes to) 0 s.cpu s.memory g.left g.is_left refl e))

    goes_by : (g : GoAlike first (own_item (takes to)) rest s len u) → act (own_item (takes to)) rest s ≡ Go [] (standing_at (Inside rest) (performed g.left s))
    goes_by g = g.coded ∙ ap (λ w. onward w (own_item (takes to)) rest (performed g.left s)) (falls g)

    fault_met : act (own_item (instr.JmpTo to)) rest s ≡ Halt [] trace.MemoryFault → act (own_item (takes to)) rest s ≡ Halt [] trace.MemoryFault → Met (act (own_item (instr.JmpTo to)) rest s)
    unfolding end_of_move is_halt
    fault_met jump move = by taking
      where
        by : EndAlike (own_item (takes to)) rest s len u ⊎ GoAlike first (own_item (takes to)) rest s len u → Met (act (own_item (instr.JmpTo to)) rest s)
        by (inl e) =
            let same : e.end ≡ trace.MemoryFault = ap end_of_move (sym e.coded ∙ move) in
            let fault : step (takes to) len u ≡ Halt [] trace.MemoryFault = e.stepped ∙ ap (λ x. Halt [] x) same in
            subst Met (sym jump) (simulated_within (Halt [] trace.MemoryFault) t 6 (omega arith) (ends_met given l code blocks first trace.MemoryFault t refl awakes (ends_as given first code trace.MemoryFault t (less_by (Halt [] trace.MemoryFault) fault))))
        by (inr g) = let both : false ≡ true = ap is_halt (sym (goes_by g) ∙ move) in absurd (cc both)

    -- ---- where it goes on, the MOV takes the address to eax
    state_of_move : Move CodePosition → CodeState
    state_of_move (Stand ls e) = s
    state_of_move (Go ls p) = p.state
    state_of_move (Halt ls e) = s

    holds_beside : (w : Word) (a : ℕ) (v : State) → known w ≡ Some a → v.eip ≡ stands.q1 → AreStatesBeside first (taken s w) v → Holds given first code s a stands.q1 v
    holds_beside w a v is eip h = record {
      states = record {
        registers = lost_registers given first code s v.cpu.regs (subst (λ x. WordLessSpecified x (v.cpu.regs 4)) (given.steps.set_elsewhere 0 w s.cpu.regs 4 (λ e. absurd (omega (arith, e)))) (h.registers 4 (omega arith)));
        esp = states.esp;
        flags = record { cf = tt; pf = tt; zf = tt; sf = tt; of = tt };
        memory = h.memory;
        left = h.left;
        environment = h.environment;
      };
      eax = given.less_words.same_word ((taken s w).cpu.regs 0) (v.cpu.regs 0) a (h.registers 0 (omega arith)) (ap known (given.steps.set_there 0 w s.cpu.regs) ∙ is);
      eip = eip;
    }

    -- a number that is known on the left is one of four bytes
    known_fits : (x y : Word) (a : ℕ) → WordLessSpecified x y → known x ≡ Some a → a < 4294967296
    unfolding number cut
    known_fits x y a h is = (given.less_words.same_number 4 a x y refl h is).1

    address_holds : (w : Word) (a : ℕ) → act (own_item (takes to)) rest s ≡ Go [] (standing_at (Inside rest) (taken s w)) → known w ≡ Some a → HoldsOn given first code s a stands.q1 t × (a < 4294967296)
    unfolding finish state_of_move is_halt
    address_holds w a move is = by taking
      where
        by : EndAlike (own_item (takes to)) rest s len u ⊎ GoAlike first (own_item (takes to)) rest s len u → HoldsOn given first code s a stands.q1 t × (a < 4294967296)
        by (inl e) = let both : true ≡ false = ap is_halt (sym e.coded ∙ move) in absurd (cc both)
        by (inr g) =
            let v = at_address (t.eip + len) (processor.performed g.right u) in
            let stepped = g.stepped ∙ ap (λ x. finish x (t.eip + len) (processor.performed g.right u)) (falls g) in
            let h = goes_beside given first code [] (performed g.left s) v t (record { registers = g.registers; esp = g.esp ∙ states.esp; flags = g.flags; memory = g.memory; free = g.free; left = refl }) (less_by _ stepped) in
            let same : performed g.left s ≡ taken s w = ap state_of_move (sym (goes_by g) ∙ move) in
            let after = stands.takes.after in
            let within = stands.takes.within in
            let there : wrapped (t.eip + len) ≡ stands.q1 = omega (arith, after, within) in
            let beside = subst (λ x. AreStatesBeside first x h.state) same h.beside in (
              record {
                state = h.state;
                goes = given.runs.goes_step (next code) t [] h.state h.goes;
                holds = holds_beside w a h.state is (h.eip ∙ there) beside;
              },
              known_fits ((taken s w).cpu.regs 0) (h.state.cpu.regs 0) a (beside.registers 0 (omega arith)) (ap known (given.steps.set_there 0 w s.cpu.regs) ∙ is),
            )

    -- ---- and the others lead to the place of the address, or to the stop
    pub record ArrivesAt (place : ℕ) : Type 0 where
      pub steps : ℕ
      pub few : steps ≤ 6
      pub state : State
      pub goes : Goes (next code) t steps [] state
      pub eip : state.eip ≡ place
      pub arrived : AreStatesBeside first (lost s) state

    span_low : l.span < 4294967296
    span_low = let h = laid.span_fits in omega (arith, h)

    count_low : l.count < 4294967296
    count_low = let h = laid.span_fits in omega (arith, h)

    then_goes : (k k' : ℕ) (x y z : State) → Goes (next code) x k [] y → Goes (next code) y k' [] z → Goes (next code) x (k + k') [] z
    then_goes k k' x y z g h = given.runs.goes_then (next code) x k [] y k' [] z g h

    arrives_in : (a : ℕ) → a < 4294967296 → l.span ≤ a → a < l.span + l.count → HoldsOn given first code s a stands.q1 t → ArrivesAt (l.by_address a)
    arrives_in a low from below h1 =
        let n = less_in_span given first code s a l.span in
        let same : (4294967296 + a - l.span) % 4294967296 ≡ a - l.span = (let f = laid.span_fits in omega (arith, low, from, f)) in
        let is : l.span + n ≡ a = omega (arith, same, from) in
        let few : n < l.count = omega (arith, same, from, below) in
        let fit = laid.addresses_fit (l.span + n) in
        let h2 = sub_holds given first code s h1.state a stands.q1 l.span stands.q2 h1.holds stands.less span_low in
        let h3 = cmp_holds given first code s h2.state n stands.q2 l.count stands.q3 h2.holds stands.compares count_low in
        let h4 = passes_holds given first code s h3.state n stands.q3 l.stop stands.q4 h3.holds stands.tests (h3.carry ∙ ap (λ b. Some b) (lt-ltb n l.count few)) in
        let h5 = look_holds given first code s l table laid.table_fits h4.state n stands.q4 stands.q5 h4.holds stands.looks few fit in
        let h6 = jump_holds given first code s h5.state (l.by_address (l.span + n)) stands.q5 r h5.holds stands.jumps fit in
        record {
          steps = 6;
          few = omega arith;
          state = h6.state;
          goes = then_goes 1 5 t h1.state h6.state h1.goes (then_goes 1 4 h1.state h2.state h6.state h2.goes (then_goes 1 3 h2.state h3.state h6.state h3.goes (then_goes 1 2 h3.state h4.state h6.state h4.goes (then_goes 1 1 h4.state h5.state h6.state h5.goes h6.goes))));
          eip = h6.holds.eip ∙ ap l.by_address is;
          arrived = h6.holds.states;
        }

    arrives_out : (a : ℕ) → a < 4294967296 → (a < l.span) ⊎ (l.span + l.count ≤ a) → HoldsOn given first code s a stands.q1 t → ArrivesAt l.stop
    arrives_out a low out h1 =
        let n = less_in_span given first code s a l.span in
        let many : l.count ≤ n = beyond out in
        let h2 = sub_holds given first code s h1.state a stands.q1 l.span stands.q2 h1.holds stands.less span_low in
        let h3 = cmp_holds given first code s h2.state n stands.q2 l.count stands.q3 h2.holds stands.compares count_low in
        let h4 = stops_holds given first code s h3.state n stands.q3 l.stop stands.q4 h3.holds stands.tests (h3.carry ∙ ap (λ b. Some b) (le-ltb n l.count many)) in
        record {
          steps = 4;
          few = omega arith;
          state = h4.state;
          goes = then_goes 1 3 t h1.state h4.state h1.goes (then_goes 1 2 h1.state h2.state h4.state h2.goes (then_goes 1 1 h2.state h3.state h4.state h3.goes h4.goes));
          eip = h4.holds.eip;
          arrived = h4.holds.states;
        }
      where
        beyond : (a < l.span) ⊎ (l.span + l.count ≤ a) → l.count ≤ (4294967296 + a - l.span) % 4294967296
        beyond (inl below) = let f = laid.span_fits in omega (arith, low, below, f)
        beyond (inr above) = let f = laid.span_fits in omega (arith, low, above, f)

    arrives : (a : ℕ) → a < 4294967296 → HoldsOn given first code s a stands.q1 t → ArrivesAt (place_of_old l a)
    arrives a low h = by (ltb a l.span) (leb (l.span + l.count) a) refl refl
      where
        outside_is : (b c : Bool) → ltb a l.span ≡ b → leb (l.span + l.count) a ≡ c → place_of_old l a ≡ cond (b || c) l.stop (l.by_address a)
        outside_is b c e f = ap₂ (λ x y. cond (x || y) l.stop (l.by_address a)) e f

        by : (b c : Bool) → ltb a l.span ≡ b → leb (l.span + l.count) a ≡ c → ArrivesAt (place_of_old l a)
        by true c e f = subst ArrivesAt (sym (outside_is true c e f)) (arrives_out a low (inl (ltb-true a l.span e)) h)
        by false true e f = subst ArrivesAt (sym (outside_is false true e f)) (arrives_out a low (inr (leb-true (l.span + l.count) a f)) h)
        by false false e f = subst ArrivesAt (sym (outside_is false false e f)) (arrives_in a low (ltb-false a l.span e) (leb-false (l.span + l.count) a f) h)

    abbrev jump : Move CodePosition
    jump = act (own_item (instr.JmpTo to)) rest s

    old_met : (a : ℕ) → jump ≡ Go [] (standing_at (AtOld a) (lost s)) → ArrivesAt (place_of_old l a) → Met jump
    old_met a is h = subst Met (sym is) (record {
      steps = h.steps;
      few = h.few;
      trace = [];
      state = h.state;
      fits = refl;
      goes = h.goes;
      related = (record { position = standing_at (AtOld a) (lost s); state = h.state; beside = record { stands = h.eip; states = h.arrived } }, refl, refl);
    })

    pub jump_met : Met jump
    jump_met = by (both_take rest s to)
      where
        by_known : (w : Word) (o : Option ℕ) → known w ≡ o → jump ≡ jumped rest s true (known w) → act (own_item (takes to)) rest s ≡ moved rest s true w → Met jump
        by_known w None is j m = unspecified_met (j ∙ ap (jumped rest s true) is)
        by_known w (Some a) is j m = let h = address_holds w a m is in old_met a (j ∙ ap (jumped rest s true) is) (arrives a h.1 h.0)

        by_allowed : (b : Bool) (w : Word) → jump ≡ jumped rest s b (known w) → act (own_item (takes to)) rest s ≡ moved rest s b w → Met jump
        by_allowed false w j m = fault_met j m
        by_allowed true w j m = by_known w (known w) refl j m

        by : (jump ≡ Halt [] trace.Unspecified) × (act (own_item (takes to)) rest s ≡ Halt [] trace.Unspecified) ⊎ TakesWord rest s to → Met jump
        by (inl h) = unspecified_met h.0
        by (inr h) = by_allowed h.allowed h.word h.jump h.move
