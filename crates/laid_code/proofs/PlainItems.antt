-- The items that aren't jumps, and jumps to blocks: each is met by one step of the processor.
use Rattle.std.proofs.Common.{◌≡◌, ◌≢◌, ◌⊎◌, inl, inr, ℕ, ◌+◌, Bool, true, false, List, [], All, Contains, map, Option, Some, None, refl, sym, ap, ◌∙◌, subst, arith}
use Rattle.x86_values.specs.Conditions.{condition}
use Rattle.traces.specs.Trace.{Label, End, Move, Go, Halt}
use Rattle.traces.specs.Trace as trace
use Rattle.memory.specs.Memory.{Memory, wrapped}
use Rattle.memory.specs.CallLaws.{is_own_end}
use Rattle.x86_types.specs.declared.operand.Reg.TheVariants.{Esp}
use Rattle.x86_types.specs.declared.operation.Cond.{Cond}
use Rattle.x86_types.specs.declared.instr.Instr.{Instr}
use Rattle.x86_types.specs.declared.instr.Instr.TheVariants as instr
use Rattle.x86_code.specs.Code.{Code}
use Rattle.x86_meaning.specs.Registers.{machine_naming}
use Rattle.x86_meaning.specs.Outcomes.{Way, Falls, JumpsBy, JumpsTo, Repeats, Calls}
use Rattle.x86_meaning.specs.Transfers.{transfer}
use Rattle.x86_meaning.specs.Computing.{compute}
use Rattle.x86_meaning.specs.Effect.{accesses, effect}
use Rattle.x86_meaning.specs.Step.{State, settled, at_address, request_of, with_result, finish, step, next}
use Rattle.x86_meaning.specs.Step as processor
use Rattle.x86_meaning.specs.LessSpecified.{MoveLessSpecified}
use Rattle.private_memory.specs.PrivateArea.{is_clear_access}
use Rattle.field_places.specs.Fields.{fields}
use Rattle.named_code.specs.Items.{Item, CodeBlock, own_item}
use Rattle.named_code.specs.Running.{CodeState, CodePoint, AtNumber, Inside, CodePosition, standing_at, onward, performed, act}
use Rattle.named_code.specs.Form.{IsStackless}
use Rattle.named_code.specs.Weight.{Next, course_of, IsWayOf}
use Rattle.laid_code.specs.Laid.{Places, Stands, Leads, Lies, IsLayable}
use Rattle.laid_code.specs.LaidRun.{AreStatesBeside, StandsAt}
use Rattle.laid_code.proofs.Given.{Given}
use Rattle.laid_code.proofs.Acting.{alone, EndAlike, GoAlike, both_moves}
use Rattle.laid_code.proofs.Stepping.{IsAlone, is_alone, less_move, goes_beside, ends_as}
use Rattle.laid_code.proofs.Moving.{Simulated, awake, goes_met, ends_met}

module _ (given : Given) (l : Places) (code : Code) (blocks : List CodeBlock) (first : Memory) (s : CodeState) (t : State) (states : AreStatesBeside first s t) where
  abbrev numbers : List ℕ
  numbers = map (λ (b : CodeBlock). b.number) blocks

  abbrev u : State
  u = alone first s t.eip

  abbrev Met : Move CodePosition → Type 0
  Met m = Simulated given l code blocks first 1 m t

  abbrev Inside_at : List Item → ℕ → Type 0
  Inside_at rest q = Lies l code q rest × All (IsLayable numbers) rest

  abbrev alone_now : IsAlone first s u
  alone_now = is_alone given first code s t states

  -- a move whose step over the registers alone settles
  pub settled_met : (i : Instr) (len : ℕ) (m : Move CodePosition) (ls : List Label) (point : CodePoint) (s' : CodeState) (w : State) → code t.eip ≡ Some (i, len) → m ≡ Go ls (standing_at point s') → step i len u ≡ settled ls w → IsAlone first s' w → StandsAt l code blocks point w.eip → Met m
  settled_met i len m ls point s' w is goes steps h stands =
      let less = subst (λ x. MoveLessSpecified x (next code t)) steps (less_move given first code s t i len is states) in
      subst Met (sym goes) (goes_met given l code blocks first ls point s' w.eip t (goes_beside given first code ls s' w t h less) stands)

  -- or halts
  pub halted_met : (i : Instr) (len : ℕ) (m : Move CodePosition) (e : End) → code t.eip ≡ Some (i, len) → m ≡ Halt [] e → step i len u ≡ Halt [] e → is_own_end e ≡ true → Met m
  halted_met i len m e is halts steps own =
      let less = subst (λ x. MoveLessSpecified x (next code t)) steps (less_move given first code s t i len is states) in
      subst Met (sym halts) (ends_met given l code blocks first e t own (awake given l code blocks first t i len is) (ends_as given first code e t less))

  -- the place behind an instruction
  pub behind : (i : Instr) (r : ℕ) (h : Stands code t.eip i r) → wrapped (t.eip + h.len) ≡ r
  behind i r h = let a = h.after in let w = h.within in omega (arith, a, w)

  -- ---- an instruction behind which the next one follows
  pub plain_met : (i : Instr) (r : ℕ) (rest : List Item) → Stands code t.eip i r → Inside_at rest r → All (λ f. f.register ≢ Esp) (fields i) → IsStackless i → course_of i ≡ Next → (i ≡ instr.Int80 → ⊥)
      → All (λ a. is_clear_access s.memory a ≡ true) (accesses machine_naming i s.cpu.regs) → Met (act (own_item i) rest s)
  unfolding finish
  plain_met i r rest stands inside no_esp stackless next_course other clear = by (both_moves given first i rest s t.eip stands.len states.memory.free no_esp stackless clear)
    where
      falls : (g : GoAlike first (own_item i) rest s stands.len u) → g.left.way ≡ Falls → Met (act (own_item i) rest s)
      falls g way =
          let w = at_address (t.eip + stands.len) (processor.performed g.right u) in
          settled_met i stands.len (act (own_item i) rest s) [] (Inside rest) (performed g.left s) w stands.is
          (g.coded ∙ ap (λ x. onward x (own_item i) rest (performed g.left s)) way)
          (g.stepped ∙ ap (λ x. finish x (t.eip + stands.len) (processor.performed g.right u)) way)
          (record { registers = g.registers; esp = g.esp ∙ states.esp; flags = g.flags; memory = g.memory; free = g.free; left = refl })
          (subst (Inside_at rest) (sym (behind i r stands)) inside)

      ways : (g : GoAlike first (own_item i) rest s stands.len u) (w : Way) → g.left.way ≡ w → IsWayOf Next w → Met (act (own_item i) rest s)
      ways g Falls is h = falls g is
      ways g Calls is h = absurd (other (given.code.calls machine_naming i 0 s.cpu s.memory g.left g.is_left next_course is))
      ways g (JumpsBy by) is h = absurd h
      ways g (JumpsTo at) is h = absurd h
      ways g Repeats is h = absurd h

      by : EndAlike (own_item i) rest s stands.len u ⊎ GoAlike first (own_item i) rest s stands.len u → Met (act (own_item i) rest s)
      by (inl e) = halted_met i stands.len (act (own_item i) rest s) e.end stands.is e.coded e.stepped e.own
      by (inr g) = ways g g.left.way refl (subst (λ k. IsWayOf k g.left.way) next_course (given.code.way machine_naming i 0 s.cpu s.memory g.left g.is_left))

  -- ---- a jump to a block
  jmp_acts : (n : ℕ) (rest : List Item) → act (own_item (instr.Jmp n)) rest s ≡ Go [] (standing_at (AtNumber n) s)
  unfolding act accesses transfer effect compute
  jmp_acts n rest = refl

  moved_alone : (q : ℕ) → IsAlone first s (at_address q u)
  moved_alone q = record { registers = alone_now.registers; esp = states.esp; flags = refl; memory = λ a. refl; free = states.memory.free; left = refl }

  led : (r by to len : ℕ) → r ≡ t.eip + len → wrapped (r + by) ≡ to → wrapped (t.eip + len + by) ≡ to
  led r by to len e h = subst (λ x. wrapped (x + by) ≡ to) e h

  pub jmp_met : (n r : ℕ) (rest : List Item) → Leads code t.eip instr.Jmp r (l.by_number n) → Contains numbers n → Met (act (own_item (instr.Jmp n)) rest s)
  jmp_met n r rest h there =
      settled_met (instr.Jmp h.by) h.stands.len (act (own_item (instr.Jmp n)) rest s) [] (AtNumber n) s (at_address (t.eip + h.stands.len + h.by) u) h.stands.is (jmp_acts n rest) (given.steps.jump h.by h.stands.len u) (moved_alone _)
      (there, led r h.by (l.by_number n) h.stands.len h.stands.after h.leads)

  -- ---- one with a condition
  abbrev branch : Option Bool → ℕ → List Item → Move CodePosition
  branch None n rest = Halt [] trace.Unspecified
  branch (Some true) n rest = Go [] (standing_at (AtNumber n) s)
  branch (Some false) n rest = Go [] (standing_at (Inside rest) s)

  abbrev branched : Option Bool → ℕ → ℕ → Move State
  branched None by len = Halt [] trace.Unspecified
  branched (Some true) by len = settled [] (at_address (t.eip + len + by) u)
  branched (Some false) by len = settled [] (at_address (t.eip + len) u)

  jcc_acts : (c : Cond) (n : ℕ) (rest : List Item) (o : Option Bool) → condition c s.cpu.flags ≡ o → act (own_item (instr.Jcc c n)) rest s ≡ branch o n rest
  unfolding act accesses transfer effect compute
  jcc_acts c n rest None e = rw e refl
  jcc_acts c n rest (Some true) e = rw e refl
  jcc_acts c n rest (Some false) e = rw e refl

  jcc_steps : (c : Cond) (by len : ℕ) (o : Option Bool) → condition c s.cpu.flags ≡ o → step (instr.Jcc c by) len u ≡ branched o by len
  unfolding step accesses transfer effect compute finish
  jcc_steps c by len None e = rw e refl
  jcc_steps c by len (Some true) e = rw e refl
  jcc_steps c by len (Some false) e = rw e refl

  pub jcc_met : (c : Cond) (n r : ℕ) (rest : List Item) → Leads code t.eip (instr.Jcc c) r (l.by_number n) → Inside_at rest r → Contains numbers n → Met (act (own_item (instr.Jcc c n)) rest s)
  jcc_met c n r rest h inside there = by (condition c s.cpu.flags) refl
    where
      by : (o : Option Bool) → condition c s.cpu.flags ≡ o → Met (act (own_item (instr.Jcc c n)) rest s)
      by None e = halted_met (instr.Jcc c h.by) h.stands.len (act (own_item (instr.Jcc c n)) rest s) trace.Unspecified h.stands.is (jcc_acts c n rest None e) (jcc_steps c h.by h.stands.len None e) refl
      by (Some true) e =
          settled_met (instr.Jcc c h.by) h.stands.len (act (own_item (instr.Jcc c n)) rest s) [] (AtNumber n) s (at_address (t.eip + h.stands.len + h.by) u) h.stands.is (jcc_acts c n rest (Some true) e) (jcc_steps c h.by h.stands.len (Some true) e) (moved_alone _)
          (there, led r h.by (l.by_number n) h.stands.len h.stands.after h.leads)
      by (Some false) e =
          settled_met (instr.Jcc c h.by) h.stands.len (act (own_item (instr.Jcc c n)) rest s) [] (Inside rest) s (at_address (t.eip + h.stands.len) u) h.stands.is (jcc_acts c n rest (Some false) e) (jcc_steps c h.by h.stands.len (Some false) e) (moved_alone _)
          (subst (Inside_at rest) (sym (behind (instr.Jcc c h.by) r h.stands)) inside)
