-- What code does from the beginning of a block on: it goes through the list of the operations and then through that of the exit.
use Rattle.std.proofs.Common.{◌≡◌, ℕ, suc, ◌==◌, Bool, true, false, cond, List, [], ◌∷◌, ◌++◌, Option, Some, None, Result, Ok, Err, refl, sym, ap, ◌∙◌}
use Rattle.traces.specs.Trace.{Label, Turn, End, Move, Stand, before, Outside}
use Rattle.traces.specs.Steps.{Reaches, rests, goes}
use Rattle.traces.specs.Machines.{marked}
use Rattle.traces.specs.RunLaws.{RunLaws}
use Rattle.memory.specs.Memory.{Load, Store}
use Rattle.memory.specs.SystemCall.{Called, Ends, Gives, system_call}
use Rattle.x86_meaning.specs.declared.stop.Stop.{Stop}
use Rattle.x86_meaning.specs.Outcomes.{Way, Falls, JumpsBy, JumpsTo, Repeats, Calls}
use Rattle.x86_meaning.specs.Effect.{Effect, accesses, effect}
use Rattle.x86_meaning.specs.Step.{all_allowed, request_of}
use Rattle.named_code.specs.Items.{Item, CodeBlock}
use Rattle.named_code.specs.Running.{CodeState, CodePoint, AtNumber, AtOld, Inside, CodePosition, standing_at, after_call, onward, performed, by_stores, by_loads, act, goes_on, block_of_number, block_at, Marks, begun, code_next}
use Rattle.instr_choose.specs.Relation.{PassesList, done, more, ListEnds, here, later}
use Rattle.instr_choose.proofs.Beginnings.{IsStep, advances, halts, Begins, same, turn, RunEnds}
use Rattle.named_code.specs.TestedRun.{turn_shown}

-- ---- each item is a step
called_steps : (c : Called) (rest : List Item) (s : CodeState) → IsStep (after_call c rest s)
called_steps (Ends e) rest s = halts [] e refl
called_steps (Gives labels result stores left) rest s = advances labels _ refl

onward_steps : (w : Way) (x : Item) (rest : List Item) (s : CodeState) → IsStep (onward w x rest s)
onward_steps Falls x rest s = advances [] _ refl
onward_steps (JumpsBy by) x rest s = advances [] _ refl
onward_steps (JumpsTo at) x rest s = advances [] _ refl
onward_steps Repeats x rest s = advances [] _ refl
onward_steps Calls x rest s = called_steps (system_call (request_of s.cpu) s.memory s.left) rest s

stores_steps : (b : Bool) (e : Effect) (x : Item) (rest : List Item) (s : CodeState) → IsStep (by_stores b e x rest s)
stores_steps false e x rest s = halts [] _ refl
stores_steps true e x rest s = onward_steps e.way x rest (performed e s)

loads_steps : (a b : Bool) (r : Result Effect Stop) (x : Item) (rest : List Item) (s : CodeState) → IsStep (by_loads a b r x rest s)
loads_steps false b r x rest s = halts [] _ refl
loads_steps true b (Err stop) x rest s = halts [] _ refl
loads_steps true b (Ok e) x rest s = stores_steps b e x rest s

pub act_steps : (x : Item) (rest : List Item) (s : CodeState) → IsStep (act x rest s)
unfolding act
act_steps x rest s =
    let made = accesses x.naming x.instr s.cpu.regs in
    loads_steps (all_allowed Load made s.memory) (all_allowed Store made s.memory) (effect x.naming x.instr 0 s.cpu s.memory) x rest s

module _ (runs : RunLaws CodePosition) (marks : Marks) (code : List CodeBlock) where
  abbrev pub machine : CodePosition → Move CodePosition
  machine = code_next marks code

  abbrev pub within : List Item → CodeState → CodePosition
  within items s = standing_at (Inside items) s

  pub inside_is : (items : List Item) (s : CodeState) → machine (within items s) ≡ goes_on items s
  unfolding code_next
  inside_is items s = refl

  -- ---- lists
  pub passes_reach : (xs rest : List Item) (s t : CodeState) (ls : List Label) → PassesList xs s ls t → (n : ℕ) × Reaches machine (within (xs ++ rest) s) n ls (within rest t)
  passes_reach _ rest s t _ (done _) = (0, rests (within rest s))
  passes_reach _ rest s t _ (more x xs _ ls m js _ h p) =
      let behind = passes_reach xs rest m t js p in
      (suc behind.0, goes (within (x ∷ (xs ++ rest)) s) ls (within (xs ++ rest) m) behind.0 js (within rest t) (inside_is (x ∷ (xs ++ rest)) s ∙ h (xs ++ rest)) behind.1)

  pub fails_ends : (xs rest : List Item) (s : CodeState) (e : End) → ListEnds xs s e → RunEnds machine (within (xs ++ rest) s) [] e
  fails_ends _ rest s e (here x xs _ _ h) = record { steps = 0; ends = runs.run_halt machine (within (x ∷ (xs ++ rest)) s) [] e (inside_is (x ∷ (xs ++ rest)) s ∙ h (xs ++ rest)) 0 }
  fails_ends _ rest s e (later x xs _ t _ h f) =
      let behind = fails_ends xs rest t e f in
      record {
        steps = suc behind.steps;
        ends = runs.run_go machine (within (x ∷ (xs ++ rest)) s) [] (within (xs ++ rest) t) (inside_is (x ∷ (xs ++ rest)) s ∙ h (xs ++ rest)) (suc behind.steps) ∙ ap (before []) behind.ends;
      }

  -- ---- the block that a jump finds
  abbrev pub found : CodePoint → Option CodeBlock
  found (AtNumber n) = block_of_number n code
  found (AtOld a) = block_at a code
  found (Inside items) = None

  abbrev pub IsJump : CodePoint → Type 0
  IsJump (AtNumber n) = Unit {0}
  IsJump (AtOld a) = Unit {0}
  IsJump (Inside items) = ⊥

  begun_at : (p : CodePoint) (s : CodeState) → IsJump p → machine (standing_at p s) ≡ begun marks (found p) s
  unfolding code_next
  begun_at (AtNumber n) s j = refl
  begun_at (AtOld a) s j = refl
  begun_at (Inside items) s j = absurd j

  pub no_block : (p : CodePoint) (s : CodeState) → IsJump p → found p ≡ None → machine (standing_at p s) ≡ Stand [] Outside
  no_block p s j e = begun_at p s j ∙ ap (λ o. begun marks o s) e

  pub block_begins : (p : CodePoint) (s : CodeState) (b : CodeBlock) → IsJump p → found p ≡ Some b → Begins machine (standing_at p s) (within b.items s) (turn_shown (marks b.number))
  block_begins p s b j e = by (marks b.number == 0) (begun_at p s j ∙ ap (λ o. begun marks o s) e)
    where
      by : (z : Bool) → machine (standing_at p s) ≡ cond z (goes_on b.items s) (marked (marks b.number) (goes_on b.items s)) → Begins machine (standing_at p s) (within b.items s) (cond z [] (Turn (marks b.number) ∷ []))
      by true h = same (h ∙ sym (inside_is b.items s))
      by false h = turn (marks b.number) (h ∙ ap (marked (marks b.number)) (sym (inside_is b.items s)))
