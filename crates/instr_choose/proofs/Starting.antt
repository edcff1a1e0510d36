-- A lowered unit and its code start side by side, so that the code does by turns what the unit does.
use Rattle.std.proofs.Common.{◌≡◌, ℕ, ◌+◌, ◌-◌, ◌≤◌, ◌==◌, true, false, cond, List, [], Option, Some, None, refl, sym, ap, ◌∙◌, subst, arith}
use Rattle.std.proofs.lemmas.Bool.{le-ltb}
use Rattle.outside.specs.Environment.{Environment, IsEnvironment}
use Rattle.x86_values.specs.Words.{IsWord, word_of}
use Rattle.x86_values.specs.LessSpecified.{WordLessSpecified}
use Rattle.traces.specs.Trace.{Stopped, run}
use Rattle.traces.specs.Agree.{outside_run}
use Rattle.traces.specs.Turns.{RefinesByTurns}
use Rattle.traces.specs.Weight.{Paced, OneEvent, StartsWithNoMore}
use Rattle.memory.specs.Memory.{Memory, HasBytes, kind_of, with_stack}
use Rattle.x86_meaning.specs.Run.{IsStart, first_registers}
use Rattle.private_memory.specs.PrivateArea.{IsUsual}
use Rattle.flag_ir.specs.declared.variable.Var.{Var}
use Rattle.flag_ir.specs.declared.variable.Var.TheVariants as var
use Rattle.flag_ir.specs.declared.block.Block.{Block}
use Rattle.flag_ir.specs.Storage.{Storage, var_in}
use Rattle.flag_ir.specs.Entering.{CodeUnit, before_block, index_at}
use Rattle.flag_ir.specs.UnitRun.{Point, Before, Over, state_at, next, entered, first_storage, first_state, unit_run}
use Rattle.flag_ir.specs.Form.{IsVar}
use Rattle.named_code.specs.Items.{Item}
use Rattle.named_code.specs.Running.{AtOld}
use Rattle.named_code.specs.CodeRun.{first_register, first_places, first_state as first_code_state, blocks_run}
use Rattle.instr_choose.specs.Relation.{place_of_var, IsBelow}
use Rattle.instr_choose.specs.Blocks.{choose_blocks}
use Rattle.instr_choose.specs.Marks.{marks_of}
use Rattle.instr_choose.specs.Choosing.{chosen_costing, RefinesUnit}
use Rattle.instr_choose.specs.States.{LeadsTo, HasNoZero, ChosenPair}
use Rattle.instr_choose.proofs.Below.{nothing}
use Rattle.instr_choose.proofs.Naming.{code_blocks}
use Rattle.instr_choose.proofs.Costing.{bounds_code}
use Rattle.instr_choose.proofs.Bounding.{weight, rest, bounds_turns}
use Rattle.instr_choose.proofs.Exits.{jump_to_block}
use Rattle.instr_choose.proofs.Meets.{UnitLawsBelow, IsAsked, source, target, left, right, Both, meets}

-- ---- where the unit stands first
abbrev pub point_from : Option ℕ → ℕ → Point
point_from None entry = Over (Stopped entry)
point_from (Some k) entry = Before k

first_leads : (entry : ℕ) (blocks : List Block) (o : Option ℕ) → index_at entry blocks ≡ o → LeadsTo blocks (AtOld entry) (point_from o entry)
first_leads entry blocks None e = (e, refl)
first_leads entry blocks (Some k) e = e

entered_is : (entry : ℕ) (x : Storage) (o : Option ℕ) → entered x (before_block o (Stopped entry) x) ≡ state_at 0 (point_from o entry) x
entered_is entry x None = refl
entered_is entry x (Some k) = refl

first_closed : (m : Memory) (esp0 : ℕ) (stack : List ℕ) (env : Environment) → (first_storage m esp0 stack env).frames ≡ []
unfolding first_storage
first_closed m esp0 stack env = refl

pub first_is : (u : CodeUnit) → u.procs ≡ [] → (m : Memory) (entry esp0 : ℕ) (stack : List ℕ) (env : Environment) → first_state u m entry esp0 stack env ≡ state_at 0 (point_from (index_at entry u.whole) entry) (first_storage m esp0 stack env)
unfolding first_state
first_is u alone m entry esp0 stack env =
    let x = first_storage m esp0 stack env in
    ap (entered x) (jump_to_block u alone entry x (first_closed m esp0 stack env)) ∙ entered_is entry x (index_at entry u.whole)

-- ---- each name holds what the register of its number does
name_holds : (esp0 n : ℕ) → first_places esp0 (8 + n) ≡ first_registers esp0 n
unfolding first_places
name_holds esp0 n =
    let above : 8 ≤ 8 + n = omega arith in
    let back : 8 + n - 8 ≡ n = omega arith in
    ap (λ b. cond b (first_register (8 + n)) (first_registers esp0 (8 + n - 8))) (le-ltb (8 + n) 8 above) ∙ ap (first_registers esp0) back

module _ (laws : UnitLawsBelow) where
  first_is_word : (esp0 n : ℕ) → IsWord (first_registers esp0 n)
  first_is_word esp0 n = elim (n == 4) as (λ z. IsWord (cond z (word_of esp0) (word_of 0))) [ true ↦ laws.below.words.word_of_bytes esp0 | false ↦ laws.below.words.word_of_bytes 0 ]

  first_vars : (m : Memory) (esp0 : ℕ) (stack : List ℕ) (env : Environment) (v : Var) → IsVar 0 v → WordLessSpecified (var_in v (first_storage m esp0 stack env)) (first_places esp0 (place_of_var v))
  unfolding first_storage
  first_vars m esp0 stack env (var.Reg n) i = subst (WordLessSpecified (first_registers esp0 n)) (sym (name_holds esp0 n)) (laws.below.less.itself (first_registers esp0 n) (first_is_word esp0 n))
  first_vars m esp0 stack env (var.Flag n) i = nothing _
  first_vars m esp0 stack env (var.Temp n) i = nothing _
  first_vars m esp0 stack env (var.Local n) i = absurd (omega (arith, i))

  pub first_below : (m : Memory) (esp0 : ℕ) (stack : List ℕ) (env : Environment) → HasBytes m → IsStart esp0 stack → IsEnvironment env → IsBelow (first_storage m esp0 stack env) (first_code_state (with_stack esp0 stack m) esp0 env)
  unfolding first_storage
  first_below m esp0 stack env bytes start environment = record {
    vars = first_vars m esp0 stack env;
    memory = laws.below.memory.itself (with_stack esp0 stack m) (laws.memory.stack_has_bytes esp0 stack m start.bytes bytes);
    left = refl;
    environment = environment;
    frames = refl;
  }

  pub first_unmapped : (m : Memory) (esp0 : ℕ) (stack : List ℕ) (env : Environment) → IsUsual esp0 m → IsStart esp0 stack → HasNoZero (first_storage m esp0 stack env).memory
  unfolding first_storage
  first_unmapped m esp0 stack env usual start = ap kind_of (laws.area.stack_has esp0 stack m start (laws.area.usual_has esp0 m usual)).zero

  module _ (u : CodeUnit) (asked : IsAsked u) where
    alone : u.procs ≡ []
    alone = (asked.form.lowered asked.low).procs

    first_pair : (m : Memory) (entry esp0 : ℕ) (stack : List ℕ) (env : Environment) → HasBytes m → IsUsual esp0 m → IsStart esp0 stack → IsEnvironment env → ChosenPair u
    first_pair m entry esp0 stack env bytes usual start environment = record {
      turn = 0;
      point = point_from (index_at entry u.whole) entry;
      target = AtOld entry;
      storage = first_storage m esp0 stack env;
      state = first_code_state (with_stack esp0 stack m) esp0 env;
      leads = first_leads entry u.whole (index_at entry u.whole) refl;
      below = first_below m esp0 stack env bytes start environment;
      no_zero = first_unmapped m esp0 stack env usual start;
    }

    -- ---- the code has a weight
    abbrev one : Item → ℕ
    one x = 1

    abbrev code_weight : ℕ
    code_weight = weight (chosen_costing one) u alone

    refines_by : (p : ChosenPair u) → Paced code_weight 0 (run (target laws u asked) (right laws u asked p)) → OneEvent (run (target laws u asked) (right laws u asked p)) → RefinesByTurns (outside_run (run (next u) (left laws u asked p))) (run (target laws u asked) (right laws u asked p))
    unfolding Both
    refines_by p paced events =
        let starts : StartsWithNoMore (run (source laws u asked) (left laws u asked p)) (run (target laws u asked) (right laws u asked p)) =
        laws.code_moves.starts_by_move (target laws u asked) (run (source laws u asked) (left laws u asked p)) (right laws u asked p) (laws.code.move_event (marks_of u) (code_blocks u.whole) (right laws u asked p)) in
        laws.unit_moves.refines_outside (next u) (left laws u asked p) (run (target laws u asked) (right laws u asked p))
        ((laws.simulation u).refines_by_meeting (source laws u asked) (target laws u asked) (left laws u asked) (right laws u asked) code_weight 0 (meets laws u asked) p paced events starts)

    pub keeps : RefinesUnit u (choose_blocks u.whole)
    unfolding unit_run blocks_run left right first_pair
    keeps m entry esp0 stack env bytes usual start environment =
        let p = first_pair m entry esp0 stack env bytes usual start environment in
        let first : first_state u m entry esp0 stack env ≡ left laws u asked p = first_is u alone m entry esp0 stack env in
        let bounds = bounds_code u asked.form asked.low one code_weight (rest (chosen_costing one) u alone) (bounds_turns (chosen_costing one) u alone asked.shape) in
        let paced : Paced code_weight 0 (run (target laws u asked) (right laws u asked p)) = laws.code.paced_in_steps (marks_of u) (rest (chosen_costing one) u alone None) code_weight (code_blocks u.whole) m entry esp0 stack env bounds in
        let events : OneEvent (run (target laws u asked) (right laws u asked p)) = laws.code.one_event (marks_of u) (code_blocks u.whole) m entry esp0 stack env in
        subst (λ s. RefinesByTurns (outside_run (run (next u) s)) (run (target laws u asked) (right laws u asked p))) (sym first) (refines_by p paced events)
