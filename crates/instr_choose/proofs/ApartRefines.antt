-- The run of the code that ends at an access that isn't apart does by turns what the unit does.
use Rattle.std.proofs.Common.{◌≡◌, ◌⊎◌, ℕ, ◌+◌, ◌-◌, true, false, List, ◌++◌, All, sym, ap, ◌∙◌, inl, inr, arith}
use Rattle.outside.specs.Environment.{Environment, IsEnvironment}
use Rattle.traces.specs.Trace.{Behaviour, Seen, IsPrefix, before, run}
use Rattle.traces.specs.Agree.{outside_run}
use Rattle.traces.specs.Turns.{RefinesByTurns}
use Rattle.memory.specs.Memory.{Memory, HasBytes, with_stack}
use Rattle.x86_meaning.specs.Run.{IsStart}
use Rattle.private_memory.specs.PrivateArea.{IsUsual, IsApartAccess, is_apart_access}
use Rattle.flag_ir.specs.Entering.{CodeUnit}
use Rattle.flag_ir.specs.UnitRun.{unit_run}
use Rattle.named_code.specs.Items.{CodeBlock}
use Rattle.named_code.specs.Running.{CodePosition, code_next}
use Rattle.named_code.specs.CodeRun.{first_position, blocks_run}
use Rattle.named_code.specs.TestedRun.{position_accesses, turn_at, tested_run, EndsAtAccess, SameUpToAccess}
use Rattle.instr_choose.specs.Blocks.{choose_blocks}
use Rattle.instr_choose.specs.Marks.{marks_of}
use Rattle.instr_choose.specs.Apart.{UnitIsApart, HasUsedUnspecified}
use Rattle.instr_choose.specs.Choosing.{RefinesUnitApart}
use Rattle.instr_choose.proofs.Naming.{code_blocks}
use Rattle.instr_choose.proofs.Meets.{UnitLawsBelow, IsAsked}
use Rattle.instr_choose.proofs.Starting.{keeps}
use Rattle.instr_choose.proofs.ApartRuns.{stays_apart}
use Rattle.instr_choose.proofs.EarlyEnds.{outside_grows, outside_used, EndsEarly, refines_early}

module _ (laws : UnitLawsBelow) where
  module _ (u : CodeUnit) (asked : IsAsked u) (apart : UnitIsApart u) (m : Memory) (entry esp0 : ℕ) (stack : List ℕ) (env : Environment) (bytes : HasBytes m) (usual : IsUsual esp0 m) (start : IsStart esp0 stack) (environment : IsEnvironment env) where
    abbrev code : List CodeBlock
    code = code_blocks u.whole

    abbrev first : CodePosition
    first = first_position (with_stack esp0 stack m) entry esp0 env

    abbrev unit : Behaviour
    unit = unit_run u m entry esp0 stack env

    abbrev plain : Behaviour
    plain = blocks_run (marks_of u) code m entry esp0 stack env

    abbrev keeping : Behaviour
    keeping = tested_run is_apart_access (marks_of u) code m entry esp0 stack env

    has_used : (n : ℕ) (h : EndsAtAccess is_apart_access (marks_of u) code first n) → HasUsedUnspecified unit (h.shown ++ turn_at (marks_of u) code h.position.point)
    has_used n h = cases (stays_apart laws u asked apart m entry esp0 stack env bytes usual start environment h.steps h.shown h.position h.reaches)
      where
        cases : All (IsApartAccess h.position.state.memory) (position_accesses code h.position) ⊎ HasUsedUnspecified unit (h.shown ++ turn_at (marks_of u) code h.position.point)
            → HasUsedUnspecified unit (h.shown ++ turn_at (marks_of u) code h.position.point)
        cases (inl all) = let no : true ≡ false = sym (laws.tested.apart_passes code h.position all) ∙ h.reached in absurd cc
        cases (inr used) = used

    begins : (n : ℕ) (h : EndsAtAccess is_apart_access (marks_of u) code first n) → IsPrefix h.shown (plain n).trace
    unfolding blocks_run
    begins n h =
        let left : h.steps + (n - h.steps) ≡ n = omega (arith, h.before) in
        let whole : plain n ≡ before h.shown (run (code_next (marks_of u) code) h.position (n - h.steps)) = ap plain (sym left) ∙ laws.code_runs.reaches_run (code_next (marks_of u) code) first h.steps h.shown h.position h.reaches (n - h.steps) in
        ((run (code_next (marks_of u) code) h.position (n - h.steps)).trace, ap (λ (s : Seen). s.trace) whole)

    early : (n : ℕ) → EndsAtAccess is_apart_access (marks_of u) code first n → EndsEarly (outside_run unit) plain keeping n
    unfolding tested_run
    early n h = record {
      steps = h.steps;
      shown = h.shown;
      turned = turn_at (marks_of u) code h.position.point;
      running = h.running;
      ended = h.ended;
      quiet = laws.tested.turn_is_quiet (marks_of u) code h.position.point;
      first = begins n h;
      used = outside_used unit (h.shown ++ turn_at (marks_of u) code h.position.point) (has_used n h);
    }

    same_or_early : (n : ℕ) → (keeping n ≡ plain n) ⊎ EndsEarly (outside_run unit) plain keeping n
    unfolding blocks_run tested_run
    same_or_early n = cases (laws.tested.same_up_to is_apart_access (marks_of u) code first n)
      where
        cases : SameUpToAccess is_apart_access (marks_of u) code first n → (keeping n ≡ plain n) ⊎ EndsEarly (outside_run unit) plain keeping n
        cases (inl e) = inl e
        cases (inr h) = inr (early n h)

    refines : RefinesByTurns (outside_run unit) keeping
    refines =
        refines_early laws.traces laws.meetings (outside_run unit) plain keeping (outside_grows unit (laws.units.runs.grow u m entry esp0 stack env)) same_or_early
        (keeps laws u asked m entry esp0 stack env bytes usual start environment)

  pub keeps_apart : (u : CodeUnit) → IsAsked u → RefinesUnitApart u (choose_blocks u.whole)
  keeps_apart u asked apart m entry esp0 stack env bytes usual start environment = refines u asked apart m entry esp0 stack env bytes usual start environment
