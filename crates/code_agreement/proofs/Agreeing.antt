-- The layers together.
use Rattle.std.proofs.Common.{◌≡◌, ◌≢◌, ℕ, zero, suc, ◌+◌, ◌*◌, ◌≤◌, List, [], ◌∷◌, Option, Some, None, refl, sym, ap, ◌∙◌, subst, arith}
use Rattle.outside.specs.Environment.{Environment, IsEnvironment}
use Rattle.traces.specs.Trace.{Label, Turn, End, Exited, OtherCall, Outside, MemoryFault, DivideFault, Guard, Stopped, Move, Stand, Go, Halt, Seen, seen, events, Behaviour, run}
use Rattle.traces.specs.Trace as trace
use Rattle.traces.specs.Machines.{marked}
use Rattle.traces.specs.Steps.{clock_of}
use Rattle.traces.specs.Simulation.{Ends, Simulates, Fits, SameEvents, Paired}
use Rattle.traces.specs.Turns.{RefinesByTurns, RefinesCut}
use Rattle.traces.specs.TurnBounds.{CostsByTurns, FollowsByTurns}
use Rattle.traces.specs.Agree.{Covers, Costs, Follows, Agrees, Agree, outside, outside_run}
use Rattle.traces.specs.RunLaws.{RunLaws}
use Rattle.traces.specs.SimulationLaws.{SimulationLaws}
use Rattle.traces.specs.BoundLaws.{BoundLaws}
use Rattle.traces.specs.CompositionLaws.{CompositionLaws}
use Rattle.traces.specs.TurnLaws.{TurnLaws}
use Rattle.memory.specs.Memory.{Memory, HasBytes, with_stack}
use Rattle.x86_code.specs.Code.{Code, code_of}
use Rattle.x86_meaning.specs.Step.{State, next}
use Rattle.x86_meaning.specs.Run.{IsStart, start_over, machine, run_from}
use Rattle.x86_meaning.specs.RunLaws.{ProgramLaws}
use Rattle.flag_ir.specs.UnitRun.{unit_run}
use Rattle.flag_ir.specs.UnitLaws.{UnitLaws}
use Rattle.cut_run.specs.CutRun.{cut_run_over}
use Rattle.private_memory.specs.PrivateArea.{IsUsual, without_private, with_private, is_apart_access, is_clear_access}
use Rattle.private_memory.specs.PrivateAreaLaws.{UsualLaws}
use Rattle.named_code.specs.Items.{CodeBlock, named_blocks, placed_blocks}
use Rattle.named_code.specs.Running.{CodePosition, Marks}
use Rattle.named_code.specs.CodeRun.{with_cells, first_position}
use Rattle.named_code.specs.TestedRun.{tested_next, tested_run}
use Rattle.named_code.specs.ApartRun.{apart_run}
use Rattle.named_code.specs.ClearRun.{clear_run}
use Rattle.named_code.specs.TestedRunLaws.{TestedRunLaws}
use Rattle.named_code.specs.Weight.{step_cost}
use Rattle.instr_choose.specs.Marks.{marks_of}
use Rattle.laid_code.specs.LaidRun.{LaidLaws, laid_steps}
use Rattle.laid_code.specs.Beginning.{HasBegun, BeginningLaws}
use Rattle.code_agreement.specs.Layers.{Layers, AreLayers, NewCodeAgrees, AgreementLaw}

pub record Given : Type 0 where
  pub units : UnitLaws
  pub beginning : BeginningLaws
  pub laid : LaidLaws
  pub tested : TestedRunLaws
  pub usual : UsualLaws
  pub bounds : BoundLaws
  pub composition : CompositionLaws
  pub turns : TurnLaws
  pub programs : ProgramLaws
  pub runs : RunLaws State
  pub itself : SimulationLaws State State State

module _ (given : Given) where
  -- ---- each step of the processor is a turn, which shows no event
  module _ (code : Code) where
    abbrev SameState : State → State → Type 0
    SameState = Paired (λ (t : State). t) (λ (t : State). t)

    fits : (ls : List Label) (e : End) (r : Seen) (ks : List Label) → r ≡ seen ks (Some e) → events ks ≡ events ls → outside e ≡ e → Fits (seen ls (Some e)) r
    fits ls e r ks is same own = record { same_events = ap (λ (x : Seen). events x.trace) is ∙ same; same_end = λ defined. ap (λ (x : Seen). x.end) is ∙ ap (λ y. Some y) (sym own) }

    own : (t : State) (n : ℕ) (e : End) → (run_from code t n).end ≡ Some e → outside e ≡ e
    own t n (Exited k) h = refl
    own t n MemoryFault h = refl
    own t n DivideFault h = refl
    own t n Outside h = refl
    own t n trace.Unspecified h = refl
    own t n (OtherCall k) h = refl
    own t n (Guard k a) h = absurd (given.programs.no_guard code t n k a h)
    own t n (Stopped a) h = absurd (given.programs.never_stop code t n a h)

    step_turns : (t : State) (m : Move State) → next code t ≡ m → Simulates (machine code) Fits SameEvents SameState 1 0 m t
    unfolding run_from
    step_turns t (Stand ls e) is =
        let same = given.runs.run_stand (machine code) t ls e (ap (marked t.eip) is) 0 in
        record { steps = 0; few = omega arith; fits = fits ls e (run (machine code) t 0) ls same refl (own t 0 e (ap (λ (x : Seen). x.end) same)) }
    step_turns t (Go ls u) is = record {
      steps = 1;
      few = omega arith;
      trace = Turn t.eip ∷ ls;
      state = u;
      fits = refl;
      goes = given.runs.goes_step (machine code) t (Turn t.eip ∷ ls) u (ap (marked t.eip) is);
      related = (u, refl, refl);
    }
    step_turns t (Halt ls e) is =
        let halts = ap (marked t.eip) is in
        let same = given.runs.run_halt (machine code) t (Turn t.eip ∷ ls) e halts 0 in
        (record { steps = 1; few = omega arith; fits = fits ls e (run (machine code) t 1) (Turn t.eip ∷ ls) same refl (own t 1 e (ap (λ (x : Seen). x.end) same)) }, given.runs.rest_halt (machine code) t (Turn t.eip ∷ ls) e halts)

    turned_follows : (t : State) → Covers (Follows 1 0) (run (next code) t) (run_from code t)
    unfolding run_from
    turned_follows t = given.itself.forward_simulation (next code) (machine code) (λ (s : State). s) (λ (s : State). s) 1 0 (λ s. step_turns s (next code s) refl) t

  -- ---- one program
  module _ (x : Layers) (layers : AreLayers x) (esp0 : ℕ) (stack : List ℕ) (left : Environment) (start : IsStart esp0 stack) (env : IsEnvironment left) where
    abbrev old : Memory
    old = x.old_memory

    abbrev usual : Memory
    usual = with_private esp0 old

    abbrev marks : Marks
    marks = marks_of x.lowered

    abbrev blocks : List CodeBlock
    blocks = placed_blocks x.placed

    abbrev cut : Behaviour
    cut = cut_run_over (code_of x.image) x.found old x.image.entry esp0 stack left

    abbrev unit : Behaviour
    unit = unit_run x.unit old x.image.entry esp0 stack left

    abbrev lowered : Behaviour
    lowered = unit_run x.lowered usual x.image.entry esp0 stack left

    abbrev apart : Behaviour
    apart = apart_run marks x.code usual x.image.entry esp0 stack left

    abbrev clear : Behaviour
    clear = clear_run marks x.placed usual x.image.entry esp0 stack left

    abbrev first : CodePosition
    first = first_position (with_stack esp0 stack (with_cells esp0 x.placed.homes usual)) x.image.entry esp0 left

    abbrev clock : ℕ → ℕ
    clock = clock_of (tested_next is_clear_access marks blocks) (step_cost laid_steps blocks) first

    abbrev new : State
    new = start_over x.memory x.entry esp0 stack left

    is_usual : IsUsual esp0 usual
    is_usual = given.usual.usual esp0 old layers.program

    usual_bytes : HasBytes usual
    usual_bytes = given.usual.bytes esp0 old layers.bytes

    cut_unit : RefinesCut 0 cut unit
    cut_unit = layers.one_stack.refines old x.image.entry esp0 stack left layers.bytes start env

    same_memory : without_private usual ≡ old
    same_memory = λ j a. given.usual.without esp0 old layers.program a j

    unit_lowered : RefinesByTurns unit lowered
    unit_lowered = subst (λ m. RefinesByTurns (unit_run x.unit m x.image.entry esp0 stack left) lowered) same_memory (layers.lowers.keeps usual x.image.entry esp0 stack left usual_bytes is_usual start env)

    lowered_apart : RefinesByTurns (outside_run lowered) apart
    lowered_apart = layers.chooses.keeps_apart layers.lowers.apart usual x.image.entry esp0 stack left usual_bytes is_usual start env

    apart_clear : RefinesByTurns apart clear
    apart_clear = layers.places_code.keeps marks usual x.image.entry esp0 stack left layers.short usual_bytes is_usual start env

    lowered_clear : RefinesByTurns (outside_run lowered) clear
    lowered_clear = given.composition.refines_then (outside_run lowered) apart clear (given.tested.grow is_apart_access marks (named_blocks x.code) usual x.image.entry esp0 stack left) lowered_apart apart_clear

    unit_costs : CostsByTurns clock 4096 0 unit clear
    unit_costs =
        given.turns.refines_then_turns clock 4096 0 unit lowered clear (given.units.runs.grow x.lowered usual x.image.entry esp0 stack left) unit_lowered
        (given.turns.code_costs clock 4096 0 lowered clear (given.tested.paced is_clear_access marks laid_steps layers.rest 4096 blocks (with_cells esp0 x.placed.homes usual) x.image.entry esp0 stack left layers.bounded) lowered_clear)

    begun : HasBegun x.places x.new blocks x.placed.homes x.image.entry x.entry esp0 stack left usual x.memory
    begun = given.beginning.begins x.places x.new blocks x.placed.homes x.cell x.image.entry x.entry esp0 stack left usual x.memory start env layers.begins (layers.can_begin esp0)

    clear_new : Covers (Costs clock 4) clear (run (next x.new) new)
    unfolding tested_run
    clear_new =
        given.runs.costs_after (next x.new) clock 0 clear new 4 begun.state begun.goes
        (given.laid.follows marks blocks x.places x.new x.memory layers.layable layers.laid layers.table first begun.state begun.beside)

    unit_new : FollowsByTurns 4096 4 unit (run (next x.new) new)
    unit_new = given.turns.turns_then_costs clock 4096 0 4 unit clear (run (next x.new) new) unit_costs clear_new

    cut_new : Covers (Agrees 4096 4) cut (run (next x.new) new)
    cut_new = given.turns.cut_then_turns 4096 4 0 cut unit (run (next x.new) new) (given.units.runs.grow x.unit old x.image.entry esp0 stack left) cut_unit unit_new

    pub agrees : Agree 4096 256 cut (run_from x.new new)
    unfolding run_from
    agrees =
        given.runs.agrees_with_run 4096 256 cut (machine x.new) new
        (given.bounds.agrees_within 4096 4 4096 256 cut (run_from x.new new) (omega arith) (omega arith)
        (given.composition.agrees_then_follows 4096 4 1 0 cut (run (next x.new) new) (run_from x.new new) cut_new (turned_follows x.new new)))

  pub law : AgreementLaw
  law x layers esp0 stack left start env = agrees x layers esp0 stack left start env
