-- One turn of a machine.
use Rattle.std.proofs.Common.{◌≡◌, ℕ, ◌∷◌, ◌++◌, Option, Some, None, Ok, Err, refl, ap, ◌∙◌}
use Rattle.std.specs.declared.alloc.AllocError.{AllocError}
use Rattle.outside.specs.Environment.{Environment}
use Rattle.traces.specs.Trace.{Turn, at_rest}
use Rattle.traces.specs.Machines.{marked}
use Rattle.mem_pages.specs.Contents.{memory_in}
use Rattle.mem_pages.specs.declared.end.RunEnd.{RunEnd}
use Rattle.mem_pages.specs.declared.end.RunEnd.TheVariants as ends
use Rattle.x86_types.specs.declared.instr.Instr.{Instr}
use Rattle.memory.specs.Memory.{Memory}
use Rattle.x86_meaning.specs.Step.{step}
use Rattle.x86_meaning.specs.Run.{machine}
use Rattle.x86_meaning.specs.StepLaws.{StepLaws}
use Rattle.x86_meaning.specs.declared.state.Cpu.{Cpu}
use Rattle.x86_step.specs.Steps.{state_of}
use Rattle.sw_host.specs.Told.{Told, Tells}
use Rattle.sw_host.specs.Chains.{tells_none, tells_map}
use Rattle.system_calls.specs.Given.{environment}
use Rattle.x86_machine.specs.declared.machine.Machine.{Machine}
use Rattle.x86_machine.specs.declared.turn.Turned.TheVariants as turned
use Rattle.x86_machine.specs.Kept.{code_by}
use Rattle.x86_machine.specs.Standing.{code_in, state_in}
use Rattle.x86_machine.specs.Running.{steps_after}
use Rattle.x86_machine.specs.Turning.{MoveGoes, MoveHalts, StepsOn, StandsAsBefore, StoodOutside, Waits, Turns}
use Rattle.x86_machine.proofs.Giving.{gives_none, gives_turn}
use Rattle.x86_machine.proofs.Moving.{never_stands}

-- the same segments have the same instructions
pub same_code : (m n : Machine) → n.code.segments ≡ m.code.segments → code_in n ≡ code_in m
unfolding code_in
same_code m n same = ap code_by same

-- the same processor and memory are the same state
same_state : (m n : Machine) → n.cpu ≡ m.cpu → memory_in n.pages ≡ memory_in m.pages → (left : Environment) → state_in n left ≡ state_in m left
unfolding state_in
same_state m n cpu memory left = ap (λ (c : Cpu). state_of c (memory_in n.pages) left) cpu ∙ ap (λ (k : Memory). state_of m.cpu k left) memory

pub as_before : (m n : Machine) → n.code.segments ≡ m.code.segments → n.cpu ≡ m.cpu → memory_in n.pages ≡ memory_in m.pages → n.steps ≡ m.steps → n.ended ≡ m.ended → StandsAsBefore m n
as_before m n code cpu memory steps ended = record { code = same_code m n code; state = same_state m n cpu memory; steps = steps; ended = ended }

-- ---- an instruction stands there
module _ (laws : StepLaws) (m n : Machine) (i : Instr) (len : ℕ) (at : code_by m.code.segments m.cpu.eip ≡ Some (i, len)) where
  -- the machine makes its step, which is a turn
  pub move_is : (left : Environment) → machine (code_in m) (state_in m left) ≡ marked m.cpu.eip (step i len (state_of m.cpu (memory_in m.pages) left))
  unfolding code_in state_in
  move_is left = ap (marked m.cpu.eip) (laws.at_instruction (code_in m) (state_in m left) i len at)

  goes_on : (a b : Told) → MoveGoes (λ left. step i len (state_of m.cpu (memory_in m.pages) left)) (state_of n.cpu (memory_in n.pages)) a b → MoveGoes (λ left. machine (code_in m) (state_in m left)) (state_in n) a b
  unfolding state_in
  goes_on a b g = record {
    answers = g.answers;
    labels = Turn m.cpu.eip ∷ g.labels;
    goes = λ rest. move_is (environment a (g.answers ++ rest)) ∙ ap (marked m.cpu.eip) (g.goes rest);
    host = gives_turn m.cpu.eip g.answers 0 g.labels a b g.host;
  }

  halts : (end : RunEnd) (a b : Told) → MoveHalts (λ left. step i len (state_of m.cpu (memory_in m.pages) left)) end a b → MoveHalts (λ left. machine (code_in m) (state_in m left)) end a b
  halts end a b g = record {
    answers = g.answers;
    labels = Turn m.cpu.eip ∷ g.labels;
    last = g.last;
    is_last = g.is_last;
    halts = λ rest. move_is (environment a (g.answers ++ rest)) ∙ ap (marked m.cpu.eip) (g.halts rest);
    host = gives_turn m.cpu.eip g.answers 0 g.labels a b g.host;
  }

  module _ (o p : Option Told) (code : n.code.segments ≡ m.code.segments) where
    pub turns_on : n.steps ≡ steps_after 1 m.steps → n.ended ≡ None → Tells o p (StepsOn i len (Ok None) m.cpu (memory_in m.pages) n.cpu (memory_in n.pages)) → Tells o p (Turns (Ok turned.On) m n)
    turns_on steps ended t = tells_map o p (StepsOn i len (Ok None) m.cpu (memory_in m.pages) n.cpu (memory_in n.pages)) (Turns (Ok turned.On) m n) t (λ a b g. record { move = goes_on a b g; code = same_code m n code; counted = steps; ended = ended })

    pub turns_last : (end : RunEnd) (d : Cpu) (k : Memory) → n.steps ≡ steps_after 1 m.steps → n.ended ≡ Some end → Tells o p (StepsOn i len (Ok (Some end)) m.cpu (memory_in m.pages) d k) → Tells o p (Turns (Ok (turned.Ended end)) m n)
    turns_last end d k steps ended t = tells_map o p (StepsOn i len (Ok (Some end)) m.cpu (memory_in m.pages) d k) (Turns (Ok (turned.Ended end)) m n) t (λ a b g. record { move = halts end a b g; code = same_code m n code; counted = steps; ended = ended })

    pub turns_wanting : (error : AllocError) → n.steps ≡ m.steps → n.ended ≡ m.ended → Tells o p (StepsOn i len (Err error) m.cpu (memory_in m.pages) n.cpu (memory_in n.pages)) → Tells o p (Turns (Err error) m n)
    turns_wanting error steps ended t = tells_map o p (StepsOn i len (Err error) m.cpu (memory_in m.pages) n.cpu (memory_in n.pages)) (Turns (Err error) m n) t (λ a b g. (as_before m n code g.0 g.1 steps ended, g.2))

  pub waits : StandsAsBefore m n → Waits m n
  waits s = record { as_before = s; awake = λ left. ap at_rest (move_is left) ∙ never_stands m.cpu.eip i len (state_of m.cpu (memory_in m.pages) left) }

-- ---- none stands there
pub stood_outside : StepLaws → (m n : Machine) → code_by m.code.segments m.cpu.eip ≡ None → n.code.segments ≡ m.code.segments → n.steps ≡ m.steps → n.ended ≡ Some ends.Outside → StoodOutside m n
unfolding code_in state_in
stood_outside laws m n at code steps ended = record {
  move = λ left. ap (marked m.cpu.eip) (laws.at_none (code_in m) (state_in m left) at);
  code = same_code m n code;
  steps = steps;
  ended = ended;
}

pub turns_outside : (o : Option Told) (m n : Machine) → StoodOutside m n → Tells o o (Turns (Ok turned.Outside) m n)
turns_outside o m n s = tells_none o (Turns (Ok turned.Outside) m n) (λ a. (s, refl))

pub turns_unfetched : (o : Option Told) (m n : Machine) (error : AllocError) → StandsAsBefore m n → Tells o o (Turns (Err error) m n)
turns_unfetched o m n error s = tells_none o (Turns (Err error) m n) (λ a. (s, record { calls = 0; host = gives_none a }))
