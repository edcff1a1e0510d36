-- A step of an instruction, with the call that it may make.
use Rattle.std.proofs.Common.{◌≡◌, ℕ, [], ◌++◌, Option, Some, None, Ok, Err, sym, ap, ◌∙◌}
use Rattle.std.specs.declared.alloc.AllocError.{AllocError}
use Rattle.outside.specs.Environment.{Environment}
use Rattle.traces.specs.Trace.{End, Go}
use Rattle.mem_pages.specs.Ends.{end_of_run}
use Rattle.mem_pages.specs.declared.end.RunEnd.{RunEnd}
use Rattle.memory.specs.Memory.{Memory}
use Rattle.x86_types.specs.declared.instr.Instr.{Instr}
use Rattle.x86_meaning.specs.declared.state.Cpu.{Cpu}
use Rattle.x86_meaning.specs.Step.{step}
use Rattle.x86_meaning.specs.StepLaws.{StepLaws}
use Rattle.x86_step.specs.Steps.{state_of, HaltsWith, IsCall, Stays}
use Rattle.sw_host.specs.Told.{Told, Tells}
use Rattle.sw_host.specs.Chains.{tells_none, tells_map}
use Rattle.system_calls.specs.Given.{environment}
use Rattle.x86_machine.specs.Turning.{called_from, CallsOn, StepsOn}
use Rattle.x86_machine.proofs.Giving.{gives_none}

module _ (o p : Option Told) (i : Instr) (len : ℕ) (c d : Cpu) (m n : Memory) where
  pub stays : (e : AllocError) → Stays c m d n → Tells o o (StepsOn i len (Err e) c m d n)
  stays e s = tells_none o (StepsOn i len (Err e) c m d n) (λ a. (s.cpu, s.memory, record { calls = 0; host = gives_none a }))

  pub nexts : ((left : Environment) → step i len (state_of c m left) ≡ Go [] (state_of d n left)) → Tells o o (StepsOn i len (Ok None) c m d n)
  nexts h = tells_none o (StepsOn i len (Ok None) c m d n) (λ a. record { answers = []; labels = []; goes = λ rest. h (environment a rest); host = gives_none a })

  pub halts : (end : RunEnd) (last : End) → end_of_run end ≡ Some last → HaltsWith i len last c m d n → Tells o o (StepsOn i len (Ok (Some end)) c m d n)
  halts end last is h = tells_none o (StepsOn i len (Ok (Some end)) c m d n) (λ a. record { answers = []; labels = []; last = last; is_last = is; halts = λ rest. h.halts (environment a rest); host = gives_none a })

  -- the step of a call is the call, where eip has moved on
  step_of_call : StepLaws → (k : Memory) (e : Cpu) → IsCall i len c m e k → (left : Environment) → step i len (state_of c m left) ≡ called_from e k left
  step_of_call laws k e s left =
      ap (λ (j : Instr). step j len (state_of c m left)) s.is_call ∙ laws.call len (state_of c m left) ∙ ap (λ (x : Cpu). called_from x m left) (sym s.cpu) ∙ ap (λ (x : Memory). called_from e x left) (sym s.memory)

  by_call : StepLaws → (k : Memory) (e : Cpu) → IsCall i len c m e k → (r : Option RunEnd) (a b : Told) → CallsOn (Ok r) e k d n a b → StepsOn i len (Ok r) c m d n a b
  by_call laws k e s None a b g = record { answers = g.answers; labels = g.labels; goes = λ rest. step_of_call laws k e s (environment a (g.answers ++ rest)) ∙ g.goes rest; host = g.host }
  by_call laws k e s (Some end) a b g = record { answers = g.answers; labels = g.labels; last = g.last; is_last = g.is_last; halts = λ rest. step_of_call laws k e s (environment a (g.answers ++ rest)) ∙ g.halts rest; host = g.host }

  pub calls : StepLaws → (k : Memory) (e : Cpu) (r : Option RunEnd) → IsCall i len c m e k → Tells o p (CallsOn (Ok r) e k d n) → Tells o p (StepsOn i len (Ok r) c m d n)
  calls laws k e r s t = tells_map o p (CallsOn (Ok r) e k d n) (StepsOn i len (Ok r) c m d n) t (by_call laws k e s r)

-- where memory was wanting for a call, eip is put back
pub put_back : (o p : Option Told) (i : Instr) (len : ℕ) (c d : Cpu) (m n k : Memory) (e : Cpu) (error : AllocError) → IsCall i len c m e k → Tells o p (CallsOn (Err error) e k d n) → Tells o p (StepsOn i len (Err error) c m (record d { eip = c.eip }) n)
put_back o p i len c d m n k e error s t = tells_map o p (CallsOn (Err error) e k d n) (StepsOn i len (Err error) c m (record d { eip = c.eip }) n) t
    (λ a b w. (ap (λ (x : Cpu). record x { eip = c.eip }) (w.0 ∙ s.cpu), w.1 ∙ s.memory, w.2))
