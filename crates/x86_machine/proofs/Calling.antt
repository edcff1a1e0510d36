-- The step of a system call, where eip has moved on.
use Rattle.std.proofs.Common.{◌≡◌, ℕ, zero, suc, ◌<◌, eqb, List, [], ◌∷◌, ◌++◌, length, get_or, set, Option, Some, None, Ok, Err, refl, sym, ap, ◌∙◌, subst, arith}
use Rattle.std.proofs.lemmas.Bool.{cond-false, ne_eqb}
use Rattle.std.specs.declared.alloc.AllocError.{AllocError}
use Rattle.outside.specs.declared.answer.Answer.{Answer}
use Rattle.outside.specs.Environment.{Environment}
use Rattle.traces.specs.Trace.{End, Go, Halt, Unspecified}
use Rattle.mem_pages.specs.Ends.{end_of_run}
use Rattle.mem_pages.specs.declared.end.RunEnd.{RunEnd}
use Rattle.mem_pages.specs.declared.end.RunEnd.TheVariants as ends
use Rattle.x86_values.specs.declared.word.Word.{Word}
use Rattle.x86_values.specs.Words.{word_of, known}
use Rattle.memory.specs.Memory.{Memory, forget_below}
use Rattle.memory.specs.SystemCall.{Request, system_call}
use Rattle.x86_meaning.specs.declared.state.Cpu.{Cpu}
use Rattle.x86_meaning.specs.Registers.{Registers, with_register}
use Rattle.x86_meaning.specs.Step.{State, after_call, settled, settled_by, with_result}
use Rattle.x86_step.specs.Steps.{registers_of, state_of}
use Rattle.sw_host.specs.Told.{Told, Tells}
use Rattle.sw_host.specs.Chains.{tells_map}
use Rattle.system_calls.specs.declared.outcome.CallOutcome.{CallOutcome}
use Rattle.system_calls.specs.declared.outcome.CallOutcome.TheVariants as outcome
use Rattle.system_calls.specs.Given.{environment, HasGiven}
use Rattle.system_calls.specs.Making.{EndsAs, GivesResult, Makes}
use Rattle.x86_machine.specs.Turning.{asked, MoveGoes, MoveHalts, called_from, CallsOn}
use Rattle.x86_machine.proofs.Giving.{gives_none}

-- ---- registers
reg_set : (regs : List Word) (w : Word) → 0 < length regs → (k : ℕ) → get_or (set regs 0 w) k (word_of 0) ≡ with_register 0 w (registers_of regs) k
unfolding with_register
reg_set [] w h k = absurd (omega (arith, h))
reg_set (r ∷ rs) w h zero = refl
reg_set (r ∷ rs) w h (suc k) = sym (cond-false (eqb (suc k) 0) w (get_or rs k (word_of 0)) (ne_eqb (suc k) 0 (λ e. absurd (omega (arith, e)))))

pub regs_set : (regs : List Word) (w : Word) → 0 < length regs → registers_of (set regs 0 w) ≡ with_register 0 w (registers_of regs)
regs_set regs w h = λ i k. reg_set regs w h k i

-- ---- what the call comes to
pub call_ends : (c : Cpu) (m n : Memory) (end : RunEnd) (o : Option End) (a b : Told) → end_of_run end ≡ o → EndsAs o (system_call (asked c) m) m n a b → MoveHalts (called_from c m) end a b
call_ends c m n end None a b is h = absurd h
call_ends c m n end (Some last) a b is h = record {
  answers = [];
  labels = [];
  last = last;
  is_last = is;
  halts = λ rest. ap (λ called. after_call called (state_of c m (environment a rest))) (h.ends rest);
  host = subst (λ (t : Told). HasGiven [] 0 [] a t) (sym h.host) (gives_none a);
}

-- the result stands in eax, and the other registers, the flags and eip stay
pub record IsResult (result : ℕ) (c d : Cpu) : Type 0 where
  pub regs : registers_of d.regs ≡ with_register 0 (word_of result) (registers_of c.regs)
  pub cpu : d ≡ record c { regs = d.regs }

result_state : (c d : Cpu) (result : ℕ) (m : Memory) (left : Environment) → IsResult result c d → record { cpu = with_result result (state_of c m left).cpu; eip = c.eip; memory = m; left = left } ≡ state_of d m left
result_state c d result m left h = sym (ap (λ (x : Cpu). state_of x m left) h.cpu ∙ ap (λ (regs : Registers). record { cpu = record { regs = regs; flags = c.flags }; eip = c.eip; memory = m; left = left }) h.regs)

module _ (c d : Cpu) (m n : Memory) (result : ℕ) (a b : Told) (is : IsResult result c d) (g : GivesResult (system_call (asked c) m) result m n a b) where
  settles : (rest : List Answer) → called_from c m (environment a (g.answers ++ rest)) ≡ settled g.labels (state_of d n (environment b rest))
  settles rest =
      let from : State = state_of c m (environment a (g.answers ++ rest)) in
      ap (λ called. after_call called from) (g.gives rest) ∙ ap (λ (k : Memory). settled g.labels (record { cpu = with_result result from.cpu; eip = c.eip; memory = k; left = environment b rest })) (sym g.memory) ∙ ap (settled g.labels) (result_state c d result n (environment b rest) is)

  settled_none : (s : State) → known (s.cpu.regs 4) ≡ None → settled g.labels s ≡ Halt g.labels Unspecified
  unfolding settled
  settled_none s e = ap (λ o. settled_by o g.labels s) e

  settled_some : (s : State) (esp : ℕ) → known (s.cpu.regs 4) ≡ Some esp → settled g.labels s ≡ Go g.labels (record s { memory = forget_below esp s.memory })
  unfolding settled
  settled_some s esp e = ap (λ o. settled_by o g.labels s) e

  pub call_loses_esp : known (registers_of d.regs 4) ≡ None → MoveHalts (called_from c m) ends.Unspecified a b
  call_loses_esp e = record {
    answers = g.answers;
    labels = g.labels;
    last = Unspecified;
    is_last = refl;
    halts = λ rest. settles rest ∙ settled_none (state_of d n (environment b rest)) e;
    host = g.host;
  }

  pub call_returns : (esp : ℕ) (p : Memory) → known (registers_of d.regs 4) ≡ Some esp → p ≡ forget_below esp n → MoveGoes (called_from c m) (state_of d p) a b
  call_returns esp p e is = record {
    answers = g.answers;
    labels = g.labels;
    goes = λ rest. settles rest ∙ settled_some (state_of d n (environment b rest)) esp e ∙ ap (λ (k : Memory). Go g.labels (state_of d k (environment b rest))) (sym is);
    host = g.host;
  }

-- ---- what a host that tells tells of it
module _ (o p : Option Told) (c : Cpu) (m n : Memory) (q : Request) (is : q ≡ asked c) where
  pub tells_wanting : (e : AllocError) → Tells o p (Makes (system_call q m) (Err e) m n) → Tells o p (CallsOn (Err e) c m c n)
  tells_wanting e t = tells_map o p (Makes (system_call q m) (Err e) m n) (CallsOn (Err e) c m c n) t (λ a b w. (refl, w.memory, record { calls = w.calls; host = w.host }))

  pub tells_ended : (r : CallOutcome) (end : RunEnd) → r ≡ outcome.Ended end → Tells o p (Makes (system_call q m) (Ok r) m n) → Tells o p (CallsOn (Ok (Some end)) c m c n)
  tells_ended r end e t =
      let at_q : Tells o p (Makes (system_call (asked c) m) (Ok r) m n) = subst (λ (x : Request). Tells o p (Makes (system_call x m) (Ok r) m n)) is t in
      let at : Tells o p (Makes (system_call (asked c) m) (Ok (outcome.Ended end)) m n) = subst (λ (x : CallOutcome). Tells o p (Makes (system_call (asked c) m) (Ok x) m n)) e at_q in
      tells_map o p (Makes (system_call (asked c) m) (Ok (outcome.Ended end)) m n) (CallsOn (Ok (Some end)) c m c n) at (λ a b h. call_ends c m n end (end_of_run end) a b refl h)

  returned_at : (r : CallOutcome) (result : ℕ) → r ≡ outcome.Returned result → Tells o p (Makes (system_call q m) (Ok r) m n) → Tells o p (GivesResult (system_call (asked c) m) result m n)
  returned_at r result e t =
      let at_q : Tells o p (Makes (system_call (asked c) m) (Ok r) m n) = subst (λ (x : Request). Tells o p (Makes (system_call x m) (Ok r) m n)) is t in
      subst (λ (x : CallOutcome). Tells o p (Makes (system_call (asked c) m) (Ok x) m n)) e at_q

  pub tells_lost : (r : CallOutcome) (result : ℕ) (d : Cpu) (k : Memory) → r ≡ outcome.Returned result → IsResult result c d → known (registers_of d.regs 4) ≡ None → Tells o p (Makes (system_call q m) (Ok r) m n) → Tells o p (CallsOn (Ok (Some ends.Unspecified)) c m d k)
  tells_lost r result d k e is_result lost t = tells_map o p (GivesResult (system_call (asked c) m) result m n) (CallsOn (Ok (Some ends.Unspecified)) c m d k) (returned_at r result e t) (λ a b g. call_loses_esp c d m n result a b is_result g lost)

  pub tells_returned : (r : CallOutcome) (result esp : ℕ) (d : Cpu) (k : Memory) → r ≡ outcome.Returned result → IsResult result c d → known (registers_of d.regs 4) ≡ Some esp → k ≡ forget_below esp n → Tells o p (Makes (system_call q m) (Ok r) m n) → Tells o p (CallsOn (Ok None) c m d k)
  tells_returned r result esp d k e is_result is_esp forgets t = tells_map o p (GivesResult (system_call (asked c) m) result m n) (CallsOn (Ok None) c m d k) (returned_at r result e t) (λ a b g. call_returns c d m n result a b is_result g esp k is_esp forgets)
