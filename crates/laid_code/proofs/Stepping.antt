-- A step of the processor beside a step that it is known to make over the registers alone.
use Rattle.std.proofs.Common.{◌≡◌, ◌≢◌, ℕ, ◌<◌, Bool, true, false, ltb, List, [], Some, refl, sym, ap, ◌∙◌, subst, arith}
use Rattle.std.proofs.lemmas.Bool.{ltb-true}
use Rattle.outside.specs.Environment.{IsEnvironment}
use Rattle.x86_values.specs.Words.{word_of, known}
use Rattle.x86_values.specs.LessSpecified.{WordLessSpecified, FlagsLessSpecified}
use Rattle.traces.specs.Trace.{Label, End, Exited, OtherCall, Outside, MemoryFault, DivideFault, Guard, Stopped, Move, Stand, Go, Halt}
use Rattle.traces.specs.Trace as trace
use Rattle.memory.specs.Memory.{Memory, forget_below}
use Rattle.x86_types.specs.declared.instr.Instr.{Instr}
use Rattle.x86_code.specs.Code.{Code}
use Rattle.x86_meaning.specs.Step.{State, settled_by, settled, step, next}
use Rattle.x86_meaning.specs.LessSpecified.{StateLessSpecified, MoveLessSpecified}
use Rattle.named_code.specs.Running.{CodeState}
use Rattle.laid_code.specs.LaidRun.{with_reserved, AreStatesBeside}
use Rattle.laid_code.proofs.Given.{Given}
use Rattle.laid_code.proofs.Memories.{IsFree, nothing_forgotten, beside_by}
use Rattle.laid_code.proofs.OwnPairs.{registers_alone, alone_below, alone_above}
use Rattle.laid_code.proofs.Acting.{alone}

-- the processor holds what a state of the code holds, with esp 0
pub record IsAlone (first : Memory) (s : CodeState) (w : State) : Type 0 where
  pub registers : (k : ℕ) → k < 8 → s.cpu.regs k ≡ w.cpu.regs k
  pub esp : s.cpu.regs 4 ≡ word_of 0
  pub flags : s.cpu.flags ≡ w.cpu.flags
  pub memory : (a : ℕ) → w.memory a ≡ with_reserved first s.memory a
  pub free : IsFree s.memory
  pub left : s.left ≡ w.left

-- the processor goes on, to a state that is beside one of the code
pub record GoesBeside (first : Memory) (code : Code) (s : CodeState) (ls : List Label) (q : ℕ) (t : State) : Type 0 where
  pub state : State
  pub goes : next code t ≡ Go ls state
  pub eip : state.eip ≡ q
  pub beside : AreStatesBeside first s state

-- it comes to the same end, or the code used an unspecified value
abbrev pub EndsAs : Code → End → State → Type 0
EndsAs code e t = e ≢ trace.Unspecified → next code t ≡ Halt [] e

module _ (given : Given) (first : Memory) (code : Code) where
  -- ---- before the step
  pub is_alone : (s : CodeState) (t : State) → AreStatesBeside first s t → IsAlone first s (alone first s t.eip)
  is_alone s t h = record { registers = λ k low. sym (alone_below s.cpu.regs k low); esp = h.esp; flags = refl; memory = λ a. refl; free = h.memory.free; left = refl }

  pub less_alone : (s : CodeState) (t : State) → AreStatesBeside first s t → StateLessSpecified (alone first s t.eip) t
  less_alone s t h = record {
    cpu = record { regs = λ k. register k (ltb k 8) refl; flags = h.flags };
    eip = refl;
    memory = h.memory.less;
    left = h.left;
    environment = h.environment;
  }
    where
      register : (k : ℕ) (b : Bool) → ltb k 8 ≡ b → WordLessSpecified (registers_alone s.cpu.regs k) (t.cpu.regs k)
      register k true e = let low = ltb-true k 8 e in subst (λ w. WordLessSpecified w (t.cpu.regs k)) (sym (alone_below s.cpu.regs k low)) (h.registers k low)
      register k false e = subst (λ w. WordLessSpecified w (t.cpu.regs k)) (sym (alone_above s.cpu.regs k e)) (record { b0 = tt; b1 = tt; b2 = tt; b3 = tt })

  -- its move is less specified
  pub less_move : (s : CodeState) (t : State) (i : Instr) (len : ℕ) → code t.eip ≡ Some (i, len) → AreStatesBeside first s t → MoveLessSpecified (step i len (alone first s t.eip)) (next code t)
  less_move s t i len stands h =
      subst (λ m. MoveLessSpecified m (next code t)) (given.steps.at_instruction code (alone first s t.eip) i len stands) (given.monotone.step_less code (alone first s t.eip) t (less_alone s t h))

  -- ---- after it
  pub settles : (ls : List Label) (w : State) → w.cpu.regs 4 ≡ word_of 0 → settled ls w ≡ Go ls (record w { memory = forget_below 0 w.memory })
  unfolding settled
  settles ls w e = ap (λ o. settled_by o ls w) (ap known e ∙ given.words.known_word 0 (omega arith))

  less_beside : (s : CodeState) (w t : State) → IsAlone first s w → StateLessSpecified (record w { memory = forget_below 0 w.memory }) t → AreStatesBeside first s t
  less_beside s w t h less = record {
    registers = λ k low. subst (λ x. WordLessSpecified x (t.cpu.regs k)) (sym (h.registers k low)) (less.cpu.regs k);
    esp = h.esp;
    flags = subst (λ f. FlagsLessSpecified f t.cpu.flags) (sym h.flags) less.cpu.flags;
    memory = beside_by given.memory first s.memory (forget_below 0 w.memory) t.memory h.free (λ a. nothing_forgotten given.memory first w.memory a ∙ h.memory a) less.memory;
    left = h.left ∙ less.left;
    environment = subst IsEnvironment (sym h.left) less.environment;
  }

  pub goes_beside : (ls : List Label) (s : CodeState) (w t : State) → IsAlone first s w → MoveLessSpecified (settled ls w) (next code t) → GoesBeside first code s ls w.eip t
  goes_beside ls s w t h less = by (next code t) refl (subst (λ m. MoveLessSpecified m (next code t)) (settles ls w (sym (h.registers 4 (omega arith)) ∙ h.esp)) less)
    where
      by : (m : Move State) → next code t ≡ m → MoveLessSpecified (Go ls (record w { memory = forget_below 0 w.memory })) m → GoesBeside first code s ls w.eip t
      by (Go ks u) is k = record { state = u; goes = is ∙ ap (λ l. Go l u) (sym k.0); eip = sym k.1.eip; beside = less_beside s w u h k.1 }
      by (Stand ks e) is k = absurd k
      by (Halt ks e) is k = absurd k

  pub ends_as : (e : End) (t : State) → MoveLessSpecified (Halt [] e) (next code t) → EndsAs code e t
  ends_as trace.Unspecified t h differs = absurd (differs refl)
  ends_as (Exited n) t h differs = sym h
  ends_as MemoryFault t h differs = sym h
  ends_as DivideFault t h differs = sym h
  ends_as Outside t h differs = sym h
  ends_as (OtherCall n) t h differs = sym h
  ends_as (Guard k a) t h differs = sym h
  ends_as (Stopped a) t h differs = sym h
