-- Known bytes of registers and of memory stay below 256: a state of bytes is less specified than itself.
use Rattle.std.proofs.Common.{◌≡◌, ℕ, ◌==◌, Bool, true, false, cond, List, Option, Some, None, refl, subst}
use Rattle.x86_values.specs.declared.word.Word.{Word}
use Rattle.x86_values.specs.declared.word.Flags.{Flags}
use Rattle.x86_values.specs.Words.{IsWord, word_of}
use Rattle.x86_values.specs.WordLaws.{WordLaws}
use Rattle.x86_values.specs.LessSpecified.{FlagLessSpecified, FlagsLessSpecified}
use Rattle.x86_values.specs.LessSpecifiedLaws.{LessSpecifiedLaws}
use Rattle.outside.specs.Environment.{Environment, IsEnvironment}
use Rattle.traces.specs.Trace.{Label, Move, Go}
use Rattle.image.specs.declared.image.Image.{Image}
use Rattle.memory.specs.Memory.{memory_of}
use Rattle.memory.specs.MemoryLaws.{MemoryLaws}
use Rattle.memory.specs.LessSpecifiedLaws.{LessSpecifiedMemoryLaws}
use Rattle.x86_code.specs.Code.{Code}
use Rattle.x86_meaning.specs.Step.{State, next}
use Rattle.x86_meaning.specs.Run.{start_over, start_of, IsStart}
use Rattle.x86_meaning.specs.LessSpecified.{StateLessSpecified, MoveLessSpecified, MonotoneLaws}
use Rattle.x86_meaning.specs.StepLaws.{IsOfBytes, IsImageOfBytes}

flag_itself : (f : Option Bool) → FlagLessSpecified f f
flag_itself None = tt
flag_itself (Some b) = refl

flags_themselves : (f : Flags) → FlagsLessSpecified f f
flags_themselves f = record { cf = flag_itself f.cf; pf = flag_itself f.pf; zf = flag_itself f.zf; sf = flag_itself f.sf; of = flag_itself f.of }

module _ (less : LessSpecifiedLaws) (memories : LessSpecifiedMemoryLaws) where
  pub state_itself : (s : State) → IsOfBytes s → StateLessSpecified s s
  state_itself s h = record {
    cpu = record { regs = λ k. less.itself (s.cpu.regs k) (h.registers k); flags = flags_themselves s.cpu.flags };
    eip = refl;
    memory = memories.itself s.memory h.memory;
    left = refl;
    environment = h.left;
  }

  pub of_bytes : (s t : State) → StateLessSpecified s t → IsOfBytes s
  of_bytes s t h = record { registers = λ k. less.of_bytes (s.cpu.regs k) (t.cpu.regs k) (h.cpu.regs k); memory = memories.of_bytes s.memory t.memory h.memory; left = h.environment }

  pub step_keeps_bytes : MonotoneLaws → (code : Code) (s t : State) (ls : List Label) → IsOfBytes s → next code s ≡ Go ls t → IsOfBytes t
  step_keeps_bytes laws code s t ls h e =
      let both : MoveLessSpecified (next code s) (next code s) = laws.step_less code s s (state_itself s h) in
      let there : MoveLessSpecified (Go ls t) (Go ls t) = subst (λ (m : Move State). MoveLessSpecified m m) e both in
      of_bytes t t there.1

either_word : (b : Bool) (x y : Word) → IsWord x → IsWord y → IsWord (cond b x y)
either_word true x y p q = p
either_word false x y p q = q

pub start_is_of_bytes : WordLaws → MemoryLaws → (image : Image) (esp0 : ℕ) (stack : List ℕ) (left : Environment) → IsImageOfBytes image → IsStart esp0 stack → IsEnvironment left → IsOfBytes (start_of image esp0 stack left)
unfolding start_over
start_is_of_bytes words laws image esp0 stack left h start environment = record {
  registers = λ k. either_word (k == 4) (word_of esp0) (word_of 0) (words.word_of_bytes esp0) (words.word_of_bytes 0);
  memory = laws.stack_has_bytes esp0 stack (memory_of image) start.bytes (laws.image_has_bytes image h);
  left = environment;
}
