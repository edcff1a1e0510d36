-- The machine at the start of a run.
use Rattle.std.proofs.Common.{◌≡◌, ℕ, List, None, ap, ◌∙◌}
use Rattle.outside.specs.Environment.{Environment}
use Rattle.image.specs.declared.image.Image.{Image}
use Rattle.x86_values.specs.declared.word.Flags.{Flags}
use Rattle.memory.specs.Memory.{Memory, memory_of, with_stack}
use Rattle.mem_pages.specs.Contents.{memory_in}
use Rattle.x86_code.specs.Code.{code_of}
use Rattle.x86_meaning.specs.Registers.{Registers}
use Rattle.x86_meaning.specs.Step.{State}
use Rattle.x86_meaning.specs.Run.{first_processor, start_over}
use Rattle.x86_step.specs.Steps.{registers_of}
use Rattle.x86_machine.specs.declared.machine.Machine.{Machine}
use Rattle.x86_machine.specs.Kept.{code_by}
use Rattle.x86_machine.specs.Standing.{code_in, state_in, StandsAtStart}

-- a state by its parts
state_with : Registers → Flags → ℕ → Memory → Environment → State
state_with regs flags eip memory left = record { cpu = record { regs = regs; flags = flags }; eip = eip; memory = memory; left = left }

pub stands_at_start : (m : Machine) (image : Image) (esp0 : ℕ) (stack : List ℕ) → code_by m.code.segments ≡ code_of image → registers_of m.cpu.regs ≡ (first_processor esp0).regs → m.cpu.flags ≡ (first_processor esp0).flags → m.cpu.eip ≡ image.entry → memory_in m.pages ≡ with_stack esp0 stack (memory_of image) → m.steps ≡ 0 → m.ended ≡ None → StandsAtStart image esp0 stack m
unfolding code_in state_in start_over state_with
stands_at_start m image esp0 stack code regs flags eip memory steps ended = record {
  code = code;
  state = λ left.
      ap (λ (r : Registers). state_with r m.cpu.flags m.cpu.eip (memory_in m.pages) left) regs
      ∙ ap (λ (f : Flags). state_with (first_processor esp0).regs f m.cpu.eip (memory_in m.pages) left) flags
      ∙ ap (λ (at : ℕ). state_with (first_processor esp0).regs (first_processor esp0).flags at (memory_in m.pages) left) eip
      ∙ ap (λ (k : Memory). state_with (first_processor esp0).regs (first_processor esp0).flags image.entry k left) memory;
  steps = steps;
  ended = ended;
}
