-- The signed products of four bytes.
use Rattle.std.proofs.Common.{◌≡◌, ℕ, true, List, [], ◌∷◌, Some, ap, ◌∙◌}
use Rattle.x86_values.specs.declared.word.Word.{Word}
use Rattle.x86_values.specs.declared.word.Flags.{Flags}
use Rattle.x86_values.specs.Words.{known}
use Rattle.x86_values.specs.Products.{halves, multiply, product}
use Rattle.memory.specs.Memory.{Memory}
use Rattle.x86_types.specs.declared.instr.Instr.TheVariants as instr
use Rattle.x86_types.specs.declared.operand.Rm.{Rm}
use Rattle.x86_types.specs.declared.operand.Reg.{Reg}
use Rattle.x86_types.specs.declared.width.Width.{Width}
use Rattle.x86_types.specs.Numbers.{size_of}
use Rattle.x86_meaning.specs.declared.state.Cpu.{Cpu}
use Rattle.x86_meaning.specs.Registers.{machine_naming}
use Rattle.x86_meaning.specs.Operands.{Location, field, location_of, operand}
use Rattle.x86_meaning.specs.TransferShapes.{by_one, constant, multiply_by_transfer}
use Rattle.x86_meaning.specs.Transfers.{transfer}
use Rattle.x86_meaning.specs.Outcomes.{Computation, Falls, computed, imul_computed, on_two}
use Rattle.x86_meaning.specs.Computing.{compute}
use Rattle.x86_meaning.specs.Effect.{effect_of}
use Rattle.x86_step.specs.Judged.{effect_read, processor_of, values_read}
use Rattle.x86_step.specs.Steps.{registers_of}
use Rattle.x86_step.proofs.Made.{effect_is}
use Rattle.x86_step.proofs.FourBytes.{number_of_four}

outcome_is : (w u : Word) (f g : Flags) → w ≡ u → f ≡ g → computed (w ∷ []) f Falls ≡ computed (u ∷ []) g Falls
outcome_is w u f g e h = ap (λ x. computed (x ∷ []) f Falls) e ∙ ap (λ x. computed (u ∷ []) x Falls) h

pub multiplied : (x y low : Word) (flags : Flags) (a b : ℕ) → known x ≡ Some a → known y ≡ Some b → low ≡ (halves true 4 (product true 4 a b)).low → flags ≡ (halves true 4 (product true 4 a b)).flags → computed (low ∷ []) flags Falls ≡ imul_computed 4 x y
unfolding multiply
multiplied x y low flags a b g h e k = rw (number_of_four x, g, number_of_four y, h) (outcome_is low _ flags _ e k)

pub imul_by_form : (w : Width) (r : Reg) (from : Rm) (by : ℕ) (next : ℕ) (c : Cpu) (m : Memory) (a : Location) (xs : List Word) (k : Computation) → Some a ≡ location_of machine_naming (registers_of c.regs) w from
    → Some xs ≡ values_read (operand (size_of w) a ∷ constant (size_of w) by ∷ []) (registers_of c.regs) m → k ≡ on_two (imul_computed (size_of w)) xs
    → effect_of (operand (size_of w) (field machine_naming w r) ∷ []) (registers_of c.regs) k ≡ effect_read (transfer machine_naming (instr.ImulBy w r from by) (registers_of c.regs)) (instr.ImulBy w r from by) next (processor_of c) m
unfolding transfer compute
imul_by_form w r from by next c m a xs k g v e = effect_is (instr.ImulBy w r from by) (multiply_by_transfer (size_of w) by (field machine_naming w r) a) xs k next c m (ap (by_one (multiply_by_transfer (size_of w) by (field machine_naming w r))) g) v e
