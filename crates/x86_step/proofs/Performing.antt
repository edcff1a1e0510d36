-- The effect of one value that is written to one operand.
use Rattle.std.proofs.Common.{◌≡◌, ℕ, [], ◌∷◌, Option, Some, None, Result, Ok, false, take, refl, ap, ◌∙◌}
use Rattle.x86_values.specs.declared.word.Word.{Word}
use Rattle.x86_values.specs.declared.word.Flags.{Flags}
use Rattle.x86_values.specs.Words.{word_list}
use Rattle.x86_types.specs.declared.operand.Reg.{Reg}
use Rattle.x86_types.specs.Numbers.{number_of_reg}
use Rattle.x86_meaning.specs.declared.stop.Stop.{Stop}
use Rattle.x86_meaning.specs.Registers.{Registers, with_bytes, with_register}
use Rattle.x86_meaning.specs.Operands.{operand}
use Rattle.x86_meaning.specs.Outcomes.{computed}
use Rattle.x86_meaning.specs.Effect as spec
use Rattle.x86_meaning.specs.Effect.{effect_of}
use Rattle.x86_step.specs.declared.operand.Size.{Size}
use Rattle.x86_step.specs.declared.operand.Place.{Place}
use Rattle.x86_step.specs.declared.operand.Place.TheVariants.{Lowest, Second}
use Rattle.x86_step.specs.declared.operand.Location.{Location}
use Rattle.x86_step.specs.declared.operand.Location.TheVariants.{Register, Memory, Constant}
use Rattle.x86_step.specs.declared.outcome.Way.{Way}
use Rattle.x86_step.specs.declared.outcome.Way.TheVariants.{Falls, JumpsBy, JumpsTo, Repeats, Calls}
use Rattle.x86_step.specs.Computed.{way_of}
use Rattle.x86_step.specs.Finishing.{is_call}
use Rattle.x86_step.specs.Transferred.{bytes_in_size, as_location}
use Rattle.x86_step.proofs.Made.{effect_with}

abbrev pub one_written : Size → Location → Word → Flags → Way → Registers → Result spec.Effect Stop
one_written s l w f way regs = effect_of (operand (bytes_in_size s) (as_location l) ∷ []) regs (computed (w ∷ []) f (way_of way))

pub lowest_written : (s : Size) (r : Reg) (p : Place) (w old new : Word) (f : Flags) (way : Way) (regs : Registers) → p ≡ Lowest r → old ≡ regs (number_of_reg r) → new ≡ with_bytes 0 (take (bytes_in_size s) (word_list w)) old
    → Ok (effect_with (with_register (number_of_reg r) new regs) f None way) ≡ one_written s (Register p) w f way regs
lowest_written s r p w old new f way regs e h k = rw e (ap (λ x. let y : Result spec.Effect Stop = Ok (effect_with (with_register (number_of_reg r) x regs) f None way) in y) (k ∙ ap (with_bytes 0 (take (bytes_in_size s) (word_list w))) h))

pub second_written : (s : Size) (r : Reg) (p : Place) (w old new : Word) (f : Flags) (way : Way) (regs : Registers) → p ≡ Second r → old ≡ regs (number_of_reg r) → new ≡ with_bytes 1 (take (bytes_in_size s) (word_list w)) old
    → Ok (effect_with (with_register (number_of_reg r) new regs) f None way) ≡ one_written s (Register p) w f way regs
second_written s r p w old new f way regs e h k = rw e (ap (λ x. let y : Result spec.Effect Stop = Ok (effect_with (with_register (number_of_reg r) x regs) f None way) in y) (k ∙ ap (with_bytes 1 (take (bytes_in_size s) (word_list w))) h))

pub memory_written : (s : Size) (at : ℕ) (l : Location) (w : Word) (f : Flags) (way : Way) (regs : Registers) → l ≡ Memory at
    → Ok (effect_with regs f (Some (record { at = at; size = s; word = w })) way) ≡ one_written s l w f way regs
memory_written s at l w f way regs e = rw e refl

pub nothing_written : (s : Size) (n : Option ℕ) (l : Location) (w : Word) (f : Flags) (way : Way) (regs : Registers) → l ≡ Constant n
    → Ok (effect_with regs f None way) ≡ one_written s l w f way regs
nothing_written s n l w f way regs e = rw e refl

pub no_call : (way : Way) → (way ≡ Calls → ⊥) → is_call (way_of way) ≡ false
no_call Falls h = refl
no_call (JumpsBy by) h = refl
no_call (JumpsTo target) h = refl
no_call Repeats h = refl
no_call Calls h = absurd (h refl)
