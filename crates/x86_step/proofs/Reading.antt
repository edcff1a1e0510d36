-- Registers as a list and as places, and repeat counts.
use Rattle.std.proofs.Common.{◌≡◌, ℕ, zero, suc, ◌<◌, ◌==◌, inl, inr, List, Option, Some, length, get_or, set, refl, sym, ◌∙◌}
use Rattle.std.proofs.lemmas.List.{get_or_read, get_or-set_other}
use Rattle.std.proofs.lemmas.Grind.{get_or-set_at}
use Rattle.std.proofs.lemmas.Bool.{cases_eq, cond-true, cond-false, eq-eqb, ne_eqb}
use Rattle.x86_values.specs.declared.word.Word.{Word}
use Rattle.x86_values.specs.Words.{word_of}
use Rattle.x86_types.specs.declared.operand.Reg.{Reg}
use Rattle.x86_types.specs.declared.operand.Reg.TheVariants as reg
use Rattle.x86_types.specs.Numbers.{number_of_reg}
use Rattle.x86_meaning.specs.Registers.{Registers, with_register}
use Rattle.x86_meaning.specs.TransferShapes as shapes
use Rattle.x86_meaning.specs.TransferShapes.{if_counted}
use Rattle.x86_step.specs.Steps.{registers_of}

pub register_read : (regs : List Word) (n : ℕ) (w : Word) → w ≡ get_or regs n w → n < length regs → w ≡ registers_of regs n
register_read regs n w e h = get_or_read regs n w h e (word_of 0)

set_at : (regs : List Word) (n : ℕ) (w : Word) → n < length regs → (k : ℕ) → registers_of (set regs n w) k ≡ with_register n w (registers_of regs) k
unfolding with_register
set_at regs n w h k = elim (cases_eq k n) [ inl e ↦ get_or-set_at regs n k w (word_of 0) e h ∙ sym (cond-true (k == n) w (registers_of regs k) (eq-eqb k n e)) | inr e ↦ get_or-set_other regs n k w (word_of 0) e ∙ sym (cond-false (k == n) w (registers_of regs k) (ne_eqb k n e)) ]

pub register_set : (regs : List Word) (n : ℕ) (w : Word) → n < length regs → registers_of (set regs n w) ≡ with_register n w (registers_of regs)
register_set regs n w h = λ i k. set_at regs n w h k i

pub counted : (n : ℕ) (t : Option shapes.Transfer) → (n ≡ 0 → ⊥) → if_counted (Some n) t ≡ t
counted zero t h = absurd (h refl)
counted (suc n) t h = refl

-- ---- esp after a register was written
pub esp_written : (w : Word) (regs : Registers) → w ≡ with_register 4 w regs 4
unfolding with_register
esp_written w regs = refl

pub esp_stays : (r : Reg) (w : Word) (regs : Registers) → (r ≡ reg.Esp → ⊥) → regs 4 ≡ with_register (number_of_reg r) w regs 4
unfolding with_register
esp_stays reg.Eax w regs h = refl
esp_stays reg.Ecx w regs h = refl
esp_stays reg.Edx w regs h = refl
esp_stays reg.Ebx w regs h = refl
esp_stays reg.Esp w regs h = absurd (h refl)
esp_stays reg.Ebp w regs h = refl
esp_stays reg.Esi w regs h = refl
esp_stays reg.Edi w regs h = refl

pub esp_left : (r : Reg) (w e : Word) (regs : Registers) → (r ≡ reg.Esp → ⊥) → e ≡ with_register (number_of_reg r) w (with_register 4 e regs) 4
esp_left r w e regs h = esp_written e regs ∙ esp_stays r w (with_register 4 e regs) h
