-- The operands of the commonest instructions.
use Rattle.std.proofs.Common.{◌≡◌, ℕ, ◌&&◌, Bool, true, false, [], ◌∷◌, Option, Some, None, refl, ap, ◌∙◌}
use Rattle.std.specs.Option.{option_map}
use Rattle.std.proofs.lemmas.Bool.{cond-false}
use Rattle.x86_values.specs.declared.word.Word.{Word}
use Rattle.x86_values.specs.Words.{word_of}
use Rattle.memory.specs.Memory.{Memory}
use Rattle.mem_pages.specs.Accesses.{loaded}
use Rattle.x86_types.specs.declared.operand.Reg.{Reg}
use Rattle.x86_types.specs.declared.operand.Address.{Address}
use Rattle.x86_types.specs.declared.operand.Src.{Src}
use Rattle.x86_types.specs.declared.operand.Src.TheVariants as src
use Rattle.x86_types.specs.declared.operation.AluOp.{AluOp}
use Rattle.x86_types.specs.declared.width.Width.TheVariants.{Four}
use Rattle.x86_types.specs.Numbers.{number_of_reg}
use Rattle.x86_meaning.specs.Registers.{Registers, machine_naming}
use Rattle.x86_meaning.specs.Operands.{Location, Constant, InMemory, InRegister, effective_address, operand, source_of}
use Rattle.x86_meaning.specs.TransferShapes.{alu_reads, cancels, is_same_register}
use Rattle.x86_step.specs.Judged.{value_read, values_read, with_value}
use Rattle.x86_step.specs.Direct.{HasWord, is_itself}

pub register_word : (r : Reg) (w : Word) (regs : Registers) (m : Memory) → w ≡ regs (number_of_reg r) → HasWord 4 (source_of machine_naming regs Four (src.Reg r)) w regs m
register_word r w regs m e = record { at = InRegister (number_of_reg r) 0; there = refl; value = ap Some e }

pub constant_word : (n : ℕ) (w : Word) (regs : Registers) (m : Memory) → w ≡ word_of n → HasWord 4 (source_of machine_naming regs Four (src.Imm n)) w regs m
constant_word n w regs m e = record { at = Constant (Some n); there = refl; value = ap Some e }

pub memory_word : (a : Address) (at : ℕ) (w : Word) (regs : Registers) (m : Memory) → Some at ≡ effective_address machine_naming regs a → Some w ≡ loaded m at 4 → HasWord 4 (source_of machine_naming regs Four (src.Mem a)) w regs m
memory_word a at w regs m e h = record { at = InMemory at; there = ap (option_map InMemory) e; value = h }

-- an operand that is not the register itself
abbrev same_if : Reg → Option Location → Bool
same_if r None = false
same_if r (Some a) = is_same_register (InRegister (number_of_reg r) 0) a

in_memory : (r : Reg) (o : Option ℕ) → same_if r (option_map InMemory o) ≡ false
in_memory r None = refl
in_memory r (Some at) = refl

not_there : (r : Reg) (from : Src) (regs : Registers) → is_itself r from ≡ false → same_if r (source_of machine_naming regs Four from) ≡ false
not_there r (src.Reg s) regs h = rw h refl
not_there r (src.Mem a) regs h = in_memory r (effective_address machine_naming regs a)
not_there r (src.Imm n) regs h = refl

not_same : (r : Reg) (from : Src) (regs : Registers) (a : Location) → Some a ≡ source_of machine_naming regs Four from → is_itself r from ≡ false → is_same_register (InRegister (number_of_reg r) 0) a ≡ false
not_same r from regs a e h = ap (same_if r) e ∙ not_there r from regs h

neither : (t u v : Bool) → (t && u) ≡ false → (u ≡ false → v ≡ false) → (t && v) ≡ false
neither true u v h f = f h
neither false u v h f = refl

pub reads_both : (op : AluOp) (r : Reg) (from : Src) (regs : Registers) (a : Location) → Some a ≡ source_of machine_naming regs Four from → (cancels op && is_itself r from) ≡ false → alu_reads op 4 (InRegister (number_of_reg r) 0) a ≡ operand 4 (InRegister (number_of_reg r) 0) ∷ operand 4 a ∷ []
reads_both op r from regs a e h = cond-false _ _ _ (neither (cancels op) (is_itself r from) _ h (not_same r from regs a e))

-- the values of a register and of an operand, and of an operand alone
pub both_read : (op : AluOp) (r : Reg) (from : Src) (x y : Word) (regs : Registers) (m : Memory) (h : HasWord 4 (source_of machine_naming regs Four from) y regs m) → x ≡ regs (number_of_reg r) → (cancels op && is_itself r from) ≡ false → Some (x ∷ y ∷ []) ≡ values_read (alu_reads op 4 (InRegister (number_of_reg r) 0) h.at) regs m
both_read op r from x y regs m h e f = rw (reads_both op r from regs h.at h.there f) (ap (λ o. with_value o (Some (y ∷ []))) (ap Some e) ∙ ap (λ o. with_value (Some (regs (number_of_reg r))) (with_value o (Some []))) h.value)

pub one_read : (size : ℕ) (o : Option Location) (w : Word) (regs : Registers) (m : Memory) (h : HasWord size o w regs m) → Some (w ∷ []) ≡ values_read (operand size h.at ∷ []) regs m
one_read size o w regs m h = ap (λ v. with_value v (Some [])) h.value

-- the values of esp, and of esp and what stands elsewhere
pub esp_read : (e : Word) (regs : Registers) (m : Memory) → e ≡ regs 4 → Some (e ∷ []) ≡ values_read (operand 4 (InRegister 4 0) ∷ []) regs m
esp_read e regs m h = ap (λ o. with_value o (Some [])) (ap Some h)

pub esp_and_read : (e w : Word) (l : Location) (regs : Registers) (m : Memory) → e ≡ regs 4 → Some w ≡ value_read 4 l regs m → Some (e ∷ w ∷ []) ≡ values_read (operand 4 (InRegister 4 0) ∷ operand 4 l ∷ []) regs m
esp_and_read e w l regs m h v = ap (λ o. with_value o (Some (w ∷ []))) (ap Some h) ∙ ap (λ o. with_value (Some (regs 4)) (with_value o (Some []))) v
