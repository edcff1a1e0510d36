-- What holds of the best spellings.
use Rattle.std.specs.Prelude.{◌≡◌, ℕ, false, ◌≤◌, ◌↔◌, List, length}
use Rattle.x86_types.specs.declared.instr.Instr.{Instr}
use Rattle.x86_types.specs.declared.instr.Instr.TheVariants as instr
use Rattle.x86_types.specs.declared.operand.Reg.{Reg}
use Rattle.x86_types.specs.declared.operand.Address.{Address}
use Rattle.x86_types.specs.declared.operand.Rm.TheVariants as rm
use Rattle.x86_types.specs.declared.operand.Src.TheVariants as src
use Rattle.x86_types.specs.declared.operation.Cond.{Cond}
use Rattle.x86_types.specs.declared.width.Width.TheVariants.{Four}
use Rattle.x86_grammar.specs.Fields.{HasSpelling}
use Rattle.x86_grammar.specs.Spells.{Spells}
use Rattle.x86_encode.specs.Best.{IsBest, IsBestWide, has_short}
use Rattle.x86_encode.specs.Choice.{best, best_wide}

-- An instruction that has a spelling has one best spelling and one best wide one; both are computed, and no longer
-- than eleven bytes. No spelling is shorter than the best one, and the two differ in JMP and Jcc alone.
pub record BestLaws : Type 0 where
  pub is : (i : Instr) → HasSpelling i → (t : List ℕ) → IsBest i t ↔ (t ≡ best i)
  pub is_wide : (i : Instr) → HasSpelling i → (t : List ℕ) → IsBestWide i t ↔ (t ≡ best_wide i)
  pub one : (i : Instr) (t u : List ℕ) → IsBest i t → IsBest i u → t ≡ u
  pub one_wide : (i : Instr) (t u : List ℕ) → IsBestWide i t → IsBestWide i u → t ≡ u
  pub same : (i : Instr) → has_short i ≡ false → best_wide i ≡ best i
  pub shortest : (i : Instr) (t : List ℕ) → Spells t i → length (best i) ≤ length t
  pub short : (i : Instr) → HasSpelling i → length (best i) ≤ 11
  pub short_wide : (i : Instr) → HasSpelling i → length (best_wide i) ≤ 11

-- How long the best spellings are of moves of four bytes, by what they move, and of wide jumps.
pub record BestLengths : Type 0 where
  pub constant : (to : Reg) (value : ℕ) → length (best (instr.Mov Four (rm.Reg to) (src.Imm value))) ≡ 5
  pub copy : (to from : Reg) → length (best (instr.Mov Four (rm.Reg to) (src.Reg from))) ≡ 2
  pub load : (to : Reg) (from : Address) → length (best (instr.Mov Four (rm.Reg to) (src.Mem from))) ≤ 7
  pub store : (to : Address) (from : Reg) → length (best (instr.Mov Four (rm.Mem to) (src.Reg from))) ≤ 7
  pub jmp : (by : ℕ) → length (best_wide (instr.Jmp by)) ≡ 5
  pub jcc : (cond : Cond) (by : ℕ) → length (best_wide (instr.Jcc cond by)) ≡ 6
