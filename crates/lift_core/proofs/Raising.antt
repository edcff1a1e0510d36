-- Registers that rise and fall.
use Rattle.std.proofs.Common.{◌≡◌, ℕ, ◌<◌, false, List, ◌∷◌, Some, Result, refl, sym}
use Rattle.x86_values.specs.declared.word.Word.{Word}
use Rattle.x86_values.specs.Words.{word_of, known}
use Rattle.x86_values.specs.LessSpecified.{WordLessSpecified}
use Rattle.x86_values.specs.LessSpecifiedLaws.{LessSpecifiedLaws}
use Rattle.x86_values.specs.SumLaws.{SumLaws}
use Rattle.traces.specs.Trace.{End}
use Rattle.x86_meaning.specs.Operands.{InRegister}
use Rattle.x86_meaning.specs.TransferShapes.{up}
use Rattle.x86_meaning.specs.Outcomes.{raised_by, lowered_by}
use Rattle.x86_meaning.specs.Effect.{Effect, written_to}
use Rattle.x86_meaning.specs.Step.{State, performed}
use Rattle.flag_ir.specs.declared.operation.Calc.TheVariants as calc
use Rattle.flag_ir.specs.declared.operation.Op.{Op}
use Rattle.flag_ir.specs.Calculations.{sum_of, difference_of}
use Rattle.flag_ir.specs.Storage.{Storage, put_word}
use Rattle.flag_ir.specs.Operations.{perform, performs}
use Rattle.lift_relation.specs.Matching.{StateMatches}
use Rattle.lift_values.specs.Terms.{word}
use Rattle.lift_core.specs.Pieces.{reg, to_reg}
use Rattle.lift_core.proofs.Words.{IsNumber, word_itself, known_less, sum_any}
use Rattle.lift_core.proofs.Writing.{set_matches, with_regs}

pub record AddingLaws : Type 0 where
  pub less : LessSpecifiedLaws
  pub sums : SumLaws

module _ (laws : AddingLaws) where
  raised_less : (n : ℕ) (x y : Word) → WordLessSpecified x y → WordLessSpecified (raised_by n x) (sum_of y (word_of n))
  unfolding sum_of
  raised_less n x y h = (laws.sums.add_less 4 x (word_of n) y (word_of n) (Some false) (Some false) refl h (word_itself n) refl).value

  lowered_less : (n : ℕ) (x y : Word) → WordLessSpecified x y → WordLessSpecified (lowered_by n x) (difference_of y (word_of n))
  unfolding difference_of
  lowered_less n x y h = (laws.sums.sub_less 4 x (word_of n) y (word_of n) (Some false) (Some false) refl h (word_itself n) refl).value

  -- a register is set to another one that rises or falls, on both sides
  pub raised_matches : (e : Effect) (s : State) (u : Storage) (p q n : ℕ) → StateMatches (performed e s) u → q < 8 → StateMatches (performed (written_to 4 (InRegister p 0) (raised_by n (e.cpu.regs q)) e) s) (record u { regs = put_word p (sum_of (u.regs q) (word_of n)) u.regs })
  raised_matches e s u p q n h l = with_regs e s u _ (put_word p (sum_of (u.regs q) (word_of n)) u.regs) u.temps (set_matches p _ _ e.cpu.regs u.regs (raised_less n (e.cpu.regs q) (u.regs q) (h.regs q l)) h.regs) h

  pub lowered_matches : (e : Effect) (s : State) (u : Storage) (p q n : ℕ) → StateMatches (performed e s) u → q < 8 → StateMatches (performed (written_to 4 (InRegister p 0) (lowered_by n (e.cpu.regs q)) e) s) (record u { regs = put_word p (difference_of (u.regs q) (word_of n)) u.regs })
  lowered_matches e s u p q n h l = with_regs e s u _ (put_word p (difference_of (u.regs q) (word_of n)) u.regs) u.temps (set_matches p _ _ e.cpu.regs u.regs (lowered_less n (e.cpu.regs q) (u.regs q) (h.regs q l)) h.regs) h

  -- the list goes on from there
  pub raised_then : (turn : ℕ) (p q n : ℕ) (u : Storage) (rest : List Op) (P : Result Storage End → Type 0) → P (performs turn rest (record u { regs = put_word p (sum_of (u.regs q) (word_of n)) u.regs })) → P (performs turn (to_reg p calc.Add (reg q) (word n) ∷ rest) u)
  unfolding performs perform
  raised_then turn p q n u rest P h = h

  pub lowered_then : (turn : ℕ) (p q n : ℕ) (u : Storage) (rest : List Op) (P : Result Storage End → Type 0) → P (performs turn rest (record u { regs = put_word p (difference_of (u.regs q) (word_of n)) u.regs })) → P (performs turn (to_reg p calc.Sub (reg q) (word n) ∷ rest) u)
  unfolding performs perform
  lowered_then turn p q n u rest P h = h

  -- ---- a register that is known
  pub register_number : (s : State) (u : Storage) (p n : ℕ) → StateMatches s u → p < 8 → known (s.cpu.regs p) ≡ Some n → IsNumber n (u.regs p)
  register_number s u p n h l e = known_less (s.cpu.regs p) n (u.regs p) e (h.regs p l)

  pub register_word : (s : State) (u : Storage) (p n : ℕ) → StateMatches s u → p < 8 → known (s.cpu.regs p) ≡ Some n → IsNumber n (s.cpu.regs p)
  register_word s u p n h l e = (known_less (s.cpu.regs p) n (s.cpu.regs p) e (laws.less.itself (s.cpu.regs p) (laws.less.of_bytes (s.cpu.regs p) (u.regs p) (h.regs p l))))

pub raised_word : (at : ℕ) (x : Word) → IsNumber at x → word_of (up 4 at) ≡ raised_by 4 x
unfolding sum_of
raised_word at x h = sym ((sum_any at 4 x h).is)
