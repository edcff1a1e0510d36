-- The cores of AND, OR, XOR, TEST and NOT.
use Rattle.std.proofs.Common.{◌≡◌, ℕ, false, Option, Some, None, refl, sym, ◌∙◌, subst}
use Rattle.x86_types.specs.declared.operation.AluOp.TheVariants as alu
use Rattle.x86_types.specs.declared.width.Width.{Width}
use Rattle.x86_types.specs.declared.width.Width.TheVariants.{One, Two, Four}
use Rattle.x86_types.specs.Numbers.{size_of}
use Rattle.x86_values.specs.declared.word.Word.{Word}
use Rattle.x86_values.specs.declared.logic.Bit.{Bit}
use Rattle.x86_values.specs.declared.logic.Bit.TheVariants as bit
use Rattle.x86_values.specs.Words.{word_of}
use Rattle.x86_values.specs.Sizes.{cut, number}
use Rattle.x86_values.specs.Logic.{word_by, logic_flags, bitwise}
use Rattle.x86_values.specs.LogicLaws.{LogicLaws}
use Rattle.x86_values.specs.LessSpecified.{WordLessSpecified}
use Rattle.x86_meaning.specs.Outcomes.{alu_computed, test_computed, not_computed}
use Rattle.flag_ir.specs.Calculations.{and_of, or_of, xor_of}
use Rattle.flag_ir.specs.declared.operation.Calc.TheVariants as calc
use Rattle.flag_ir.specs.Storage.{Storage}
use Rattle.flag_ir.specs.Operations.{perform, performs}
use Rattle.lift_relation.specs.Matching.{FlagsMatch}
use Rattle.lift_relation.specs.Cores.{CutMatches, ComputesOne, ComputesTwo}
use Rattle.lift_values.specs.Terms.{mask}
use Rattle.lift_values.specs.Logic.{logic_core, test_core, not_core}
use Rattle.lift_values.proofs.WordLemmas.{number_below, cut_again, word_below}
use Rattle.lift_values.proofs.FlagLemmas.{flags_match, no_flags_match, changed}
use Rattle.lift_values.proofs.AnswerLemmas.{Answers, ResultShape, result_shape, flags_alone}

-- ---- results are cut where their operands are
bitwise_cut : (kind : Bit) (w : Width) (a b : Word) → (bitwise kind 4 (cut (size_of w) a) (cut (size_of w) b)).value ≡ cut (size_of w) (word_by kind a b)
unfolding bitwise cut
bitwise_cut bit.And One a b = refl
bitwise_cut bit.And Two a b = refl
bitwise_cut bit.And Four a b = refl
bitwise_cut bit.Or One a b = refl
bitwise_cut bit.Or Two a b = refl
bitwise_cut bit.Or Four a b = refl
bitwise_cut bit.Xor One a b = refl
bitwise_cut bit.Xor Two a b = refl
bitwise_cut bit.Xor Four a b = refl

result_matches : LogicLaws → (kind : Bit) (w : Width) (a b x y : Word) → CutMatches (size_of w) a x → CutMatches (size_of w) b y → WordLessSpecified (cut (size_of w) (word_by kind a b)) (bitwise kind 4 x y).value
result_matches laws kind w a b x y h k = subst (λ z. WordLessSpecified z (bitwise kind 4 x y).value) (bitwise_cut kind w a b) (laws.bitwise_less kind 4 (cut (size_of w) a) (cut (size_of w) b) x y refl h k).value

-- ---- what the list comes to
abbrev LogicShape : Width → Word → Storage → Storage → Type 0
LogicShape w z u v = ResultShape w z (word_of 0) u v

logic_flags_match : (w : Width) (r z : Word) (u v : Storage) → LogicShape w z u v → v.flags 0 ≡ word_of 0 → WordLessSpecified (cut (size_of w) r) z → FlagsMatch (logic_flags (size_of w) (number (size_of w) r)) v.flags
logic_flags_match w r z u v s cf h = cases (number (size_of w) r) refl
  where
    cases : (o : Option ℕ) → number (size_of w) r ≡ o → FlagsMatch (logic_flags (size_of w) o) v.flags
    cases None e = no_flags_match v.flags
    cases (Some n) e = let q = number_below w r n z e h in flags_match w n (Some false) (Some false) (v.temps 4) v.flags q.fits (s.result ∙ q.is) s.pf s.zf s.sf cf s.of

logic_made : LogicLaws → (kind : Bit) (w : Width) (a b x y : Word) (u v : Storage) → CutMatches (size_of w) a x → CutMatches (size_of w) b y → LogicShape w (bitwise kind 4 x y).value u v → v.flags 0 ≡ word_of 0 → Answers w (bitwise kind (size_of w) a b) u v
unfolding bitwise
logic_made laws kind w a b x y u v h k s cf =
    let m = result_matches laws kind w a b x y h k in
    record {
      change = s.change;
      values = (subst (λ z. WordLessSpecified z (v.temps 4)) (sym (cut_again w (word_by kind a b))) (subst (WordLessSpecified (cut (size_of w) (word_by kind a b))) (sym s.result) m), tt);
      flags = logic_flags_match w (word_by kind a b) (bitwise kind 4 x y).value u v s cf m;
    }

-- ---- the cores
pub and_computes : LogicLaws → (w : Width) → ComputesTwo (size_of w) (size_of w) (size_of w) (λ f x y. alu_computed alu.And (size_of w) f x y) (logic_core calc.And w)
unfolding perform performs and_of
and_computes laws w = record { computes = λ turn a b f u x y g. logic_made laws bit.And w a b (u.temps 1) (u.temps 2) u _ x y (result_shape w _ _ u _ refl refl refl refl refl refl refl refl refl refl) refl }

pub or_computes : LogicLaws → (w : Width) → ComputesTwo (size_of w) (size_of w) (size_of w) (λ f x y. alu_computed alu.Or (size_of w) f x y) (logic_core calc.Or w)
unfolding perform performs or_of
or_computes laws w = record { computes = λ turn a b f u x y g. logic_made laws bit.Or w a b (u.temps 1) (u.temps 2) u _ x y (result_shape w _ _ u _ refl refl refl refl refl refl refl refl refl refl) refl }

pub xor_computes : LogicLaws → (w : Width) → ComputesTwo (size_of w) (size_of w) (size_of w) (λ f x y. alu_computed alu.Xor (size_of w) f x y) (logic_core calc.Xor w)
unfolding perform performs xor_of
xor_computes laws w = record { computes = λ turn a b f u x y g. logic_made laws bit.Xor w a b (u.temps 1) (u.temps 2) u _ x y (result_shape w _ _ u _ refl refl refl refl refl refl refl refl refl refl) refl }

pub test_computes : LogicLaws → (w : Width) → ComputesTwo (size_of w) (size_of w) (size_of w) (λ f x y. test_computed (size_of w) x y) (test_core w)
unfolding perform performs and_of
test_computes laws w = record { computes = λ turn a b f u x y g. flags_alone w _ u _ (logic_made laws bit.And w a b (u.temps 1) (u.temps 2) u _ x y (result_shape w _ _ u _ refl refl refl refl refl refl refl refl refl refl) refl) }

-- ---- NOT
not_cut : (w : Width) (a : Word) → (bitwise bit.Xor 4 (cut (size_of w) a) (word_of (mask w))).value ≡ cut (size_of w) (bitwise bit.Xor (size_of w) a (word_of 0xFFFFFFFF)).value
unfolding bitwise cut word_of
not_cut One a = refl
not_cut Two a = refl
not_cut Four a = refl

mask_matches_itself : (w : Width) → WordLessSpecified (word_of (mask w)) (word_of (mask w))
mask_matches_itself w = word_below (mask w)

not_matches : LogicLaws → (w : Width) (a x : Word) → CutMatches (size_of w) a x → CutMatches (size_of w) (bitwise bit.Xor (size_of w) a (word_of 0xFFFFFFFF)).value (xor_of x (word_of (mask w)))
unfolding xor_of
not_matches laws w a x h = subst (λ z. WordLessSpecified z (bitwise bit.Xor 4 x (word_of (mask w))).value) (not_cut w a) (laws.bitwise_less bit.Xor 4 (cut (size_of w) a) (word_of (mask w)) x (word_of (mask w)) refl h (mask_matches_itself w)).value

pub not_computes : LogicLaws → (w : Width) → ComputesOne (size_of w) (size_of w) (λ f x. not_computed (size_of w) f x) (not_core w)
unfolding perform performs
not_computes laws w = record { computes = λ turn a f u x g. record { change = changed u _ refl refl refl refl refl; values = (not_matches laws w a (u.temps 1) x, tt); flags = g } }
