-- Answers that are written out.
use Rattle.std.proofs.Common.{ℕ, ◌<◌, [], ◌∷◌, refl, arith}
use Rattle.std.proofs.lemmas.List.Elements.{All-nil, All-from_recursion, All-head, All-tail}
use Rattle.outside.specs.declared.answer.Answer.TheVariants.{Take, Fail}
use Rattle.outside.specs.Environment.{IsAnswer}
use Rattle.outside.specs.Rows.{AnswerRanges, EnvironmentRanges, AnswersInOrder}

pub answer_ranges : AnswerRanges
answer_ranges =
    record { least_taken = omega arith; most_taken = omega arith; more_taken = λ h. omega (arith, h); no_error = λ h. omega (arith, h.0); least_error = (omega arith, omega arith); greatest_error = (omega arith, omega arith); past_the_errors = λ h. omega (arith, h.1) }

is_byte : ℕ → Type 0
is_byte b = b < 256

pub environment_ranges : EnvironmentRanges
unfolding is_byte
environment_ranges =
    record {
      empty = record { input = All-nil is_byte; answers = All-nil IsAnswer };
      bytes = record {
        input = All-from_recursion is_byte (0 ∷ 0xFF ∷ []) (omega arith, (omega arith, tt));
        answers = All-from_recursion IsAnswer (Take 1 ∷ Fail 4 ∷ []) (omega arith, ((omega arith, omega arith), tt));
      };
      no_byte = λ e. omega (arith, All-head is_byte 0x100 [] (All-tail is_byte 0 (0x100 ∷ []) e.input));
      no_answer = λ e. omega (arith, (All-head IsAnswer (Fail 0) [] (All-tail IsAnswer (Take 1) (Fail 0 ∷ []) e.answers)).0);
    }

pub answers_in_order : AnswersInOrder
answers_in_order = record { cap_is = refl; next = refl; after = refl; next_of_none = refl; after_none = refl }
