-- Answers that are written out: the ends of their ranges, and which one is next.
use Rattle.std.specs.Prelude.{◌≡◌, [], ◌∷◌}
use Rattle.outside.specs.declared.answer.Answer.TheVariants.{Take, Fail}
use Rattle.outside.specs.Environment.{IsAnswer, IsEnvironment, cap, next_answer, answers_after}

-- both ends of the numbers of bytes and of the error numbers (Linux: EPERM is 1, MAX_ERRNO is 4095)
pub record AnswerRanges : Type 0 where
  pub least_taken : IsAnswer (Take 0)
  pub most_taken : IsAnswer (Take 0xFFFFFFFF)
  pub more_taken : IsAnswer (Take 0x100000000) → ⊥
  pub no_error : IsAnswer (Fail 0) → ⊥
  pub least_error : IsAnswer (Fail 1)
  pub greatest_error : IsAnswer (Fail 4095)
  pub past_the_errors : IsAnswer (Fail 4096) → ⊥

-- the input is bytes, and each answer is in its range
pub record EnvironmentRanges : Type 0 where
  pub empty : IsEnvironment (record { input = []; answers = [] })
  pub bytes : IsEnvironment (record { input = 0 ∷ 0xFF ∷ []; answers = Take 1 ∷ Fail 4 ∷ [] })
  pub no_byte : IsEnvironment (record { input = 0 ∷ 0x100 ∷ []; answers = [] }) → ⊥
  pub no_answer : IsEnvironment (record { input = []; answers = Take 1 ∷ Fail 0 ∷ [] }) → ⊥

-- answers are given in order; behind the last one a call takes as much as it can
pub record AnswersInOrder : Type 0 where
  pub cap_is : cap ≡ 0x10000
  pub next : next_answer (Fail 4 ∷ Take 1 ∷ []) ≡ Fail 4
  pub after : answers_after (Fail 4 ∷ Take 1 ∷ []) ≡ Take 1 ∷ []
  pub next_of_none : next_answer [] ≡ Take 0x10000
  pub after_none : answers_after [] ≡ []
