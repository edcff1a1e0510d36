-- Results that are less specified than others.
use Rattle.std.proofs.Common.{◌≡◌, ℕ, ◌/◌, ◌%◌, ◌<◌, Bool, Option, Some, None, refl, ap, arith}
use Rattle.x86_values.specs.declared.byte.Byte.TheVariants.{Known}
use Rattle.x86_values.specs.Words.{word_of}
use Rattle.x86_values.specs.Sizes.{IsSize, cut, no_word, full}
use Rattle.x86_values.specs.Results.{no_flags, flags_of, result_of, no_result}
use Rattle.x86_values.specs.LessSpecified.{ByteLessSpecified, WordLessSpecified, FlagLessSpecified, FlagsLessSpecified, AnsweredLessSpecified}
use Rattle.x86_values.proofs.WordLemmas.{word_fits}
use Rattle.x86_values.proofs.LessSpecified.{less_specified, of_sizes}
use Rattle.x86_values.specs.declared.word.Flags.{Flags}

pub flag_itself : (x : Option Bool) → FlagLessSpecified x x
flag_itself (Some b) = refl
flag_itself None = tt

pub no_flags_less : (f : Flags) → FlagsLessSpecified no_flags f
no_flags_less f = record { cf = tt; pf = tt; zf = tt; sf = tt; of = tt }

pub all_flags_itself : (f : Flags) → FlagsLessSpecified f f
all_flags_itself f = record { cf = flag_itself f.cf; pf = flag_itself f.pf; zf = flag_itself f.zf; sf = flag_itself f.sf; of = flag_itself f.of }

pub flags_itself : (size n : ℕ) (carry overflow : Option Bool) → FlagsLessSpecified (flags_of size n carry overflow) (flags_of size n carry overflow)
flags_itself size n carry overflow = record { cf = flag_itself carry; pf = refl; zf = refl; sf = refl; of = flag_itself overflow }

pub number_itself : (n : ℕ) → WordLessSpecified (word_of n) (word_of n)
number_itself n = less_specified.itself (word_of n) (word_fits n)

pub result_itself : (size n : ℕ) (carry overflow : Option Bool) → AnsweredLessSpecified (result_of size n carry overflow) (result_of size n carry overflow)
result_itself size n carry overflow = record { value = number_itself n; flags = flags_itself size n carry overflow }

pub no_result_itself : (size : ℕ) → AnsweredLessSpecified (no_result size) (no_result size)
no_result_itself size = record { value = less_specified.nothing size no_word; flags = no_flags_less no_flags }

-- a byte past the end of a number is 0
zero_byte : (n : ℕ) → n ≡ 0 → ByteLessSpecified (Known 0) (Known n)
zero_byte n h = (ap (λ n. Known n) h, omega arith)

-- nothing that is known of a size's bytes is less specified than each number of it
pub nothing_known : (size n : ℕ) → IsSize size → n < full size → WordLessSpecified (cut size no_word) (word_of n)
unfolding cut word_of
nothing_known size n s = of_sizes (λ (size : ℕ). n < full size → WordLessSpecified (cut size no_word) (word_of n)) size s
    (λ h. record { b0 = tt; b1 = zero_byte (n / 256 % 256) (omega arith); b2 = zero_byte (n / 65536 % 256) (omega arith); b3 = zero_byte (n / 16777216 % 256) (omega arith) })
    (λ h. record { b0 = tt; b1 = tt; b2 = zero_byte (n / 65536 % 256) (omega arith); b3 = zero_byte (n / 16777216 % 256) (omega arith) })
    (λ h. record { b0 = tt; b1 = tt; b2 = tt; b3 = tt })

pub no_result_less : (size n : ℕ) (carry overflow : Option Bool) → IsSize size → n < full size → AnsweredLessSpecified (no_result size) (result_of size n carry overflow)
no_result_less size n carry overflow s h = record { value = nothing_known size n s h; flags = no_flags_less (flags_of size n carry overflow) }
