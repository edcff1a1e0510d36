-- A result and the flags that it sets (Intel SDM volume 1, "Status Flags").
use Rattle.std.specs.Prelude.{ℕ, ◌+◌, ◌/◌, ◌%◌, ◌==◌, Bool, true, false, Option, Some, None}
use Rattle.x86_values.specs.declared.word.Flags.{Flags}
use Rattle.x86_values.specs.declared.answered.Answered.{Answered}
use Rattle.x86_values.specs.Words.{word_of}
use Rattle.x86_values.specs.Sizes.{cut, no_word, is_negative}

-- a carry as a number
abbrev pub carry_number : Bool → ℕ
carry_number true = 1
carry_number false = 0

-- PF: the lowest byte has an even number of ones
unfoldable pub has_even_parity : ℕ → Bool
has_even_parity n = (n % 2 + n / 2 % 2 + n / 4 % 2 + n / 8 % 2 + n / 16 % 2 + n / 32 % 2 + n / 64 % 2 + n / 128 % 2) % 2 == 0

abbrev pub no_flags : Flags
no_flags = record { cf = None; pf = None; zf = None; sf = None; of = None }

-- ZF, SF and PF by a result, beside a carry and an overflow
abbrev pub flags_of : ℕ → ℕ → Option Bool → Option Bool → Flags
flags_of size n carry overflow = record { cf = carry; pf = Some (has_even_parity n); zf = Some (n == 0); sf = Some (is_negative size n); of = overflow }

abbrev pub result_of : ℕ → ℕ → Option Bool → Option Bool → Answered
result_of size n carry overflow = record { value = word_of n; flags = flags_of size n carry overflow }

-- the lowest bytes and all flags are unspecified
abbrev pub no_result : ℕ → Answered
no_result size = record { value = cut size no_word; flags = no_flags }

-- of two bits exactly one is set
abbrev pub differ : Bool → Bool → Bool
differ true true = false
differ true false = true
differ false b = b
