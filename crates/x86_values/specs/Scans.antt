-- Bit scans (Intel SDM volume 2, "BSF", "BSR"): the lowest or the highest bit that is set. ZF is set where none is, and the result is
-- unspecified then; CF, PF, SF and OF are unspecified. Where a byte of the operand is unspecified, so are the result and ZF (own).
use Rattle.std.specs.Prelude.{ℕ, zero, suc, ◌+◌, ◌/◌, ◌%◌, ◌==◌, Bool, true, false, cond, Option, Some, None}
use Rattle.x86_values.specs.declared.word.Word.{Word}
use Rattle.x86_values.specs.declared.answered.Answered.{Answered}
use Rattle.x86_values.specs.Words.{word_of}
use Rattle.x86_values.specs.Sizes.{cut, no_word, number}
use Rattle.x86_values.specs.Results.{no_flags, no_result}

-- the number of the lowest bit that is set, of the lowest k bits
unfoldable pub lowest_bit : ℕ → ℕ → ℕ
lowest_bit zero n = 0
lowest_bit (suc k) n = cond ((n % 2) == 1) 0 (lowest_bit k (n / 2) + 1)

-- the number of the highest bit that is set, of the lowest k bits
unfoldable pub highest_bit : ℕ → ℕ → ℕ
highest_bit zero n = 0
highest_bit (suc k) n = cond ((n / 2) == 0) 0 (highest_bit k (n / 2) + 1)

abbrev pub set_bit : Bool → ℕ → ℕ
set_bit true n = highest_bit 32 n
set_bit false n = lowest_bit 32 n

abbrev pub scanned : Bool → ℕ → ℕ → Answered
scanned reverse size n =
    cond (n == 0) (record { value = cut size no_word; flags = record no_flags { zf = Some true } })
    (record { value = word_of (set_bit reverse n); flags = record no_flags { zf = Some false } })

abbrev pub scan_of : Bool → ℕ → Option ℕ → Answered
scan_of reverse size None = no_result size
scan_of reverse size (Some n) = scanned reverse size n

unfoldable pub scan : Bool → ℕ → Word → Answered
scan reverse size x = scan_of reverse size (number size x)
