-- Bit scans are monotone in what is specified, and the bits that they find are the lowest and the highest ones.
use Rattle.std.specs.Prelude.{◌≡◌, ℕ, ◌+◌, ◌/◌, ◌%◌, ◌^◌, ◌<◌, ◌≤◌, Bool}
use Rattle.x86_values.specs.declared.word.Word.{Word}
use Rattle.x86_values.specs.Sizes.{IsSize}
use Rattle.x86_values.specs.Scans.{lowest_bit, highest_bit, scan}
use Rattle.x86_values.specs.LessSpecified.{WordLessSpecified, AnsweredLessSpecified}

pub record ScanLaws : Type 0 where
  pub scan_less : (reverse : Bool) (size : ℕ) (x u : Word) → IsSize size → WordLessSpecified x u → AnsweredLessSpecified (scan reverse size x) (scan reverse size u)
  -- below the lowest bit there is none, and the bit itself is set
  pub lowest : (n : ℕ) → 0 < n → n < 2 ^ 32 → (n % 2 ^ lowest_bit 32 n ≡ 0) × (n / 2 ^ lowest_bit 32 n % 2 ≡ 1)
  -- the highest bit is set, and above it there is none
  pub highest : (n : ℕ) → 0 < n → n < 2 ^ 32 → (2 ^ highest_bit 32 n ≤ n) × (n < 2 ^ (highest_bit 32 n + 1))
