-- The bounds of operands, and of numbers of twice the size.
use Rattle.std.proofs.Common.{◌≡◌, ℕ, ◌+◌, ◌*◌, ◌<◌, ◌≤◌, ap, arith}
use Rattle.x86_values.specs.declared.byte.Byte.{Byte}
use Rattle.x86_values.specs.declared.byte.Byte.TheVariants.{Known}
use Rattle.x86_values.specs.declared.word.Word.{Word}
use Rattle.x86_values.specs.Sizes.{IsSize, cut, full, half}
use Rattle.x86_values.proofs.LessSpecified.{of_sizes}

pub double_bounds : (size : ℕ) → IsSize size → (full size * full size ≤ 18446744073709551616) × (0 < full size * full size)
double_bounds size h = of_sizes (λ (size : ℕ). (full size * full size ≤ 18446744073709551616) × (0 < full size * full size)) size h (omega arith, omega arith) (omega arith, omega arith) (omega arith, omega arith)

is_zero : (y : Byte) (n : ℕ) → y ≡ Known 0 → y ≡ Known n → n ≡ 0
is_zero y n e f = cc

pub number_below : (size a b c d : ℕ) (x w : Word) → IsSize size → x ≡ cut size w → x.b0 ≡ Known a → x.b1 ≡ Known b → x.b2 ≡ Known c → x.b3 ≡ Known d → a < 256 → b < 256 → c < 256 → d < 256 → a + 256 * b + 65536 * c + 16777216 * d < full size
unfolding cut
number_below size a b c d x w s e p q r t k l m n = of_sizes (λ (size : ℕ). x ≡ cut size w → a + 256 * b + 65536 * c + 16777216 * d < full size) size s
    (λ e. omega (arith, is_zero x.b1 b (ap (λ (x : Word). x.b1) e) q, is_zero x.b2 c (ap (λ (x : Word). x.b2) e) r, is_zero x.b3 d (ap (λ (x : Word). x.b3) e) t, k))
    (λ e. omega (arith, is_zero x.b2 c (ap (λ (x : Word). x.b2) e) r, is_zero x.b3 d (ap (λ (x : Word). x.b3) e) t, k, l))
    (λ e. omega (arith, k, l, m, n))
    e

pub two_halves : (size : ℕ) → IsSize size → half size + half size ≡ full size
two_halves size s = of_sizes (λ (size : ℕ). half size + half size ≡ full size) size s (omega arith) (omega arith) (omega arith)
