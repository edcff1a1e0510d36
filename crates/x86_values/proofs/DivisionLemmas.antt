-- Bounds of dividends, quotients and remainders.
use Rattle.std.proofs.Common.{ℕ, ◌+◌, ◌*◌, ◌<◌, arith}
use Rattle.x86_values.specs.Sizes.{IsSize, full}
use Rattle.x86_values.proofs.LessSpecified.{of_sizes}

pub dividend_bounds : (size high low : ℕ) → IsSize size → high < full size → low < full size → (high * full size < 18446744073709551616) × (high * full size + low < full size * full size)
dividend_bounds size high low s = of_sizes (λ (size : ℕ). high < full size → low < full size → (high * full size < 18446744073709551616) × (high * full size + low < full size * full size)) size s (λ h k. (omega arith, omega arith)) (λ h k. (omega arith, omega arith)) (λ h k. (omega arith, omega arith))
