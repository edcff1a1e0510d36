-- The bounds of a size.
use Rattle.std.proofs.Common.{ℕ, ◌<◌, ◌≤◌, arith}
use Rattle.x86_values.specs.Sizes.{IsSize, full}
use Rattle.x86_values.proofs.LessSpecified.{of_sizes}

pub full_bounds : (size : ℕ) → IsSize size → (full size ≤ 4294967296) × (0 < full size)
full_bounds size h = of_sizes (λ (size : ℕ). (full size ≤ 4294967296) × (0 < full size)) size h (omega arith, omega arith) (omega arith, omega arith) (omega arith, omega arith)
