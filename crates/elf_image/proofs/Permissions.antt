-- A permission as a bit of a number, and as a quotient of it.
use Rattle.std.proofs.Common.{◌≡◌, ℕ, ◌==◌, arith}
use Rattle.std.proofs.lemmas.Nat.Bits.{and_pow}
use Rattle.std.proofs.lemmas.Bool.Decides.{nat_tests}
use Rattle.std.specs.Int.RustNames.{bit_and}
use Rattle.image.specs.Addresses.{has}

pub run_bit : (n : ℕ) → (bit_and n 1 == 1) ≡ has n 1
run_bit n = let e = and_pow n 0 in grind (arith, nat_tests)

pub write_bit : (n : ℕ) → (bit_and n 2 == 2) ≡ has n 2
write_bit n = let e = and_pow n 1 in grind (arith, nat_tests)

pub read_bit : (n : ℕ) → (bit_and n 4 == 4) ≡ has n 4
read_bit n = let e = and_pow n 2 in grind (arith, nat_tests)
