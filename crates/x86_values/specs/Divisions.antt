-- Divisions (Intel SDM volume 2, "DIV", "IDIV"): the number of two halves by a number, truncated towards 0; the remainder has the
-- sign of the dividend. They fault where the divisor is 0 or the quotient is none of the size. Where a byte of an operand is
-- unspecified they come to nothing (own).
use Rattle.std.specs.Prelude.{ℕ, ◌+◌, ◌-◌, ◌*◌, ◌/◌, ◌%◌, ◌==◌, Bool, true, false, cond, leb, ltb, Option, Some}
use Rattle.x86_values.specs.declared.word.Word.{Word}
use Rattle.x86_values.specs.declared.divided.Divided.{Divided}
use Rattle.x86_values.specs.declared.divided.Divided.TheVariants.{Got, Fault, Unspecified}
use Rattle.x86_values.specs.Words.{word_of}
use Rattle.x86_values.specs.Sizes.{number, full, half, is_negative}
use Rattle.x86_values.specs.Results.{differ}

abbrev pub unsigned_quotient : ℕ → ℕ → ℕ → Divided
unsigned_quotient size n d = cond (leb (full size) (n / d)) Fault (Got (word_of (n / d)) (word_of (n % d)))

-- the number that is as far below 0 as n is above it, modulo the range
abbrev pub negated : ℕ → ℕ → ℕ
negated range n = (range - n) % range

abbrev pub with_sign : ℕ → Bool → ℕ → ℕ
with_sign range true n = negated range n
with_sign range false n = n

-- a negative quotient may be one greater than a positive one
abbrev pub too_great : ℕ → Bool → ℕ → Bool
too_great size true q = ltb (half size) q
too_great size false q = leb (half size) q

-- by the signs of dividend and divisor and their distances from 0
abbrev pub signed_quotient : ℕ → Bool → Bool → ℕ → ℕ → Divided
signed_quotient size s t n d =
    cond (too_great size (differ s t) (n / d)) Fault (Got (word_of (with_sign (full size) (differ s t) (n / d))) (word_of (with_sign (full size) s (n % d))))

-- the dividend is a number of twice the size
abbrev pub quotient : Bool → ℕ → ℕ → ℕ → Divided
quotient false size n d = unsigned_quotient size n d
quotient true size n d =
    let s = leb (full size * half size) n in
    let t = is_negative size d in
    signed_quotient size s t (with_sign (full size * full size) s n) (with_sign (full size) t d)

abbrev pub quotient_of : Bool → ℕ → Option ℕ → Option ℕ → Option ℕ → Divided
quotient_of signed size (Some high) (Some low) (Some d) = cond (d == 0) Fault (quotient signed size (high * full size + low) d)
quotient_of signed size _ _ _ = Unspecified

unfoldable pub divide : Bool → ℕ → Word → Word → Word → Divided
divide signed size high low by = quotient_of signed size (number size high) (number size low) (number size by)
