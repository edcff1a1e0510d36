-- Products (Intel SDM volume 2, "MUL", "IMUL"). CF and OF say whether the upper half has bits of its own; ZF and PF are unspecified,
-- and SF is too (own for IMUL). Where a byte of an operand is unspecified, so are both halves and all flags (own).
use Rattle.std.specs.Prelude.{ℕ, ◌+◌, ◌-◌, ◌*◌, ◌/◌, ◌%◌, ◌==◌, Bool, true, false, not, cond, Option, Some}
use Rattle.x86_values.specs.declared.word.Word.{Word}
use Rattle.x86_values.specs.declared.word.Flags.{Flags}
use Rattle.x86_values.specs.declared.product.Product.{Product}
use Rattle.x86_values.specs.Words.{word_of}
use Rattle.x86_values.specs.Sizes.{cut, no_word, number, full, is_negative}
use Rattle.x86_values.specs.Results.{no_flags}

-- the other factor times the full range is taken away for each factor that is negative
abbrev pub correction : ℕ → ℕ → ℕ → ℕ
correction size a b = cond (is_negative size a) (full size * b) 0

-- the product in twice the size, modulo its range
abbrev pub product : Bool → ℕ → ℕ → ℕ → ℕ
product false size a b = a * b % (full size * full size)
product true size a b = (a * b + 2 * (full size * full size) - (correction size a b + correction size b a)) % (full size * full size)

-- what the upper half is where the lower one has all of the product: zeros, or copies of its sign
abbrev pub upper_of : Bool → ℕ → ℕ → ℕ
upper_of false size low = 0
upper_of true size low = cond (is_negative size low) (full size - 1) 0

abbrev pub product_flags : Bool → Flags
product_flags exceeds = record no_flags { cf = Some exceeds; of = Some exceeds }

abbrev pub halves : Bool → ℕ → ℕ → Product
halves signed size p =
    let low = p % full size in
    let high = p / full size in
    record { low = word_of low; high = word_of high; flags = product_flags (not (high == upper_of signed size low)) }

abbrev pub product_of : Bool → ℕ → Option ℕ → Option ℕ → Product
product_of signed size (Some a) (Some b) = halves signed size (product signed size a b)
product_of signed size _ _ = record { low = cut size no_word; high = cut size no_word; flags = no_flags }

unfoldable pub multiply : Bool → ℕ → Word → Word → Product
multiply signed size x y = product_of signed size (number size x) (number size y)
