-- The laws of products.
use Rattle.std.proofs.Common.{◌≡◌, ℕ, ◌*◌, ◌/◌, ◌%◌, ◌<◌, Bool, true, false, Option, Some, None, refl}
use Rattle.std.proofs.Math.Nat.{mod-lt}
use Rattle.std.proofs.lemmas.Nat.{mod_below, div_below}
use Rattle.x86_values.specs.declared.word.Word.{Word}
use Rattle.x86_values.specs.declared.product.Product.{Product}
use Rattle.x86_values.specs.Sizes.{IsSize, cut, no_word, number, full}
use Rattle.x86_values.specs.Results.{no_flags}
use Rattle.x86_values.specs.Products.{product, halves, product_of, multiply}
use Rattle.x86_values.specs.ProductLaws.{ProductLaws}
use Rattle.x86_values.specs.LessSpecified.{WordLessSpecified, ProductLessSpecified}
use Rattle.x86_values.proofs.LessSpecified.{less_specified, same_number}
use Rattle.x86_values.proofs.ResultsLess.{number_itself, all_flags_itself, no_flags_less, nothing_known}
use Rattle.x86_values.proofs.SizeLemmas.{full_bounds}
use Rattle.x86_values.proofs.OperandLemmas.{double_bounds}
use Rattle.x86_values.proofs.SignedProducts.{signed_product}
use Rattle.x86_values.proofs.ProductFlags.{unsigned_exceeds, signed_exceeds}

-- ---- monotony
halves_itself : (signed : Bool) (size p : ℕ) → ProductLessSpecified (halves signed size p) (halves signed size p)
halves_itself signed size p = record { low = number_itself (p % full size); high = number_itself (p / full size); flags = all_flags_itself (halves signed size p).flags }

unfoldable no_product : ℕ → Product
no_product size = record { low = cut size no_word; high = cut size no_word; flags = no_flags }

product_range : (signed : Bool) (size a b : ℕ) → IsSize size → product signed size a b < full size * full size
product_range true size a b s = mod-lt _ (double_bounds size s).1
product_range false size a b s = mod-lt _ (double_bounds size s).1

nothing_multiplied : (signed : Bool) (size : ℕ) (m n : Option ℕ) → IsSize size → ProductLessSpecified (no_product size) (product_of signed size m n)
unfolding no_product
nothing_multiplied signed size None n s = record { low = less_specified.nothing size no_word; high = less_specified.nothing size no_word; flags = no_flags_less no_flags }
nothing_multiplied signed size (Some a) None s = record { low = less_specified.nothing size no_word; high = less_specified.nothing size no_word; flags = no_flags_less no_flags }
nothing_multiplied signed size (Some a) (Some b) s =
    let p = product signed size a b in
    record {
      low = nothing_known size (p % full size) s (mod_below p (full size) (full_bounds size s).1);
      high = nothing_known size (p / full size) s (div_below p (full size) (full size) (full_bounds size s).1 (product_range signed size a b s));
      flags = no_flags_less (halves signed size p).flags;
    }

multiply_less : (signed : Bool) (size : ℕ) (x y u v : Word) → IsSize size → WordLessSpecified x u → WordLessSpecified y v → ProductLessSpecified (multiply signed size x y) (multiply signed size u v)
unfolding multiply no_product
multiply_less signed size x y u v s h k = go (number size x) (number size y) refl refl
  where
    go : (m n : Option ℕ) → number size x ≡ m → number size y ≡ n → ProductLessSpecified (product_of signed size m n) (product_of signed size (number size u) (number size v))
    go None n e f = nothing_multiplied signed size (number size u) (number size v) s
    go (Some a) None e f = nothing_multiplied signed size (number size u) (number size v) s
    go (Some a) (Some b) e f = rw ((same_number size a x u s h e).0, (same_number size b y v s k f).0) (halves_itself signed size (product signed size a b))

pub product_laws : ProductLaws
product_laws = record { multiply_less = multiply_less; signed_product = signed_product; unsigned_exceeds = unsigned_exceeds; signed_exceeds = signed_exceeds }
