-- The values of operands in registers.
use Rattle.std.proofs.Common.{◌≡◌, [], ◌∷◌, take, drop, refl}
use Rattle.x86_values.specs.declared.byte.Byte.TheVariants.{Known}
use Rattle.x86_values.specs.declared.word.Word.{Word}
use Rattle.x86_values.specs.Words.{word_list, padded}
use Rattle.x86_step.specs.declared.operand.Size.{Size}
use Rattle.x86_step.specs.declared.operand.Size.TheVariants as size
use Rattle.x86_step.specs.Transferred.{bytes_in_size}

pub second_part : (s : Size) (w : Word) → padded (take (bytes_in_size s) (w.b1 ∷ w.b2 ∷ w.b3 ∷ Known 0 ∷ [])) ≡ padded (take (bytes_in_size s) (drop 1 (word_list w)))
second_part size.Zero w = refl
second_part size.One w = refl
second_part size.Two w = refl
second_part size.Four w = refl
