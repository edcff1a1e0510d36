-- What a division that doesn't fault gives.
use Rattle.std.proofs.Common.{◌≡◌, ℕ, ◌^◌, ◌<◌, Bool, true, false, cond, Some, refl, ap, sym, ◌∙◌}
use Rattle.x86_values.specs.declared.word.Word.{Word}
use Rattle.x86_values.specs.declared.divided.Divided.TheVariants.{Got, Fault}
use Rattle.x86_values.specs.Words.{word_of, known}
use Rattle.x86_values.proofs.WordLemmas.{known_word}

pub gives : (b : Bool) (m k i j : ℕ) (q r : Word) → m < 2 ^ 32 → k < 2 ^ 32 → cond b Fault (Got (word_of m) (word_of k)) ≡ Got q r → known q ≡ Some i → known r ≡ Some j → (i ≡ m) × (j ≡ k)
gives true m k i j q r h l e f g = absurd cc
gives false m k i j q r h l e f g =
    let same : word_of m ≡ q = cc in
    let rest : word_of k ≡ r = cc in
    let left : Some i ≡ Some m = sym f ∙ ap known (sym same) ∙ known_word m h in
    let right : Some j ≡ Some k = sym g ∙ ap known (sym rest) ∙ known_word k l in
    (cc, cc)

pub no_fault : (b : Bool) (q r : Word) (x y : Word) → cond b Fault (Got x y) ≡ Got q r → b ≡ false
no_fault true q r x y e = absurd cc
no_fault false q r x y e = refl
