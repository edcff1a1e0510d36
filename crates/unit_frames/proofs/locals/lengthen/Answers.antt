use Rattle.std.proofs.Common.{◌≡◌, ◌+◌, List, [], ◌∷◌, ◌++◌, length, get_or, ap, ◌∙◌, arith}
use Rattle.std.proofs.lemmas.List.{length_push}
use Rattle.x86_values.specs.declared.word.Word.{Word}
use Rattle.x86_values.specs.Sizes as sizes
use Rattle.unit_frames.proofs.LocalWords.{none_pushed}
use Rattle.unit_frames.proofs.locals.lengthen.Goals as goal

pub loop-preserved : goal.loop-preserved
loop-preserved c =
    let old : List Word = c.loop.words.items in
    let items : c.push.new.self.items ≡ old ++ sizes.no_word ∷ [] = c.in_ok-push.ensures.items ∙ ap (λ (w : Word). old ++ w ∷ []) c.no_word.ensures in
    let len : length c.push.new.self.items ≡ length old + 1 = ap length items ∙ length_push old sizes.no_word in
    record {
      words = λ k. ap (λ (x : List Word). get_or x k sizes.no_word) items ∙ none_pushed old k ∙ c.loop.invariant.words k;
      len = omega (arith, len, c.loop.invariant.len);
    }
