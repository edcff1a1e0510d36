use Rattle.std.proofs.Common.{◌≡◌, ◌+◌, [], ◌∷◌, ◌++◌, length, length-append, ap, ◌∙◌, arith}
use Rattle.x86_values.specs.declared.word.Word.{Word}
use Rattle.unit_machine.specs.Standing.{words_of}
use Rattle.unit_machine.proofs.Words.{words_none_pushed}
use Rattle.unit_machine.proofs.values.lengthen.Goals as goal

pub loop-preserved : goal.loop-preserved
loop-preserved c =
    let items : c.push.new.self.items ≡ c.loop.temps.items ++ c.no_word.result ∷ [] = c.in_ok-push.ensures.items in
    let len : length c.push.new.self.items ≡ length c.loop.temps.items + 1 = ap length items ∙ length-append c.loop.temps.items (c.no_word.result ∷ []) in
    record {
      words = ap words_of items ∙ ap (λ (w : Word). words_of (c.loop.temps.items ++ w ∷ [])) c.no_word.ensures ∙ words_none_pushed c.loop.temps.items ∙ c.loop.invariant.words;
      len = omega (arith, len, c.loop.invariant.len);
    }
