use Rattle.std.proofs.Common.{◌≡◌, ℕ, [], ◌∷◌, ◌++◌, ap, ◌∙◌}
use Rattle.x86_values.specs.declared.word.Word.{Word}
use Rattle.flag_ir.specs.Storage.{put_word}
use Rattle.unit_machine.specs.Standing.{words_of}
use Rattle.unit_machine.proofs.Words.{words_pushed}
use Rattle.unit_machine.proofs.values.put_temp.Goals as goal

pub returns : goal.returns
returns c =
    let items : c.push.new.self.items ≡ c.lengthen.new.temps.items ++ c.args.word ∷ [] = c.in_ok-push.ensures.items in
    ap words_of items ∙ words_pushed c.lengthen.new.temps.items c.args.n c.args.word c.in_ok-lengthen.ensures.len ∙ ap (λ (ws : ℕ → Word). put_word c.args.n c.args.word ws) c.in_ok-lengthen.ensures.words
