use Rattle.std.proofs.Common.{◌≡◌, suc, ◌-◌, ◌/◌, ◌%◌, [], ◌∷◌, ◌++◌, ◌∙◌, ap, append_assoc, arith}
use Rattle.byte_lists.specs.LittleEndian.{le}
use Rattle.x86_encode.specs.Text.{text}
use Rattle.x86_encode.proofs.put.+put_number.Goals as goal

pub returns-then-size-gt0-clause-text : goal.returns-then-size-gt0-clause-text
returns-then-size-gt0-clause-text t c =
    let e : suc (c.args.size - 1) ≡ c.args.size = omega arith in
    let old = c.args.out.now in
    c.put_number.ensures.text ∙ ap (λ x. x ++ le (c.args.size - 1) (c.args.number / 256)) c.put.ensures.text ∙ append_assoc (text old) (c.args.number % 256 ∷ []) (le (c.args.size - 1) (c.args.number / 256)) ∙ ap (λ k. text old ++ le k c.args.number) e
