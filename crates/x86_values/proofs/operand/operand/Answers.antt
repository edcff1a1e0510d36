use Rattle.std.proofs.Common.{rules}
use Rattle.x86_values.proofs.OperandLemmas.{number_below}
use Rattle.x86_values.proofs.operand.operand.Goals as goal

pub returns-in-Known-Known-Known-Known-clause-below : goal.returns-in-Known-Known-Known-Known-clause-below
returns-in-Known-Known-Known-Known-clause-below c =
    let w = c.in-Known-Known-Known-Known in
    number_below c.args.size w.a w.b w.c w.d c.cut-word.result c.args.word c.requires.size c.cut-word.ensures.exact
    (search rules) (search rules) (search rules) (search rules) (search rules) (search rules) (search rules) (search rules)
