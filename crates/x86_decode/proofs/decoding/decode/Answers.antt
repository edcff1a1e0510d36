use Rattle.std.proofs.Common.{arith}
use Rattle.x86_decode.proofs.Laws.{bytes_from, one_exact, short_exact, outside_exact, computed_exact, one_fits, one_spelled}
use Rattle.x86_decode.proofs.decoding.decode.Goals as goal

pub returns-clause-one : goal.returns-clause-one
returns-clause-one c = λ i len. rw c.decode_front.ensures (one_exact c.reading_is_right.ensures.right c.args.bytes.now (bytes_from c.args.bytes.now (λ i. omega (arith, c.type_inv.bytes i))) i len)

pub returns-clause-short : goal.returns-clause-short
returns-clause-short c = rw c.decode_front.ensures (short_exact c.reading_is_right.ensures.right c.args.bytes.now (bytes_from c.args.bytes.now (λ i. omega (arith, c.type_inv.bytes i))))

pub returns-clause-outside : goal.returns-clause-outside
returns-clause-outside c = rw c.decode_front.ensures (outside_exact c.reading_is_right.ensures.right c.args.bytes.now (bytes_from c.args.bytes.now (λ i. omega (arith, c.type_inv.bytes i))))

pub returns-clause-computed : goal.returns-clause-computed
returns-clause-computed c = λ i len. rw c.decode_front.ensures (computed_exact c.reading_is_right.ensures.right c.args.bytes.now (bytes_from c.args.bytes.now (λ i. omega (arith, c.type_inv.bytes i))) c.front_laws.ensures.spelling i len)

pub returns-clause-fits : goal.returns-clause-fits
returns-clause-fits c = λ i len. rw c.decode_front.ensures (one_fits c.reading_is_right.ensures.right c.args.bytes.now (bytes_from c.args.bytes.now (λ i. omega (arith, c.type_inv.bytes i))) c.front_laws.ensures.spelling i len)

pub returns-clause-spelled : goal.returns-clause-spelled
returns-clause-spelled c = λ i len. rw c.decode_front.ensures (one_spelled c.reading_is_right.ensures.right c.args.bytes.now (bytes_from c.args.bytes.now (λ i. omega (arith, c.type_inv.bytes i))) i len)
