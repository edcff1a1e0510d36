use Rattle.std.proofs.Common.{arith, sym}
use Rattle.x86_decode.proofs.Laws.{bytes_from, left_fits}
use Rattle.x86_decode.proofs.decoding.judge.Goals as goal

pub overflow_sub-result : goal.overflow_sub-result
overflow_sub-result c =
    left_fits c.reading_is_right.ensures.right c.args.front.now c.in-Found.instr c.in-Found.left (bytes_from c.args.front.now (λ i. omega (arith, c.type_inv.front i))) (sym c.in-Found.ensures)
