use Rattle.std.proofs.Common.{refl, arith}
use Rattle.linear_sweep.proofs.linear.more.Goals as goal

pub overflow_add-result-in-One : goal.overflow_add-result-in-One
overflow_add-result-in-One c =
    let p = c.decode.ensures.fits c.in-One.field-0 c.in-One.length c.in-One.is in
    omega (arith, p.2, c.requires.room)

pub returns-in-One : goal.returns-in-One
returns-in-One c =
    let p = c.decode.ensures.fits c.in-One.field-0 c.in-One.length c.in-One.is in
    record {
      front = c.decode.result;
      decodes = record { one = c.decode.ensures.one; short = c.decode.ensures.short; outside = c.decode.ensures.outside };
      is = rw c.in-One.is refl;
      sum = rw c.in-One.is (omega arith);
      some = omega (arith, p.0);
      within = omega (arith, p.2);
      few = omega (arith, p.0, c.requires.few);
    }
