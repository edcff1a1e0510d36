use Rattle.std.proofs.Common.{sym}
use Rattle.x86_step.proofs.DirectProducts.{multiplied}
use Rattle.x86_step.proofs.direct_products.product_of.Goals as goal

pub returns-in-Some-Some : goal.returns-in-Some-Some
returns-in-Some-Some c = let p = c.in-Some-Some in multiplied c.args.x c.args.y c.low_half.result.low c.low_half.result.flags p.x p.y (sym p.ensures) (sym p.ensures') c.low_half.ensures.low c.low_half.ensures.flags
