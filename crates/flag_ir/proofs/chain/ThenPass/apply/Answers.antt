use Rattle.std.proofs.Common.{IfOk, Result, Ok, Err}
use Rattle.std.specs.declared.alloc.AllocError.{AllocError}
use Rattle.flag_ir.specs.Entering.{CodeUnit}
use Rattle.flag_ir.specs.Chained.{AreGiven}
use Rattle.flag_ir.specs.Keeps.{Passes}
use Rattle.flag_ir.specs.PassLaws.{PassLaws}
use Rattle.flag_ir.proofs.chain.ThenPass.apply.Goals as goal

-- the second pass gives what the chain gives
chained : (laws : PassLaws) (gives more : CodeUnit → CodeUnit → Type 0) (u v : CodeUnit) → Passes u v → gives u v → (r : Result CodeUnit AllocError) → IfOk r (λ w. Passes v w × more v w) → IfOk r (λ w. Passes u w × AreGiven gives more u w)
chained laws gives more u v passed given (Ok w) h = (laws.passes_then u v w passed h.0, record { between = v; passed = passed; at_first = given; passes = h.0; at_second = h.1 })
chained laws gives more u v passed given (Err e) h = tt

pub returns-in-Ok : goal.returns-in-Ok
returns-in-Ok g c = chained c.pass_laws.ensures _ _ c.args.unit c.in-Ok.between c.in-Ok.ensures.0 c.in-Ok.ensures.1 c.apply-in-Ok.result c.apply-in-Ok.ensures
