use Rattle.std.proofs.Common.{[], ◌∷◌, sym, ◌∙◌}
use Rattle.x86_step.specs.Transferred.{operand_of}
use Rattle.x86_step.proofs.effect.write_all.Goals as goal

pub returns-in-EspThen : goal.returns-in-EspThen
returns-in-EspThen c = record { written = rw c.in-EspThen.is (sym (rw c.whole.ensures at (c.write_next-values.ensures.written (operand_of c.in-EspThen.operand ∷ [])) ∙ c.write_first.ensures.written [])) }
