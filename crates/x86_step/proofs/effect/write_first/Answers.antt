use Rattle.x86_step.specs.Judged.{effect_seen}
use Rattle.x86_step.specs.Transferred.{operand_of}
use Rattle.x86_step.proofs.Writing.{nothing_next}
use Rattle.x86_step.proofs.effect.write_first.Goals as goal

pub returns-in-Zero : goal.returns-in-Zero
returns-in-Zero c = record { written = λ more. rw c.in-Zero.is (nothing_next (operand_of c.args.operand) more (effect_seen c.args.effect.now)) }
