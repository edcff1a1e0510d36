use Rattle.x86_step.specs.Judged.{effect_seen}
use Rattle.x86_step.specs.Transferred.{as_field}
use Rattle.x86_step.proofs.Writing.{nothing_next}
use Rattle.x86_step.proofs.effect.write_next.Goals as goal

pub returns-in-Zero-clause-written : goal.returns-in-Zero-clause-written
returns-in-Zero-clause-written c = λ more. rw c.in-Zero.is (nothing_next (as_field c.args.field) more (effect_seen c.args.effect.now))
