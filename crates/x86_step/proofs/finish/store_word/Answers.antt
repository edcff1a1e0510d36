use Rattle.x86_step.proofs.Storing.{no_size}
use Rattle.x86_step.proofs.finish.store_word.Goals as goal

pub returns-in-Zero-clause-stores : goal.returns-in-Zero-clause-stores
returns-in-Zero-clause-stores c = no_size c.args.at c.args.size c.args.word c.args.mem.now c.in-Zero.is
