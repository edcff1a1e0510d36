use Rattle.std.proofs.Common.{arith}
use Rattle.mem_pages.proofs.exposed.Exposed.add.Goals as goal
use Rattle.mem_pages.proofs.Listed.{added, not_added}

pub returns-in-Ok : goal.returns-in-Ok
returns-in-Ok c = added c.args.number c.args.self.now c.insert.new.self c.in-Ok.ensures.updates

pub returns-in-Err : goal.returns-in-Err
returns-in-Err c = not_added c.args.number c.min-self.result c.args.self.now c.insert.new.self (omega (arith, c.min-self.ensures)) (omega (arith, c.min-self.ensures)) c.in-Err.ensures.err
