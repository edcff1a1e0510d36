use Rattle.mem_pages.proofs.directory.Directory.is_stack.Goals as goal
use Rattle.mem_pages.proofs.Lifting.{off_stack_there, off_stack_nowhere}

pub returns-in-Some : goal.returns-in-Some
returns-in-Some c = off_stack_there c.args.self.now c.args.at c.in-Some.page.now c.is_stack.result c.in-Some.ensures c.is_stack.ensures

pub returns-in-None : goal.returns-in-None
returns-in-None c e = off_stack_nowhere c.args.self.now c.args.at c.in-None.ensures
