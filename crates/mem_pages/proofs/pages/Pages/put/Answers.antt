use Rattle.std.proofs.Common.{◌∙◌, refl}
use Rattle.mem_pages.proofs.pages.Pages.put.Goals as goal
use Rattle.mem_pages.proofs.Shown.{is_kept_there, put_byte, put_after, keeps_pages, keeps_then}
use Rattle.mem_pages.proofs.Swept.{quiet_put}

pub put-requires : goal.put-requires
put-requires c = is_kept_there c.ready.new.self c.args.at (c.ready.ensures.keeps.kept c.args.at c.requires)

pub returns-clause-memory : goal.returns-clause-memory
returns-clause-memory c = put_byte c.ready.new.self _ c.args.at c.args.byte refl c.ready.ensures.ready c.put.ensures.places ∙ put_after c.args.at c.args.byte _ _ c.ready.ensures.same.memory

pub returns-clause-keeps : goal.returns-clause-keeps
returns-clause-keeps c = keeps_then c.args.self.now c.ready.new.self _ c.ready.ensures.keeps (keeps_pages c.ready.new.self _ c.put.ensures.keeps)

pub invariant_of-self : goal.invariant_of-self
invariant_of-self c = record { quiet = quiet_put c.ready.new.self.exposed c.ready.new.self.directory c.put.new.self c.args.at c.args.byte c.ready.ensures.listed.off c.put.ensures.places c.ready.new.self.quiet }
