use Rattle.std.proofs.Common.{◌∙◌}
use Rattle.mem_pages.proofs.directory.Directory.grow_tables.Goals as goal
use Rattle.mem_pages.proofs.Tables.{pages_of_pushed}

pub tables-preserved : goal.tables-preserved
tables-preserved c i = pages_of_pushed _ _ c.empty.result i c.in_ok-push.ensures.items c.empty.ensures ∙ c.tables.invariant i
