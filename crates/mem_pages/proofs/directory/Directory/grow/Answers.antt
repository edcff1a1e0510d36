use Rattle.std.proofs.Common.{◌/◌}
use Rattle.mem_pages.proofs.directory.Directory.grow.Goals as goal
use Rattle.mem_pages.proofs.Tables.{has_grown, not_grown, has_page}

pub returns-in-Some-clause-grown : goal.returns-in-Some-clause-grown
returns-in-Some-clause-grown c = has_grown c.args.self.now c.grow_tables.new.self (c.args.number / 1024) c.in-Some.table.now c.grow.new.self c.grow_tables.ensures.same c.in-Some.ensures.value c.grow.ensures.grown

pub returns-in-Some-clause-has : goal.returns-in-Some-clause-has
returns-in-Some-clause-has c = has_page c.grow.result c.grow_tables.new.self c.args.number c.in-Some.table.now c.grow.new.self c.in-Some.ensures.value c.grow.ensures.has

pub returns-in-None-clause-grown : goal.returns-in-None-clause-grown
returns-in-None-clause-grown c = not_grown c.args.self.now c.grow_tables.new.self c.grow_tables.ensures.same
