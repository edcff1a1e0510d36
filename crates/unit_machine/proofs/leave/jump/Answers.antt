use Rattle.std.proofs.Common.{sym, ◌∙◌}
use Rattle.mem_pages.specs.Contents.{memory_in}
use Rattle.unit_machine.proofs.Leaving.{jump_unknown, jump_nowhere, jump_there, index_within}
use Rattle.unit_machine.proofs.leave.jump.Goals as goal

pub returns-in-None-clause-leaves : goal.returns-in-None-clause-leaves
returns-in-None-clause-leaves c turn = jump_unknown c.args.unit.now c.args.values.now (memory_in c.args.pages.now) c.args.to c.term.result c.term.ensures turn (sym c.known.ensures ∙ c.in-None.is)

pub returns-in-None-find-clause-leaves : goal.returns-in-None-find-clause-leaves
returns-in-None-find-clause-leaves c turn = jump_nowhere c.args.unit.now c.args.values.now (memory_in c.args.pages.now) c.args.to c.term.result c.term.ensures turn c.requires.procs c.in-Some.at (sym c.known.ensures ∙ c.in-Some.is) (sym (c.requires.indexed.places c.in-Some.at) ∙ sym c.find.ensures ∙ c.in-None-find.is)

pub returns-in-Some-find-clause-leaves : goal.returns-in-Some-find-clause-leaves
returns-in-Some-find-clause-leaves c turn = jump_there c.args.unit.now c.args.values.now (memory_in c.args.pages.now) c.args.to c.term.result c.term.ensures turn c.requires.procs c.in-Some.at (sym c.known.ensures ∙ c.in-Some.is) c.in-Some-find.place (sym (c.requires.indexed.places c.in-Some.at) ∙ sym c.find.ensures ∙ c.in-Some-find.is)

pub returns-in-Some-find-clause-there : goal.returns-in-Some-find-clause-there
returns-in-Some-find-clause-there c = index_within c.in-Some.at c.args.unit.now.whole c.in-Some-find.place (sym (c.requires.indexed.places c.in-Some.at) ∙ sym c.find.ensures ∙ c.in-Some-find.is)
