use Rattle.std.proofs.Common.{sym, ◌∙◌}
use Rattle.mem_pages.specs.Contents.{memory_in}
use Rattle.unit_machine.proofs.Leaving.{branch_unknown, branch_no, branch_yes}
use Rattle.unit_machine.proofs.leave.branch.Goals as goal

pub returns-in-None-clause-leaves : goal.returns-in-None-clause-leaves
returns-in-None-clause-leaves c turn = branch_unknown c.args.unit.now c.args.values.now (memory_in c.args.pages.now) c.args.test c.term.result c.term.ensures turn c.args.yes c.args.no (sym c.known.ensures ∙ c.in-None.is)

pub returns-in-Some-eq0-clause-leaves : goal.returns-in-Some-eq0-clause-leaves
returns-in-Some-eq0-clause-leaves c turn = branch_no c.args.unit.now c.args.values.now (memory_in c.args.pages.now) c.args.test c.term.result c.term.ensures turn c.args.yes c.args.no c.requires.numbered c.requires.form.2 c.in-Some-eq0.field-0 (sym c.known.ensures ∙ c.in-Some-eq0.is) c.in-Some-eq0.field-0-test

pub returns-in-Some-clause-leaves : goal.returns-in-Some-clause-leaves
returns-in-Some-clause-leaves c turn = branch_yes c.args.unit.now c.args.values.now (memory_in c.args.pages.now) c.args.test c.term.result c.term.ensures turn c.args.yes c.args.no c.requires.numbered c.requires.form.1 c.in-Some.field-0 (sym c.known.ensures ∙ c.in-Some.is) c.in-Some.field-0-test.1
