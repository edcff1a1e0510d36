use Rattle.std.proofs.Common.{sym, ap, ◌∙◌}
use Rattle.x86_values.specs.Words.{known}
use Rattle.mem_pages.specs.Contents.{memory_in}
use Rattle.unit_machine.proofs.Leaving.{stops_plain, stops_known, stops_unknown, loaded_word, unmapped_word}
use Rattle.unit_machine.proofs.leave.stop.Goals as goal

pub returns-then-not-unit-clause-leaves : goal.returns-then-not-unit-clause-leaves
returns-then-not-unit-clause-leaves c = stops_plain c.args.unit.now c.args.turn c.args.values.now (memory_in c.args.pages.now) c.if-not-unit.true

pub returns-in-None-clause-leaves : goal.returns-in-None-clause-leaves
returns-in-None-clause-leaves c = stops_unknown c.args.unit.now c.args.turn c.args.values.now (memory_in c.args.pages.now) c.if-not-unit.false (unmapped_word (memory_in c.args.pages.now) 0x75000004 (sym c.load.ensures ∙ c.in-None.is))

pub returns-in-None-known-clause-leaves : goal.returns-in-None-known-clause-leaves
returns-in-None-known-clause-leaves c = stops_unknown c.args.unit.now c.args.turn c.args.values.now (memory_in c.args.pages.now) c.if-not-unit.false
    (ap known (loaded_word (memory_in c.args.pages.now) 0x75000004 c.in-Some.word (sym c.load.ensures ∙ c.in-Some.is)) ∙ sym c.known.ensures ∙ c.in-None-known.is)

pub returns-in-Some-known-clause-leaves : goal.returns-in-Some-known-clause-leaves
returns-in-Some-known-clause-leaves c = stops_known c.args.unit.now c.args.turn c.args.values.now (memory_in c.args.pages.now) c.in-Some-known.at c.if-not-unit.false
    (ap known (loaded_word (memory_in c.args.pages.now) 0x75000004 c.in-Some.word (sym c.load.ensures ∙ c.in-Some.is)) ∙ sym c.known.ensures ∙ c.in-Some-known.is)
