use Rattle.std.proofs.Common.{◌≡◌, Some, None, refl, sym, ap, ◌∙◌}
use Rattle.mem_pages.specs.Contents.{memory_in}
use Rattle.flag_ir.specs.Entering.{index_at}
use Rattle.unit_machine.proofs.Leaving.{index_within}
use Rattle.unit_machine.proofs.Moving.{placed_first}
use Rattle.unit_machine.proofs.Starting.{runnable, tells_stops, tells_same, starts_at}
use Rattle.unit_machine.proofs.run.run_unit.Goals as goal

pub run_on-requires-clause-runnable : goal.run_on-requires-clause-runnable
run_on-requires-clause-runnable g c = runnable c.args.unit.now c.requires.form c.requires.frameless

pub run_on-requires-clause-placed : goal.run_on-requires-clause-placed
run_on-requires-clause-placed g c =
    let there : index_at c.args.entry c.args.unit.now.whole ≡ Some c.in-Some.index = ap (index_at c.args.entry) (sym c.as_slice.ensures) ∙ sym c.find_block.ensures ∙ c.in-Some.is in
    placed_first c.args.unit.now _ refl (index_within c.args.entry c.args.unit.now.whole c.in-Some.index there)

pub returns-in-None-clause-runs : goal.returns-in-None-clause-runs
returns-in-None-clause-runs g c m stack memory =
    let none : index_at c.args.entry c.args.unit.now.whole ≡ None = ap (index_at c.args.entry) (sym c.as_slice.ensures) ∙ sym c.find_block.ensures ∙ c.in-None.is in
    tells_stops c.args.unit.now c.requires.frameless.procs m c.args.entry c.args.esp0 stack c.run_laws.ensures none (g.H.Host.told c.args.host.now) c.args.budget

pub returns-in-Some-clause-runs : goal.returns-in-Some-clause-runs
returns-in-Some-clause-runs g c m stack memory =
    let there : index_at c.args.entry c.args.unit.now.whole ≡ Some c.in-Some.index = ap (index_at c.args.entry) (sym c.as_slice.ensures) ∙ sym c.find_block.ensures ∙ c.in-Some.is in
    tells_same c.args.unit.now c.requires.frameless.procs m c.args.entry c.args.esp0 stack (record { values = c.first_values.result; turn = 0; block = c.in-Some.index; op = 0 }) (memory_in c.args.pages.now) c.in-Some.index there
    (starts_at c.args.unit.now c.first_values.result c.in-Some.index (memory_in c.args.pages.now) m c.args.esp0 stack c.first_values.ensures.regs c.first_values.ensures.flags c.first_values.ensures.temps c.first_values.ensures.esp0 memory)
    (g.H.Host.told c.args.host.now) (g.H.Host.told c.run_on.new.host) c.run_on.result c.args.budget c.run_on.ensures.runs
