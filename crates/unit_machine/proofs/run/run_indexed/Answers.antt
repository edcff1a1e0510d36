use Rattle.std.proofs.Common.{Ok, ap, ◌∙◌, arith}
use Rattle.mem_pages.specs.Contents.{memory_in}
use Rattle.unit_machine.proofs.Running.{starts, stepped, stepped_last, stepped_wanting, spent}
use Rattle.unit_machine.proofs.run.run_indexed.Goals as goal

pub loop-i-init : goal.loop-i-init
loop-i-init g c = record { goes_on = starts c.args.unit.now c.args.at.now (memory_in c.args.pages.now) (g.H.Host.told c.args.host.now); placed = c.requires.placed; faults = omega arith }

pub loop-i-preserved : goal.loop-i-preserved
loop-i-preserved g c =
    let h = rw c.in-Ok-None.field-0-is at c.in-Ok-None.ensures.moves in
    record {
      goes_on = stepped c.args.unit.now c.args.at.now (memory_in c.args.pages.now) c.trace_laws.ensures c.run_laws.ensures c.loop-i.i c.loop-i.at (memory_in c.loop-i.pages) (g.H.Host.told c.args.host.now) (g.H.Host.told c.loop-i.host) c.loop-i.invariant.goes_on (g.H.Host.told c.step.new.host) c.step.new.at (memory_in c.step.new.pages) h;
      placed = c.step.ensures.placed (c.in-Ok-None.is ∙ ap Ok c.in-Ok-None.field-0-is);
      faults = omega (arith, c.loop-i.invariant.faults, c.step.ensures.faults);
    }

pub returns-in-Err-clause-runs : goal.returns-in-Err-clause-runs
returns-in-Err-clause-runs g c =
    stepped_wanting c.args.unit.now c.args.at.now (memory_in c.args.pages.now) c.trace_laws.ensures c.run_laws.ensures c.loop-i.i c.loop-i.at (memory_in c.loop-i.pages) (g.H.Host.told c.args.host.now) (g.H.Host.told c.loop-i.host) c.loop-i.invariant.goes_on c.loop-i.invariant.placed
    (g.H.Host.told c.step.new.host) c.step.new.at (memory_in c.step.new.pages) c.args.budget c.in-Err.error (omega (arith, c.loop-i-test.true)) c.in-Err.ensures.moves

pub returns-in-Ok-Some-clause-runs : goal.returns-in-Ok-Some-clause-runs
returns-in-Ok-Some-clause-runs g c =
    let h = rw c.in-Ok-Some.field-0-is at c.in-Ok-Some.ensures.moves in
    stepped_last c.args.unit.now c.args.at.now (memory_in c.args.pages.now) c.trace_laws.ensures c.run_laws.ensures c.loop-i.i c.loop-i.at (memory_in c.loop-i.pages) (g.H.Host.told c.args.host.now) (g.H.Host.told c.loop-i.host) c.loop-i.invariant.goes_on
    (g.H.Host.told c.step.new.host) c.step.new.at (memory_in c.step.new.pages) c.args.budget c.in-Ok-Some.end (omega (arith, c.loop-i-test.true)) h

pub returns-clause-runs : goal.returns-clause-runs
returns-clause-runs g c =
    spent c.args.unit.now c.args.at.now (memory_in c.args.pages.now) c.trace_laws.ensures c.run_laws.ensures c.loop-i.i c.loop-i.at (memory_in c.loop-i.pages) (g.H.Host.told c.args.host.now) (g.H.Host.told c.loop-i.host) c.loop-i.invariant.goes_on c.loop-i.invariant.placed
    c.args.budget (omega (arith, c.loop-i-test.false, c.loop-i.auto.i-end))
