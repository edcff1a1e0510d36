use Rattle.std.proofs.Common.{◌<◌, ◌^◌, Ok, ap, ◌∙◌, arith}
use Rattle.x86_machine.specs.Standing.{steps_in}
use Rattle.x86_machine.proofs.Goings.{LawsBelow}
use Rattle.x86_machine.proofs.Running.{ended_before, starts, turned_on, turned_last, turned_outside, turned_wanting, rested}
use Rattle.x86_machine.proofs.machine.Machine.run.Goals as goal

pub returns-in-Some-clause-runs : goal.returns-in-Some-clause-runs
returns-in-Some-clause-runs g c = ended_before (g.H.Host.told c.args.host.now) c.args.self.now c.args.budget _ c.in-Some.is

pub loop-i-init : goal.loop-i-init
loop-i-init g c =
    let few : steps_in c.args.self.now < 2 ^ 64 = omega (arith, c.steps-steps.ensures, c.steps-steps.type_inv) in
    record { goes_on = starts (g.H.Host.told c.args.host.now) c.args.self.now few c.in_default.is; open_start = c.in_default.is; open_now = c.in_default.is; faults = omega arith }

pub loop-i-preserved : goal.loop-i-preserved
loop-i-preserved g c =
    let laws : LawsBelow = record { traces = c.trace_laws.ensures; runs = c.run_laws.ensures } in
    let h = rw c.in-Ok-On.field-0-is at c.in-Ok-On.ensures.turns in
    record {
      goes_on = turned_on laws (g.H.Host.told c.args.host.now) (g.H.Host.told c.loop-i.host) (g.H.Host.told c.turn.new.host) c.loop-i.i c.args.self.now c.loop-i.self c.turn.new.self c.loop-i.invariant.goes_on h;
      open_start = c.loop-i.invariant.open_start;
      open_now = c.turn.ensures.on (c.in-Ok-On.is ∙ ap Ok c.in-Ok-On.field-0-is);
      faults = omega (arith, c.loop-i.invariant.faults, c.turn.ensures.faults);
    }

pub returns-in-Err-clause-runs : goal.returns-in-Err-clause-runs
returns-in-Err-clause-runs g c =
    let laws : LawsBelow = record { traces = c.trace_laws.ensures; runs = c.run_laws.ensures } in
    turned_wanting laws (g.H.Host.told c.args.host.now) (g.H.Host.told c.loop-i.host) (g.H.Host.told c.turn.new.host) c.loop-i.i c.args.self.now c.loop-i.self c.turn.new.self c.loop-i.invariant.goes_on c.args.budget c.loop-i.invariant.open_start _ (omega (arith, c.loop-i-test.true)) c.in-Err.ensures.turns

pub returns-in-Ok-Ended-clause-runs : goal.returns-in-Ok-Ended-clause-runs
returns-in-Ok-Ended-clause-runs g c =
    let laws : LawsBelow = record { traces = c.trace_laws.ensures; runs = c.run_laws.ensures } in
    let h = rw c.in-Ok-Ended.field-0-is at c.in-Ok-Ended.ensures.turns in
    turned_last laws (g.H.Host.told c.args.host.now) (g.H.Host.told c.loop-i.host) (g.H.Host.told c.turn.new.host) c.loop-i.i c.args.self.now c.loop-i.self c.turn.new.self c.loop-i.invariant.goes_on c.args.budget c.loop-i.invariant.open_start c.in-Ok-Ended.end (omega (arith, c.loop-i-test.true)) h

pub returns-in-Ok-Outside-clause-runs : goal.returns-in-Ok-Outside-clause-runs
returns-in-Ok-Outside-clause-runs g c =
    let laws : LawsBelow = record { traces = c.trace_laws.ensures; runs = c.run_laws.ensures } in
    let h = rw c.in-Ok-Outside.field-0-is at c.in-Ok-Outside.ensures.turns in
    turned_outside laws (g.H.Host.told c.args.host.now) (g.H.Host.told c.loop-i.host) (g.H.Host.told c.turn.new.host) c.loop-i.i c.args.self.now c.loop-i.self c.turn.new.self c.loop-i.invariant.goes_on c.args.budget c.loop-i.invariant.open_start (omega (arith, c.loop-i-test.true)) h

pub returns-clause-runs : goal.returns-clause-runs
returns-clause-runs g c =
    let laws : LawsBelow = record { traces = c.trace_laws.ensures; runs = c.run_laws.ensures } in
    rested laws (g.H.Host.told c.args.host.now) (g.H.Host.told c.loop-i.host) c.args.budget c.loop-i.i c.args.self.now c.loop-i.self c.rest.new.self _ (omega (arith, c.loop-i-test.false, c.loop-i.auto.i-end)) c.loop-i.invariant.open_start c.loop-i.invariant.goes_on c.rest.ensures
