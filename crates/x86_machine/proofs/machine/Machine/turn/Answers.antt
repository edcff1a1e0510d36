use Rattle.std.proofs.Common.{◌≡◌, Some, refl}
use Rattle.mem_pages.specs.Contents.{memory_in}
use Rattle.x86_machine.specs.Kept.{code_by}
use Rattle.x86_machine.proofs.Fetching.{stands, none_stands}
use Rattle.x86_machine.proofs.Turning.{as_before, turns_on, turns_last, turns_wanting, stood_outside, turns_outside, turns_unfetched}
use Rattle.x86_machine.proofs.machine.Machine.turn.Goals as goal

pub returns-in-Err-clause-turns : goal.returns-in-Err-clause-turns
returns-in-Err-clause-turns g c = turns_unfetched (g.H.Host.told c.args.host.now) c.args.self.now _ _ (as_before c.args.self.now _ c.fetch.ensures.same refl refl refl refl)

pub returns-in-Ok-None-clause-turns : goal.returns-in-Ok-None-clause-turns
returns-in-Ok-None-clause-turns g c = turns_outside (g.H.Host.told c.args.host.now) c.args.self.now _
    (stood_outside c.step_laws.ensures c.args.self.now _ (none_stands c.args.self.now.cpu.eip _ c.args.self.now.code c.fetch.new.self c.fetch.ensures.same c.in-Ok-None.ensures.fetched c.in-Ok-None.field-0-is) c.fetch.ensures.same refl refl)

pub returns-in-Err-make_step-clause-turns : goal.returns-in-Err-make_step-clause-turns
returns-in-Err-make_step-clause-turns g c =
    let at : code_by c.args.self.now.code.segments c.args.self.now.cpu.eip ≡ Some (c.get-kept.result.now.instr, c.get-kept.result.now.len) = stands c.args.self.now.cpu.eip _ c.args.self.now.code c.fetch.new.self c.fetch.ensures.same c.in-Ok-Some.ensures.fetched c.in-Ok-Some.index c.get-kept.result.now c.in-Ok-Some.field-0-is c.get-kept.ensures in
    turns_wanting c.step_laws.ensures c.args.self.now _ _ _ at (g.H.Host.told c.args.host.now) (g.H.Host.told c.make_step.new.host) c.fetch.ensures.same _ refl refl c.in-Err-make_step.ensures.steps

pub returns-in-Ok-None-make_step-clause-turns : goal.returns-in-Ok-None-make_step-clause-turns
returns-in-Ok-None-make_step-clause-turns g c =
    let at : code_by c.args.self.now.code.segments c.args.self.now.cpu.eip ≡ Some (c.get-kept.result.now.instr, c.get-kept.result.now.len) = stands c.args.self.now.cpu.eip _ c.args.self.now.code c.fetch.new.self c.fetch.ensures.same c.in-Ok-Some.ensures.fetched c.in-Ok-Some.index c.get-kept.result.now c.in-Ok-Some.field-0-is c.get-kept.ensures in
    let h = rw c.in-Ok-None-make_step.field-0-is at c.in-Ok-None-make_step.ensures.steps in
    turns_on c.step_laws.ensures c.args.self.now _ _ _ at (g.H.Host.told c.args.host.now) (g.H.Host.told c.make_step.new.host) c.fetch.ensures.same c.one_more-self.ensures c.requires h

pub returns-in-Ok-Some-make_step-clause-turns : goal.returns-in-Ok-Some-make_step-clause-turns
returns-in-Ok-Some-make_step-clause-turns g c =
    let at : code_by c.args.self.now.code.segments c.args.self.now.cpu.eip ≡ Some (c.get-kept.result.now.instr, c.get-kept.result.now.len) = stands c.args.self.now.cpu.eip _ c.args.self.now.code c.fetch.new.self c.fetch.ensures.same c.in-Ok-Some.ensures.fetched c.in-Ok-Some.index c.get-kept.result.now c.in-Ok-Some.field-0-is c.get-kept.ensures in
    let h = rw c.in-Ok-Some-make_step.field-0-is at c.in-Ok-Some-make_step.ensures.steps in
    turns_last c.step_laws.ensures c.args.self.now _ _ _ at (g.H.Host.told c.args.host.now) (g.H.Host.told c.make_step.new.host) c.fetch.ensures.same c.in-Ok-Some-make_step.end c.make_step.new.cpu (memory_in c.make_step.new.pages) c.one_more-self-in-Ok-Some-make_step.ensures refl h
