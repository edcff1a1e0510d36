use Rattle.std.proofs.Common.{◌≡◌, Some, refl}
use Rattle.x86_machine.specs.declared.kept.KeptInstr.{KeptInstr}
use Rattle.x86_machine.specs.Kept.{code_by}
use Rattle.x86_machine.proofs.Fetching.{none_stands, some_stands}
use Rattle.x86_machine.proofs.Turning.{as_before, waits, stood_outside}
use Rattle.x86_machine.proofs.machine.Machine.rest.Goals as goal

pub returns-in-Err : goal.returns-in-Err
returns-in-Err c = as_before c.args.self.now _ c.fetch.ensures.same refl refl refl refl

pub returns-in-Ok-None : goal.returns-in-Ok-None
returns-in-Ok-None c = stood_outside c.step_laws.ensures c.args.self.now _ (none_stands c.args.self.now.cpu.eip _ c.args.self.now.code c.fetch.new.self c.fetch.ensures.same c.in-Ok-None.ensures.fetched c.in-Ok-None.field-0-is) c.fetch.ensures.same refl refl

pub returns-in-Ok-Some : goal.returns-in-Ok-Some
returns-in-Ok-Some c =
    let k : (k : KeptInstr) × (code_by c.args.self.now.code.segments c.args.self.now.cpu.eip ≡ Some (k.instr, k.len)) = some_stands c.args.self.now.cpu.eip _ c.args.self.now.code c.fetch.new.self c.fetch.ensures.same c.in-Ok-Some.ensures.fetched c.in-Ok-Some.field-0-0 c.in-Ok-Some.field-0-is in
    waits c.step_laws.ensures c.args.self.now _ k.0.instr k.0.len k.1 (as_before c.args.self.now _ c.fetch.ensures.same refl refl refl refl)
