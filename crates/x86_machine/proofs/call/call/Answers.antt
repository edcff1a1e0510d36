use Rattle.std.proofs.Common.{sym, ◌∙◌, ap, refl}
use Rattle.x86_meaning.specs.Registers.{with_register}
use Rattle.mem_pages.specs.Contents.{memory_in}
use Rattle.x86_step.specs.Steps.{registers_of}
use Rattle.x86_machine.proofs.Calling.{tells_wanting, tells_ended, tells_lost, tells_returned}
use Rattle.x86_machine.proofs.call.call.Goals as goal

pub returns-in-Err-clause-calls : goal.returns-in-Err-clause-calls
returns-in-Err-clause-calls g c = tells_wanting _ _ c.args.cpu.now _ _ _ c.request-request.ensures _ c.in-Err.ensures.makes

pub returns-in-Ok-Ended-clause-calls : goal.returns-in-Ok-Ended-clause-calls
returns-in-Ok-Ended-clause-calls g c = tells_ended _ _ c.args.cpu.now _ _ _ c.request-request.ensures _ _ c.in-Ok-Ended.field-0-is c.in-Ok-Ended.ensures.makes

pub returns-in-None-clause-calls : goal.returns-in-None-clause-calls
returns-in-None-clause-calls g c =
    tells_lost _ _ c.args.cpu.now _ _ _ c.request-request.ensures _ c.in-Ok-Returned.result (record c.args.cpu.now { regs = c.set_eax.new.regs }) (memory_in c.make_call.new.pages) c.in-Ok-Returned.field-0-is
    (record { regs = c.set_eax.ensures ∙ ap (λ w. with_register 0 w (registers_of c.args.cpu.now.regs)) c.word_of.ensures; cpu = refl }) (sym c.known_esp.ensures ∙ c.in-None.is) c.in-Ok-Returned.ensures.makes

pub returns-in-Some-clause-calls : goal.returns-in-Some-clause-calls
returns-in-Some-clause-calls g c =
    tells_returned _ _ c.args.cpu.now _ _ _ c.request-request.ensures _ c.in-Ok-Returned.result c.in-Some.esp (record c.args.cpu.now { regs = c.set_eax.new.regs }) _ c.in-Ok-Returned.field-0-is
    (record { regs = c.set_eax.ensures ∙ ap (λ w. with_register 0 w (registers_of c.args.cpu.now.regs)) c.word_of.ensures; cpu = refl }) (sym c.known_esp.ensures ∙ c.in-Some.is) c.forget_below.ensures.forgets c.in-Ok-Returned.ensures.makes
