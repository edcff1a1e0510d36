use Rattle.std.proofs.Common.{refl, sym, ap, ◌∙◌}
use Rattle.x86_values.specs.Words.{known}
use Rattle.memory.specs.Memory.{forget_below}
use Rattle.x86_step.specs.Steps.{registers_of}
use Rattle.x86_step.proofs.Reading.{esp_written}
use Rattle.x86_step.proofs.make.make_push.Goals as goal

pub returns-in-Ok-clause-made : goal.returns-in-Ok-clause-made
returns-in-Ok-clause-made c =
    record {
      registers_are = c.set_register.ensures;
      flags_are = refl;
      eip_is = c.eip_after-cpu.ensures;
      esp = c.in-Some.end;
      is_esp = ap known (sym (esp_written c.args.esp (registers_of c.args.cpu.now.regs))) ∙ sym c.in-Some.ensures;
      is_allowed = c.in-Ok.ensures.stores.allowed;
      memory_is = c.forget_below.ensures.forgets ∙ ap (forget_below c.in-Some.end) c.in-Ok.ensures.stores.memory;
    }
