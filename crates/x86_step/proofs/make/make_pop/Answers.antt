use Rattle.std.proofs.Common.{refl, sym, ap, ◌∙◌}
use Rattle.x86_values.specs.Words.{known}
use Rattle.x86_types.specs.Numbers.{number_of_reg}
use Rattle.x86_meaning.specs.Registers.{with_register}
use Rattle.x86_step.proofs.make.make_pop.Goals as goal

pub returns-in-Some-clause-made : goal.returns-in-Some-clause-made
returns-in-Some-clause-made c =
    record {
      registers_are = c.set_register-in-Some.ensures ∙ ap (with_register (number_of_reg c.args.to) c.args.word) c.set_register.ensures;
      flags_are = refl;
      eip_is = c.eip_after-cpu.ensures;
      esp = c.in-Some.end;
      is_esp = ap known (sym c.esp_left.ensures) ∙ sym c.in-Some.ensures;
      is_allowed = refl;
      memory_is = c.forget_below.ensures.forgets;
    }
