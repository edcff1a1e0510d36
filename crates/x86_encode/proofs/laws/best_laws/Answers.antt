use Rattle.x86_encode.proofs.BestLaws.{best_laws_hold}
use Rattle.x86_encode.proofs.laws.best_laws.Goals as goal

pub returns : goal.returns
returns c = record {
  laws = best_laws_hold
      (record { forms_right = c.forms_are_right.ensures.right; reg_again = c.number_laws.ensures.registers; number_again = c.number_laws.ensures.registers_back })
      c.spelled_fields_fit.ensures.fields;
}
