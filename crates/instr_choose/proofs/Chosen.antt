-- The code that is made of a lowered unit does what is promised of it.
use Rattle.std.proofs.Common.{◌≡◌, true, List, sym, subst}
use Rattle.flag_ir.specs.Entering.{CodeUnit}
use Rattle.flag_ir.specs.Form.{IsInForm}
use Rattle.flag_ir.specs.Shape.{IsWellShaped}
use Rattle.named_code.specs.declared.named.VBlock.{VBlock}
use Rattle.instr_choose.specs.Blocks.{choose_blocks, UnitHasNames}
use Rattle.instr_choose.specs.Words.{UnitFits}
use Rattle.instr_choose.specs.Choosing.{Chooses}
use Rattle.instr_choose.specs.ChosenLaw.{ChosenLaw}
use Rattle.instr_choose.proofs.Naming.{names_kept}
use Rattle.instr_choose.proofs.Forming.{in_form, can_be_placed, few_names}
use Rattle.instr_choose.proofs.Costing.{costs}
use Rattle.instr_choose.proofs.Meets.{UnitLawsBelow}
use Rattle.instr_choose.proofs.Starting.{keeps}
use Rattle.instr_choose.proofs.ApartRuns.{stays_apart}
use Rattle.instr_choose.proofs.ApartRefines.{keeps_apart}

pub chosen : UnitLawsBelow → ChosenLaw
chosen laws u form shape low names fits = record {
  form = in_form laws.spelling u form low names fits;
  placeable = can_be_placed laws.spelling u form low names fits;
  names = few_names laws.spelling u form low names fits;
  ats = names_kept u.whole;
  keeps = keeps laws u (record { form = form; shape = shape; low = low });
  costs = costs u form low;
  apart = stays_apart laws u (record { form = form; shape = shape; low = low });
  keeps_apart = keeps_apart laws u (record { form = form; shape = shape; low = low });
}

pub of_blocks : ChosenLaw → (u : CodeUnit) (code : List VBlock) → code ≡ choose_blocks u.whole → IsInForm u → IsWellShaped u → u.lowered ≡ true → UnitHasNames u → UnitFits u → Chooses u code
of_blocks law u code e form shape low names fits = subst (Chooses u) (sym e) (law u form shape low names fits)
