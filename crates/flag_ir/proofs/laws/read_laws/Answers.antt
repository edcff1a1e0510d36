use Rattle.flag_ir.proofs.Reading as reading
use Rattle.flag_ir.proofs.Changing as changing
use Rattle.flag_ir.proofs.ReadLists as lists
use Rattle.flag_ir.proofs.laws.read_laws.Goals as goal

pub returns : goal.returns
returns c = record {
  perform_agrees = λ turn o ls u v h. reading.perform_agrees ls u v h turn o;
  shown_agrees = λ o ls u v h. reading.shown_agrees ls u v h o;
  perform_changes = changing.perform_changes;
  performs_agree = lists.performs_agree;
  shown_all_agree = lists.shown_all_agree;
  performs_change = lists.performs_change;
}
