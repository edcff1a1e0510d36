use Rattle.std.proofs.Common.{◌∙◌, ap, sym}
use Rattle.plan_types.specs.Tables.{table_in}
use Rattle.code_scan.proofs.Behind.{no_run, is_empty}
use Rattle.code_scan.proofs.indexed.IndexedImage.table_at.Goals as goal

pub returns-in-None : goal.returns-in-None
returns-in-None c = record { table = no_run c.args.self.now ∙ ap (table_in c.args.self.now) (sym (sym c.as_slice.ensures ∙ is_empty c.as_slice.result.now c.in-None.ensures.cases)) }
