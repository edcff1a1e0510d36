use Rattle.sw_top.proofs.RowLemmas.{order_rows}
use Rattle.sw_top.proofs.laws.worked_rows.Goals as goal

pub returns-clause-order : goal.returns-clause-order
returns-clause-order c = order_rows (record { stored_file = c.host_laws.ensures.stored_file; other_files = c.host_laws.ensures.other_files })
