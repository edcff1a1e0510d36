use Rattle.x86_meaning.proofs.Rows as rows
use Rattle.x86_meaning.proofs.laws.worked_calls.Goals as goal

pub returns : goal.returns
returns c = record {
  ends = rows.end_rows_seen;
  writes = rows.write_rows_seen;
  reads = rows.read_rows_seen;
  rules = rows.rule_rows_seen;
  cap = rows.asks_for_cap;
  stack_is_start = rows.stack_is_start;
  lowest_start = rows.lowest_start;
  next_start = rows.next_start;
  highest_start = rows.highest_start;
  widest = rows.widest;
}
