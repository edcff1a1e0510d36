use Rattle.x86_meaning.proofs.Rows as rows
use Rattle.x86_meaning.proofs.laws.worked_moves.Goals as goal

pub returns : goal.returns
returns c = record { registers = rows.register_rows_seen; memory = rows.memory_rows_seen }
