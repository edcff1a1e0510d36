use Rattle.x86_grammar.proofs.Map.{row_right}
use Rattle.x86_grammar.proofs.Again.{row_again}
use Rattle.x86_grammar.proofs.opcode_map.opcode_map_is_right.Goals as goal

pub returns : goal.returns
returns c = record { right = row_right; whole = row_again }
