use Rattle.std.proofs.Common.{refl, sym}
use Rattle.x86_grammar.specs.Table.{entry_of}
use Rattle.x86_grammar.proofs.Bytes.{past}
use Rattle.x86_grammar.proofs.opcode_map.entry_at.Goals as goal

pub returns-then-opcode-lt512 : goal.returns-then-opcode-lt512
unfolding entry_of
returns-then-opcode-lt512 c = record { entry = refl }

pub returns-else-opcode-lt512 : goal.returns-else-opcode-lt512
returns-else-opcode-lt512 c = record { entry = sym (past c.args.opcode c.if-opcode-lt512.false) }
