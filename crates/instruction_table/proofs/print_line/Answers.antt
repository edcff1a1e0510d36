use Rattle.std.proofs.Common.{List, ℕ, Some, take, refl, subst}
use Rattle.x86_types.specs.declared.instr.Instr.{Instr}
use Rattle.x86_grammar.specs.Fields.{HasSpelling}
use Rattle.x86_decode.specs.declared.decoding.Decoded.{Decoded}
use Rattle.x86_decode.specs.declared.decoding.Decoded.TheVariants.{One}
use Rattle.instruction_table.specs.declared.line.Seen.{Seen}
use Rattle.instruction_table.specs.declared.line.Seen.TheVariants.{Whole, Begun, NotBytes}
use Rattle.instruction_table.specs.Lines.{Says}
use Rattle.instruction_table.proofs.print_line.Goals as goal

-- what a line says to begin with is spelled by the front of its bytes
spelled_by : (seen : Seen) (bytes : List ℕ) (i : Instr) (len : ℕ) → Says seen bytes (Some (One i len)) → HasSpelling i
spelled_by Whole bytes i len says = record { bytes = take len bytes; spells = ((says.one i len).0 refl).spells }
spelled_by (Begun d) bytes i len says = absurd says
spelled_by NotBytes bytes i len says = absurd says

pub print_instr-requires : goal.print_instr-requires
print_instr-requires g c = record { spelled = spelled_by c.args.line.now.seen c.args.line.now.front c.in-Some-One.instr c.in-Some-One.length (subst (λ (d : Decoded). Says c.args.line.now.seen c.args.line.now.front (Some d)) c.in-Some-One.field-0-is c.in-Some-One.ensures) }
