-- A small code that can be placed: a block with SETE of name 2.
use Rattle.std.specs.Prelude.{List, [], ◌∷◌}
use Rattle.x86_types.specs.declared.operand.Reg.TheVariants.{Eax}
use Rattle.x86_types.specs.declared.operand.Rm.TheVariants as rm
use Rattle.x86_types.specs.declared.operation.Cond.TheVariants as condition
use Rattle.x86_types.specs.declared.instr.Instr.TheVariants as instr
use Rattle.named_code.specs.declared.slot.Slot.TheVariants.{Name}
use Rattle.named_code.specs.declared.named.VInstr.{VInstr}
use Rattle.named_code.specs.declared.named.VBlock.{VBlock}

abbrev pub small_instr : VInstr
small_instr = record { instr = instr.Setcc condition.E (rm.Reg Eax); slots = Name 2 ∷ [] }

abbrev pub small_code : List VBlock
small_code = record { number = 5; at = 4096; code = small_instr ∷ [] } ∷ []
