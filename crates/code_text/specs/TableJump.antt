-- The instructions of laid code that are none of the placed code's. All of this is own.
use Rattle.std.specs.Prelude.{ℕ, Some, None}
use Rattle.x86_types.specs.declared.operand.Reg.TheVariants.{Eax, Esp}
use Rattle.x86_types.specs.declared.operand.Rm.{Rm}
use Rattle.x86_types.specs.declared.operand.Rm.TheVariants as rm
use Rattle.x86_types.specs.declared.operand.Src.TheVariants as src
use Rattle.x86_types.specs.declared.operation.AluOp.TheVariants as alu
use Rattle.x86_types.specs.declared.width.Width.TheVariants.{Four}
use Rattle.x86_types.specs.declared.instr.Instr.{Instr}
use Rattle.x86_types.specs.declared.instr.Instr.TheVariants as instr
use Rattle.laid_code.specs.Laid.{eax, as_source}
use Rattle.code_text.specs.KeptPlaces.{table_start}

-- ---- a jump to an old address, without the jump to the stop
abbrev pub take_address : Rm → Instr
take_address to = instr.Mov Four eax (as_source to)

abbrev pub less_span : ℕ → Instr
less_span span = instr.Alu alu.Sub Four eax (src.Imm span)

abbrev pub compare_count : ℕ → Instr
compare_count count = instr.Alu alu.Cmp Four eax (src.Imm count)

abbrev pub look_up : Instr
look_up = instr.Mov Four eax (src.Mem (record { base = None; index = Some Eax; scale = 4; disp = table_start }))

abbrev pub enter : Instr
enter = instr.JmpTo eax

-- ---- the beginning
abbrev pub clear_esp : Instr
clear_esp = instr.Mov Four (rm.Reg Esp) (src.Imm 0)
