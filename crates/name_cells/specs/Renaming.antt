-- Other registers for the fields that hold EAX, ECX and EDX. All of this is own.
use Rattle.x86_types.specs.declared.operand.Reg.{Reg}
use Rattle.x86_types.specs.declared.operand.Reg.TheVariants.{Eax, Ecx, Edx}
use Rattle.x86_types.specs.Registers.{Renaming}
use Rattle.name_cells.specs.declared.renaming.FieldRegisters.{FieldRegisters}

abbrev pub register_of : FieldRegisters → Reg → Reg
register_of regs Eax = regs.first
register_of regs Ecx = regs.second
register_of regs Edx = regs.third
register_of regs r = r

abbrev pub by_registers : FieldRegisters → Renaming
by_registers regs k r = register_of regs r
