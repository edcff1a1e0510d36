-- Written by tools/rows.py.
-- The map gives each row at its opcode.
use Rattle.std.proofs.Common.{◌≡◌, ℕ, Some, true, false, refl}
use Rattle.std.proofs.lemmas.Bool.{eqb-true, false≢true}
use Rattle.x86_types.specs.declared.operand.Reg.TheVariants as reg
use Rattle.x86_types.specs.declared.operation.AluOp.TheVariants as alu
use Rattle.x86_types.specs.declared.operation.ShiftOp.TheVariants as shift
use Rattle.x86_types.specs.declared.operation.Cond.TheVariants as cond
use Rattle.x86_grammar.specs.declared.row.Row.{Row}
use Rattle.x86_grammar.specs.declared.row.Row.TheVariants as row
use Rattle.x86_grammar.specs.Table.{entry_of, row_at}
use Rattle.x86_grammar.specs.Rows.{opcode_of, reg_field_of, fits_reg_field}

pub row_again : (r : Row) (n : ℕ) → fits_reg_field (reg_field_of r) n ≡ true → row_at (opcode_of r) n ≡ Some r
unfolding entry_of
row_again (row.AluToRm alu.Add false) n h = refl
row_again (row.AluToRm alu.Add true) n h = refl
row_again (row.AluToRm alu.Or false) n h = refl
row_again (row.AluToRm alu.Or true) n h = refl
row_again (row.AluToRm alu.Adc false) n h = refl
row_again (row.AluToRm alu.Adc true) n h = refl
row_again (row.AluToRm alu.Sbb false) n h = refl
row_again (row.AluToRm alu.Sbb true) n h = refl
row_again (row.AluToRm alu.And false) n h = refl
row_again (row.AluToRm alu.And true) n h = refl
row_again (row.AluToRm alu.Sub false) n h = refl
row_again (row.AluToRm alu.Sub true) n h = refl
row_again (row.AluToRm alu.Xor false) n h = refl
row_again (row.AluToRm alu.Xor true) n h = refl
row_again (row.AluToRm alu.Cmp false) n h = refl
row_again (row.AluToRm alu.Cmp true) n h = refl
row_again (row.AluToReg alu.Add false) n h = refl
row_again (row.AluToReg alu.Add true) n h = refl
row_again (row.AluToReg alu.Or false) n h = refl
row_again (row.AluToReg alu.Or true) n h = refl
row_again (row.AluToReg alu.Adc false) n h = refl
row_again (row.AluToReg alu.Adc true) n h = refl
row_again (row.AluToReg alu.Sbb false) n h = refl
row_again (row.AluToReg alu.Sbb true) n h = refl
row_again (row.AluToReg alu.And false) n h = refl
row_again (row.AluToReg alu.And true) n h = refl
row_again (row.AluToReg alu.Sub false) n h = refl
row_again (row.AluToReg alu.Sub true) n h = refl
row_again (row.AluToReg alu.Xor false) n h = refl
row_again (row.AluToReg alu.Xor true) n h = refl
row_again (row.AluToReg alu.Cmp false) n h = refl
row_again (row.AluToReg alu.Cmp true) n h = refl
row_again (row.AluAcc alu.Add false) n h = refl
row_again (row.AluAcc alu.Add true) n h = refl
row_again (row.AluAcc alu.Or false) n h = refl
row_again (row.AluAcc alu.Or true) n h = refl
row_again (row.AluAcc alu.Adc false) n h = refl
row_again (row.AluAcc alu.Adc true) n h = refl
row_again (row.AluAcc alu.Sbb false) n h = refl
row_again (row.AluAcc alu.Sbb true) n h = refl
row_again (row.AluAcc alu.And false) n h = refl
row_again (row.AluAcc alu.And true) n h = refl
row_again (row.AluAcc alu.Sub false) n h = refl
row_again (row.AluAcc alu.Sub true) n h = refl
row_again (row.AluAcc alu.Xor false) n h = refl
row_again (row.AluAcc alu.Xor true) n h = refl
row_again (row.AluAcc alu.Cmp false) n h = refl
row_again (row.AluAcc alu.Cmp true) n h = refl
row_again (row.IncReg reg.Eax) n h = refl
row_again (row.IncReg reg.Ecx) n h = refl
row_again (row.IncReg reg.Edx) n h = refl
row_again (row.IncReg reg.Ebx) n h = refl
row_again (row.IncReg reg.Esp) n h = refl
row_again (row.IncReg reg.Ebp) n h = refl
row_again (row.IncReg reg.Esi) n h = refl
row_again (row.IncReg reg.Edi) n h = refl
row_again (row.DecReg reg.Eax) n h = refl
row_again (row.DecReg reg.Ecx) n h = refl
row_again (row.DecReg reg.Edx) n h = refl
row_again (row.DecReg reg.Ebx) n h = refl
row_again (row.DecReg reg.Esp) n h = refl
row_again (row.DecReg reg.Ebp) n h = refl
row_again (row.DecReg reg.Esi) n h = refl
row_again (row.DecReg reg.Edi) n h = refl
row_again (row.PushReg reg.Eax) n h = refl
row_again (row.PushReg reg.Ecx) n h = refl
row_again (row.PushReg reg.Edx) n h = refl
row_again (row.PushReg reg.Ebx) n h = refl
row_again (row.PushReg reg.Esp) n h = refl
row_again (row.PushReg reg.Ebp) n h = refl
row_again (row.PushReg reg.Esi) n h = refl
row_again (row.PushReg reg.Edi) n h = refl
row_again (row.PopReg reg.Eax) n h = refl
row_again (row.PopReg reg.Ecx) n h = refl
row_again (row.PopReg reg.Edx) n h = refl
row_again (row.PopReg reg.Ebx) n h = refl
row_again (row.PopReg reg.Esp) n h = refl
row_again (row.PopReg reg.Ebp) n h = refl
row_again (row.PopReg reg.Esi) n h = refl
row_again (row.PopReg reg.Edi) n h = refl
row_again row.PushWord n h = refl
row_again row.ImulWord n h = refl
row_again row.PushByte n h = refl
row_again row.ImulByte n h = refl
row_again (row.JccShort cond.O) n h = refl
row_again (row.JccShort cond.No) n h = refl
row_again (row.JccShort cond.B) n h = refl
row_again (row.JccShort cond.Ae) n h = refl
row_again (row.JccShort cond.E) n h = refl
row_again (row.JccShort cond.Ne) n h = refl
row_again (row.JccShort cond.Be) n h = refl
row_again (row.JccShort cond.A) n h = refl
row_again (row.JccShort cond.S) n h = refl
row_again (row.JccShort cond.Ns) n h = refl
row_again (row.JccShort cond.P) n h = refl
row_again (row.JccShort cond.Np) n h = refl
row_again (row.JccShort cond.L) n h = refl
row_again (row.JccShort cond.Ge) n h = refl
row_again (row.JccShort cond.Le) n h = refl
row_again (row.JccShort cond.G) n h = refl
row_again (row.AluImm false) n h = refl
row_again (row.AluImm true) n h = refl
row_again row.AluByte n h = refl
row_again (row.TestRm false) n h = refl
row_again (row.TestRm true) n h = refl
row_again (row.Xchg false) n h = refl
row_again (row.Xchg true) n h = refl
row_again (row.MovToRm false) n h = refl
row_again (row.MovToRm true) n h = refl
row_again (row.MovToReg false) n h = refl
row_again (row.MovToReg true) n h = refl
row_again row.Lea n h = refl
row_again row.Pop n h = let e = eqb-true _ _ h in rw (← e) refl
row_again (row.XchgAcc reg.Eax) n h = absurd (false≢true h)
row_again (row.XchgAcc reg.Ecx) n h = refl
row_again (row.XchgAcc reg.Edx) n h = refl
row_again (row.XchgAcc reg.Ebx) n h = refl
row_again (row.XchgAcc reg.Esp) n h = refl
row_again (row.XchgAcc reg.Ebp) n h = refl
row_again (row.XchgAcc reg.Esi) n h = refl
row_again (row.XchgAcc reg.Edi) n h = refl
row_again row.Nop n h = refl
row_again row.Extend n h = refl
row_again row.Spread n h = refl
row_again (row.MovLoad false) n h = refl
row_again (row.MovLoad true) n h = refl
row_again (row.MovStore false) n h = refl
row_again (row.MovStore true) n h = refl
row_again (row.Movs false) n h = refl
row_again (row.Movs true) n h = refl
row_again (row.TestAcc false) n h = refl
row_again (row.TestAcc true) n h = refl
row_again (row.Stos false) n h = refl
row_again (row.Stos true) n h = refl
row_again (row.MovReg reg.Eax false) n h = refl
row_again (row.MovReg reg.Eax true) n h = refl
row_again (row.MovReg reg.Ecx false) n h = refl
row_again (row.MovReg reg.Ecx true) n h = refl
row_again (row.MovReg reg.Edx false) n h = refl
row_again (row.MovReg reg.Edx true) n h = refl
row_again (row.MovReg reg.Ebx false) n h = refl
row_again (row.MovReg reg.Ebx true) n h = refl
row_again (row.MovReg reg.Esp false) n h = refl
row_again (row.MovReg reg.Esp true) n h = refl
row_again (row.MovReg reg.Ebp false) n h = refl
row_again (row.MovReg reg.Ebp true) n h = refl
row_again (row.MovReg reg.Esi false) n h = refl
row_again (row.MovReg reg.Esi true) n h = refl
row_again (row.MovReg reg.Edi false) n h = refl
row_again (row.MovReg reg.Edi true) n h = refl
row_again (row.ShiftImm shift.Rol false) n h = let e = eqb-true _ _ h in rw (← e) refl
row_again (row.ShiftImm shift.Rol true) n h = let e = eqb-true _ _ h in rw (← e) refl
row_again (row.ShiftImm shift.Ror false) n h = let e = eqb-true _ _ h in rw (← e) refl
row_again (row.ShiftImm shift.Ror true) n h = let e = eqb-true _ _ h in rw (← e) refl
row_again (row.ShiftImm shift.Shl false) n h = let e = eqb-true _ _ h in rw (← e) refl
row_again (row.ShiftImm shift.Shl true) n h = let e = eqb-true _ _ h in rw (← e) refl
row_again (row.ShiftImm shift.Shr false) n h = let e = eqb-true _ _ h in rw (← e) refl
row_again (row.ShiftImm shift.Shr true) n h = let e = eqb-true _ _ h in rw (← e) refl
row_again (row.ShiftImm shift.Sar false) n h = let e = eqb-true _ _ h in rw (← e) refl
row_again (row.ShiftImm shift.Sar true) n h = let e = eqb-true _ _ h in rw (← e) refl
row_again row.RetDrop n h = refl
row_again row.Ret n h = refl
row_again (row.MovImm false) n h = let e = eqb-true _ _ h in rw (← e) refl
row_again (row.MovImm true) n h = let e = eqb-true _ _ h in rw (← e) refl
row_again row.Leave n h = refl
row_again row.Int80 n h = refl
row_again (row.ShiftOne shift.Rol false) n h = let e = eqb-true _ _ h in rw (← e) refl
row_again (row.ShiftOne shift.Rol true) n h = let e = eqb-true _ _ h in rw (← e) refl
row_again (row.ShiftOne shift.Ror false) n h = let e = eqb-true _ _ h in rw (← e) refl
row_again (row.ShiftOne shift.Ror true) n h = let e = eqb-true _ _ h in rw (← e) refl
row_again (row.ShiftOne shift.Shl false) n h = let e = eqb-true _ _ h in rw (← e) refl
row_again (row.ShiftOne shift.Shl true) n h = let e = eqb-true _ _ h in rw (← e) refl
row_again (row.ShiftOne shift.Shr false) n h = let e = eqb-true _ _ h in rw (← e) refl
row_again (row.ShiftOne shift.Shr true) n h = let e = eqb-true _ _ h in rw (← e) refl
row_again (row.ShiftOne shift.Sar false) n h = let e = eqb-true _ _ h in rw (← e) refl
row_again (row.ShiftOne shift.Sar true) n h = let e = eqb-true _ _ h in rw (← e) refl
row_again (row.ShiftCl shift.Rol false) n h = let e = eqb-true _ _ h in rw (← e) refl
row_again (row.ShiftCl shift.Rol true) n h = let e = eqb-true _ _ h in rw (← e) refl
row_again (row.ShiftCl shift.Ror false) n h = let e = eqb-true _ _ h in rw (← e) refl
row_again (row.ShiftCl shift.Ror true) n h = let e = eqb-true _ _ h in rw (← e) refl
row_again (row.ShiftCl shift.Shl false) n h = let e = eqb-true _ _ h in rw (← e) refl
row_again (row.ShiftCl shift.Shl true) n h = let e = eqb-true _ _ h in rw (← e) refl
row_again (row.ShiftCl shift.Shr false) n h = let e = eqb-true _ _ h in rw (← e) refl
row_again (row.ShiftCl shift.Shr true) n h = let e = eqb-true _ _ h in rw (← e) refl
row_again (row.ShiftCl shift.Sar false) n h = let e = eqb-true _ _ h in rw (← e) refl
row_again (row.ShiftCl shift.Sar true) n h = let e = eqb-true _ _ h in rw (← e) refl
row_again row.CallNear n h = refl
row_again row.JmpNear n h = refl
row_again row.JmpShort n h = refl
row_again (row.TestImm false) n h = let e = eqb-true _ _ h in rw (← e) refl
row_again (row.TestImm true) n h = let e = eqb-true _ _ h in rw (← e) refl
row_again (row.Not false) n h = let e = eqb-true _ _ h in rw (← e) refl
row_again (row.Not true) n h = let e = eqb-true _ _ h in rw (← e) refl
row_again (row.Neg false) n h = let e = eqb-true _ _ h in rw (← e) refl
row_again (row.Neg true) n h = let e = eqb-true _ _ h in rw (← e) refl
row_again (row.Mul false) n h = let e = eqb-true _ _ h in rw (← e) refl
row_again (row.Mul true) n h = let e = eqb-true _ _ h in rw (← e) refl
row_again (row.ImulWide false) n h = let e = eqb-true _ _ h in rw (← e) refl
row_again (row.ImulWide true) n h = let e = eqb-true _ _ h in rw (← e) refl
row_again (row.Div false) n h = let e = eqb-true _ _ h in rw (← e) refl
row_again (row.Div true) n h = let e = eqb-true _ _ h in rw (← e) refl
row_again (row.Idiv false) n h = let e = eqb-true _ _ h in rw (← e) refl
row_again (row.Idiv true) n h = let e = eqb-true _ _ h in rw (← e) refl
row_again row.Cld n h = refl
row_again (row.Inc false) n h = let e = eqb-true _ _ h in rw (← e) refl
row_again (row.Inc true) n h = let e = eqb-true _ _ h in rw (← e) refl
row_again (row.Dec false) n h = let e = eqb-true _ _ h in rw (← e) refl
row_again (row.Dec true) n h = let e = eqb-true _ _ h in rw (← e) refl
row_again row.CallTo n h = let e = eqb-true _ _ h in rw (← e) refl
row_again row.JmpTo n h = let e = eqb-true _ _ h in rw (← e) refl
row_again row.Push n h = let e = eqb-true _ _ h in rw (← e) refl
row_again row.NopEnd n h = refl
row_again row.NopLong n h = let e = eqb-true _ _ h in rw (← e) refl
row_again (row.Cmov cond.O) n h = refl
row_again (row.Cmov cond.No) n h = refl
row_again (row.Cmov cond.B) n h = refl
row_again (row.Cmov cond.Ae) n h = refl
row_again (row.Cmov cond.E) n h = refl
row_again (row.Cmov cond.Ne) n h = refl
row_again (row.Cmov cond.Be) n h = refl
row_again (row.Cmov cond.A) n h = refl
row_again (row.Cmov cond.S) n h = refl
row_again (row.Cmov cond.Ns) n h = refl
row_again (row.Cmov cond.P) n h = refl
row_again (row.Cmov cond.Np) n h = refl
row_again (row.Cmov cond.L) n h = refl
row_again (row.Cmov cond.Ge) n h = refl
row_again (row.Cmov cond.Le) n h = refl
row_again (row.Cmov cond.G) n h = refl
row_again (row.JccNear cond.O) n h = refl
row_again (row.JccNear cond.No) n h = refl
row_again (row.JccNear cond.B) n h = refl
row_again (row.JccNear cond.Ae) n h = refl
row_again (row.JccNear cond.E) n h = refl
row_again (row.JccNear cond.Ne) n h = refl
row_again (row.JccNear cond.Be) n h = refl
row_again (row.JccNear cond.A) n h = refl
row_again (row.JccNear cond.S) n h = refl
row_again (row.JccNear cond.Ns) n h = refl
row_again (row.JccNear cond.P) n h = refl
row_again (row.JccNear cond.Np) n h = refl
row_again (row.JccNear cond.L) n h = refl
row_again (row.JccNear cond.Ge) n h = refl
row_again (row.JccNear cond.Le) n h = refl
row_again (row.JccNear cond.G) n h = refl
row_again (row.Setcc cond.O) n h = let e = eqb-true _ _ h in rw (← e) refl
row_again (row.Setcc cond.No) n h = let e = eqb-true _ _ h in rw (← e) refl
row_again (row.Setcc cond.B) n h = let e = eqb-true _ _ h in rw (← e) refl
row_again (row.Setcc cond.Ae) n h = let e = eqb-true _ _ h in rw (← e) refl
row_again (row.Setcc cond.E) n h = let e = eqb-true _ _ h in rw (← e) refl
row_again (row.Setcc cond.Ne) n h = let e = eqb-true _ _ h in rw (← e) refl
row_again (row.Setcc cond.Be) n h = let e = eqb-true _ _ h in rw (← e) refl
row_again (row.Setcc cond.A) n h = let e = eqb-true _ _ h in rw (← e) refl
row_again (row.Setcc cond.S) n h = let e = eqb-true _ _ h in rw (← e) refl
row_again (row.Setcc cond.Ns) n h = let e = eqb-true _ _ h in rw (← e) refl
row_again (row.Setcc cond.P) n h = let e = eqb-true _ _ h in rw (← e) refl
row_again (row.Setcc cond.Np) n h = let e = eqb-true _ _ h in rw (← e) refl
row_again (row.Setcc cond.L) n h = let e = eqb-true _ _ h in rw (← e) refl
row_again (row.Setcc cond.Ge) n h = let e = eqb-true _ _ h in rw (← e) refl
row_again (row.Setcc cond.Le) n h = let e = eqb-true _ _ h in rw (← e) refl
row_again (row.Setcc cond.G) n h = let e = eqb-true _ _ h in rw (← e) refl
row_again row.ShldImm n h = refl
row_again row.ShldCl n h = refl
row_again row.ShrdImm n h = refl
row_again row.ShrdCl n h = refl
row_again row.Imul n h = refl
row_again row.MovzxByte n h = refl
row_again row.MovzxWord n h = refl
row_again row.Bsf n h = refl
row_again row.Bsr n h = refl
row_again row.MovsxByte n h = refl
row_again row.MovsxWord n h = refl
row_again (row.BswapReg reg.Eax) n h = refl
row_again (row.BswapReg reg.Ecx) n h = refl
row_again (row.BswapReg reg.Edx) n h = refl
row_again (row.BswapReg reg.Ebx) n h = refl
row_again (row.BswapReg reg.Esp) n h = refl
row_again (row.BswapReg reg.Ebp) n h = refl
row_again (row.BswapReg reg.Esi) n h = refl
row_again (row.BswapReg reg.Edi) n h = refl
