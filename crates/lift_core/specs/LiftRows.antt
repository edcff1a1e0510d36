-- Worked rows of lists and ways (Intel SDM volume 2, "INC", "SAL/SAR/SHL/SHR", "XOR", "MOV", "IDIV", "PUSH", "MOVS", "CALL", "Jcc").
use Rattle.std.specs.Prelude.{◌≡◌, ℕ, true, false, List, [], ◌∷◌, Option, Some, None, Result, Ok, Err}
use Rattle.traces.specs.Trace.{End}
use Rattle.x86_values.specs.declared.word.Word.{Word}
use Rattle.x86_values.specs.Words.{word_of}
use Rattle.x86_values.specs.Sizes.{no_word}
use Rattle.x86_types.specs.declared.operand.Reg.TheVariants as register
use Rattle.x86_types.specs.declared.operand.Rm.TheVariants as rm
use Rattle.x86_types.specs.declared.operand.Src.{Src}
use Rattle.x86_types.specs.declared.operand.Src.TheVariants as src
use Rattle.x86_types.specs.declared.operation.AluOp.TheVariants as alu
use Rattle.x86_types.specs.declared.operation.ShiftOp.TheVariants as shiftop
use Rattle.x86_types.specs.declared.operation.Count.TheVariants as count
use Rattle.x86_types.specs.declared.operation.Cond.TheVariants as condition
use Rattle.x86_types.specs.declared.width.Width.TheVariants.{One, Four}
use Rattle.x86_types.specs.declared.instr.Instr.{Instr}
use Rattle.x86_types.specs.declared.instr.Instr.TheVariants as instr
use Rattle.flag_ir.specs.declared.variable.Var.TheVariants as var
use Rattle.flag_ir.specs.declared.operation.Calc.TheVariants as calc
use Rattle.flag_ir.specs.declared.operation.Op.TheVariants as op
use Rattle.flag_ir.specs.Storage.{Storage}
use Rattle.flag_ir.specs.Operations.{performs}
use Rattle.lift_values.specs.Terms.{temp, word, to_temp}
use Rattle.lift_core.specs.declared.way.Way.TheVariants as way
use Rattle.lift_core.specs.Pieces.{reg, to_reg}
use Rattle.lift_core.specs.Lists.{lift_of, way_of}

-- ---- eax, and CF, PF, ZF, SF and OF
abbrev pub EaxAndFlags : Type 0
EaxAndFlags = Option (Word × List Word)

abbrev pub eax_and_flags : Result Storage End → EaxAndFlags
eax_and_flags (Ok v) = Some (v.regs 0, v.flags 0 ∷ v.flags 1 ∷ v.flags 2 ∷ v.flags 3 ∷ v.flags 4 ∷ [])
eax_and_flags (Err e) = None

-- what they are
abbrev pub shows : ℕ → ℕ → ℕ → ℕ → ℕ → ℕ → EaxAndFlags
shows eax cf pf zf sf of = Some (word_of eax, word_of cf ∷ word_of pf ∷ word_of zf ∷ word_of sf ∷ word_of of ∷ [])

-- from a word in each register, and flags that are all the same
abbrev pub from : Word → ℕ → Instr → Storage → EaxAndFlags
from w flag i u = eax_and_flags (performs 0 (lift_of i 0 2) (record u { regs = λ k. w; flags = λ k. word_of flag; temps = λ k. no_word }))

-- eax alone
abbrev pub eax_of : EaxAndFlags → Option Word
eax_of None = None
eax_of (Some p) = Some p.0

abbrev pub esp_and_4 : Src
esp_and_4 = src.Mem (record { base = Some register.Esp; index = None; scale = 1; disp = 4 })

pub record WorkedLists : Type 0 where
  -- 40, and C1 E0 21
  pub inc : (u : Storage) → from (word_of 0xFFFFFFFF) 1 (instr.Inc Four (rm.Reg register.Eax)) u ≡ shows 0 1 1 1 0 0
  pub shl : (u : Storage) → from (word_of 0x80000000) 0 (instr.Shift shiftop.Shl Four (rm.Reg register.Eax) (count.Imm 33)) u ≡ shows 0 1 1 1 0 1
  -- 31 C0, whatever is in eax; and B4 12, AH alone
  pub xor : (u : Storage) → from no_word 1 (instr.Alu alu.Xor Four (rm.Reg register.Eax) (src.Reg register.Eax)) u ≡ shows 0 0 1 1 0 0
  pub mov : (u : Storage) → from (word_of 0x89ABCDEF) 1 (instr.Mov One (rm.Reg register.Esp) (src.Imm 0x12)) u ≡ shows 0x89AB12EF 1 1 1 1 1
  -- F6 F9, 7 by 7: the quotient 1 goes to AL and the remainder 0 to AH
  pub idiv : (u : Storage) → eax_of (from (word_of 7) 1 (instr.Idiv One (rm.Reg register.Ecx)) u) ≡ Some (word_of 1)
  -- FF 74 24 04: the word is loaded before esp falls
  pub push : lift_of (instr.Push esp_and_4) 0x08049000 4 ≡ to_temp 4 calc.Add (reg 4) (word 4) ∷ op.Load (var.Temp 4) 4 (temp 4) ∷ to_reg 4 calc.Sub (reg 4) (word 4) ∷ op.Store 4 (reg 4) (temp 4) ∷ []
  -- A4: the byte is loaded before one is stored
  pub movs : lift_of (instr.Movs One false) 0x08049000 1 ≡ op.Load (var.Temp 4) 1 (reg 6) ∷ op.Store 1 (reg 7) (temp 4) ∷ to_reg 6 calc.Add (reg 6) (word 1) ∷ to_reg 7 calc.Add (reg 7) (word 1) ∷ []
  -- E8 with any distance, at 08049000: the next address is pushed
  pub call : (by : ℕ) → lift_of (instr.Call by) 0x08049000 5 ≡ to_reg 4 calc.Sub (reg 4) (word 4) ∷ op.Store 4 (reg 4) (word 0x08049005) ∷ []

pub record WorkedWays : Type 0 where
  -- 75 FD
  pub jump : way_of (instr.Jcc condition.Ne 0xFFFFFFFD) 0x08049006 2 ≡ way.Either (temp 4) 0x08049005 0x08049008
  -- EB FE at the last two addresses: the next address wraps
  pub wraps : way_of (instr.Jmp 0xFFFFFFFE) 0xFFFFFFFE 2 ≡ way.On 0xFFFFFFFE
  -- F3 A4 goes to its own address after each iteration
  pub repeat : way_of (instr.Movs One true) 0x08049000 2 ≡ way.Repeat (reg 1) (word 1) 0x08049000 0x08049002
  -- C3, and FF E0
  pub ret : way_of (instr.Ret 0) 0x08049000 1 ≡ way.Back (temp 4)
  pub jump_to : way_of (instr.JmpTo (rm.Reg register.Eax)) 0x08049000 2 ≡ way.To (temp 4)
