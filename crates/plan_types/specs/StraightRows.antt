-- Straight runs that are worked by hand.
use Rattle.std.specs.Prelude.{◌≡◌, ℕ, ◌==◌, cond, List, [], ◌∷◌, Some, None}
use Rattle.x86_types.specs.declared.operand.Reg.TheVariants as reg
use Rattle.x86_types.specs.declared.operand.Rm.TheVariants as rm
use Rattle.x86_types.specs.declared.operand.Src.TheVariants as src
use Rattle.x86_types.specs.declared.operation.Cond.TheVariants as cc
use Rattle.x86_types.specs.declared.width.Width.TheVariants.{Four}
use Rattle.x86_types.specs.declared.instr.Instr.{Instr}
use Rattle.x86_types.specs.declared.instr.Instr.TheVariants as instr
use Rattle.x86_code.specs.Code.{Code}
use Rattle.plan_types.specs.declared.place.Place.{Place}
use Rattle.plan_types.specs.Straight.{place_with, straight_run}

-- the code of these places
abbrev pub code_with : List Place → Code
code_with [] a = None
code_with (p ∷ places) a = cond (p.at == a) (Some (p.instr, p.len)) (code_with places a)

-- a NOP of one byte, one of three, and some instruction behind them
abbrev pub then_one : Instr → ℕ → List Place
then_one i len = place_with 0x1000 instr.Nop 1 ∷ place_with 0x1001 instr.Nop 3 ∷ place_with 0x1004 i len ∷ []

-- a RET behind an instruction of two bytes
abbrev pub behind : List Place
behind = place_with 0x1006 (instr.Ret 0) 1 ∷ []

-- the run that begins at the first NOP, where a RET stands behind the instruction
abbrev pub run_with : Instr → List Place
run_with i = straight_run (code_with (place_with 0x1000 instr.Nop 1 ∷ place_with 0x1001 instr.Nop 3 ∷ place_with 0x1004 i 2 ∷ behind)) 9 0x1000

-- where the run ends at that instruction, and where it goes on
abbrev pub EndsAt : Instr → Type 0
EndsAt i = run_with i ≡ then_one i 2

abbrev pub GoesPast : Instr → Type 0
GoesPast i = run_with i ≡ place_with 0x1000 instr.Nop 1 ∷ place_with 0x1001 instr.Nop 3 ∷ place_with 0x1004 i 2 ∷ behind

pub record StraightRuns : Type 0 where
  -- JMP of either form and RET end a run (Intel SDM volume 2, "JMP", "RET")
  pub jmp : EndsAt (instr.Jmp 0)
  pub jmp_to_register : EndsAt (instr.JmpTo (rm.Reg reg.Eax))
  pub jmp_to_memory : EndsAt (instr.JmpTo (rm.Mem (record { base = None; index = Some reg.Eax; scale = 4; disp = 0x2000 })))
  pub ret : EndsAt (instr.Ret 0)
  pub ret_with_drop : EndsAt (instr.Ret 8)
  -- CALL of either form, Jcc and INT 80h don't
  pub call : GoesPast (instr.Call 0)
  pub call_to : GoesPast (instr.CallTo (rm.Reg reg.Eax))
  pub jcc : GoesPast (instr.Jcc cc.A 0)
  pub int80 : GoesPast instr.Int80
  pub mov : GoesPast (instr.Mov Four (rm.Reg reg.Eax) (src.Imm 0x1000))
  -- it ends before a place where no instruction stands
  pub none_behind : straight_run (code_with (then_one instr.Nop 1)) 9 0x1000 ≡ then_one instr.Nop 1
  pub none_there : straight_run (code_with (then_one instr.Nop 1)) 9 0x1002 ≡ []
  -- it begins at its address alone, and has at most so many instructions
  pub from_second : straight_run (code_with (then_one (instr.Ret 0) 1)) 9 0x1001 ≡ place_with 0x1001 instr.Nop 3 ∷ place_with 0x1004 (instr.Ret 0) 1 ∷ []
  pub at_most_none : straight_run (code_with (then_one (instr.Ret 0) 1)) 0 0x1000 ≡ []
  pub at_most_two : straight_run (code_with (then_one (instr.Ret 0) 1)) 2 0x1000 ≡ place_with 0x1000 instr.Nop 1 ∷ place_with 0x1001 instr.Nop 3 ∷ []
