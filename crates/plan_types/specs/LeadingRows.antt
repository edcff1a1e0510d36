-- Where instructions lead, worked by hand.
use Rattle.std.specs.Prelude.{◌≡◌, ℕ, List, [], ◌∷◌, Some, None}
use Rattle.image.specs.declared.image.Image.{Image}
use Rattle.image.specs.Rows.{segment_with}
use Rattle.x86_types.specs.declared.operand.Reg.TheVariants.{Eax, Ecx}
use Rattle.x86_types.specs.declared.operand.Rm.TheVariants as rm
use Rattle.x86_types.specs.declared.operand.Src.TheVariants as src
use Rattle.x86_types.specs.declared.operation.AluOp.TheVariants as alu
use Rattle.x86_types.specs.declared.operation.Cond.TheVariants as cc
use Rattle.x86_types.specs.declared.width.Width.TheVariants.{One, Two, Four}
use Rattle.x86_types.specs.declared.instr.Instr.{Instr}
use Rattle.x86_types.specs.declared.instr.Instr.TheVariants as instr
use Rattle.plan_types.specs.Contents.{FoundContents}
use Rattle.plan_types.specs.Straight.{place_with}
use Rattle.plan_types.specs.Leading.{leaders_of, procedures_of}
use Rattle.plan_types.specs.Body.{successors_of}
use Rattle.plan_types.specs.TableRows.{memory_of, jump_by}

-- the next instruction and the target count from the end of the instruction, modulo 2^32 (Intel SDM volume 2, "JMP", "Jcc", "CALL")
pub record Leaders : Type 0 where
  pub jmp : leaders_of (place_with 0x1000 (instr.Jmp 0x10) 5) ≡ 0x1015 ∷ []
  pub jmp_back : leaders_of (place_with 0x1000 (instr.Jmp 0xFFFFFFFE) 2) ≡ 0x1000 ∷ []
  pub jmp_to_zero : leaders_of (place_with 0x10 (instr.Jmp 0xFFFFFFEE) 2) ≡ 0 ∷ []
  pub jmp_to_the_last : leaders_of (place_with 0x10 (instr.Jmp 0xFFFFFFED) 2) ≡ 0xFFFFFFFF ∷ []
  pub jcc : leaders_of (place_with 0x1000 (instr.Jcc cc.E 0x10) 6) ≡ 0x1016 ∷ []
  pub call : leaders_of (place_with 0x1000 (instr.Call 0x10) 5) ≡ 0x1005 ∷ []
  pub call_to_register : leaders_of (place_with 0x1000 (instr.CallTo (rm.Reg Eax)) 2) ≡ 0x1002 ∷ []
  pub call_to_memory : leaders_of (place_with 0x1000 (instr.CallTo (rm.Mem (memory_of None (Some Ecx) 4 0x2000))) 7) ≡ 0x1007 ∷ []
  pub jmp_to : leaders_of (place_with 0x1000 (jump_by None (Some Ecx) 4 0x2000) 7) ≡ []
  pub ret : leaders_of (place_with 0x1000 (instr.Ret 0) 1) ≡ []
  pub int80 : leaders_of (place_with 0x1000 instr.Int80 2) ≡ []
  pub mov : leaders_of (place_with 0x1000 (instr.Mov Four (rm.Reg Eax) (src.Imm 0x1000)) 5) ≡ []

-- a page that can be run, and one that can be written behind it
unfoldable pub code_then_data : Image
code_then_data = record { segments = segment_with 0x1000 0x1000 5 [] ∷ segment_with 0x2000 0x1000 6 [] ∷ []; entry = 0x1000 }

abbrev pub names : Instr → List ℕ
names i = procedures_of code_then_data (place_with 0x1000 i 5)

pub record Procedures : Type 0 where
  -- the target of CALL by a displacement, wherever it leads
  pub call : names (instr.Call 0x10) ≡ 0x1015 ∷ []
  pub call_far : names (instr.Call 0x5000) ≡ 0x6005 ∷ []
  pub call_back : names (instr.Call 0xFFFFEFFB) ≡ 0 ∷ []
  pub call_to : names (instr.CallTo (rm.Reg Eax)) ≡ []
  pub jmp : names (instr.Jmp 0x10) ≡ []
  pub jcc : names (instr.Jcc cc.E 0x10) ≡ []
  -- the constant of MOV of four bytes, to a register or to memory
  pub mov : names (instr.Mov Four (rm.Reg Eax) (src.Imm 0x1FFF)) ≡ 0x1FFF ∷ []
  pub mov_to_memory : names (instr.Mov Four (rm.Mem (memory_of None None 1 0x2000)) (src.Imm 0x1000)) ≡ 0x1000 ∷ []
  pub mov_data : names (instr.Mov Four (rm.Reg Eax) (src.Imm 0x2000)) ≡ []
  pub mov_unmapped : names (instr.Mov Four (rm.Reg Eax) (src.Imm 0xFFF)) ≡ []
  pub mov_two : names (instr.Mov Two (rm.Reg Eax) (src.Imm 0x1000)) ≡ []
  pub mov_one : names (instr.Mov One (rm.Reg Eax) (src.Imm 0x10)) ≡ []
  pub mov_register : names (instr.Mov Four (rm.Reg Eax) (src.Reg Ecx)) ≡ []
  pub mov_from_memory : names (instr.Mov Four (rm.Reg Eax) (src.Mem (memory_of None None 1 0x1000))) ≡ []
  -- of PUSH
  pub push : names (instr.Push (src.Imm 0x1800)) ≡ 0x1800 ∷ []
  pub push_data : names (instr.Push (src.Imm 0x2000)) ≡ []
  pub push_register : names (instr.Push (src.Reg Eax)) ≡ []
  pub push_memory : names (instr.Push (src.Mem (memory_of None None 1 0x1000))) ≡ []
  -- of LEA without registers, at either width
  pub lea : names (instr.Lea Four Eax (memory_of None None 1 0x1004)) ≡ 0x1004 ∷ []
  pub lea_two : names (instr.Lea Two Eax (memory_of None None 1 0x1004)) ≡ 0x1004 ∷ []
  pub lea_data : names (instr.Lea Four Eax (memory_of None None 1 0x2004)) ≡ []
  pub lea_base : names (instr.Lea Four Eax (memory_of (Some Ecx) None 1 0x1004)) ≡ []
  pub lea_index : names (instr.Lea Four Eax (memory_of None (Some Ecx) 4 0x1004)) ≡ []
  pub lea_both : names (instr.Lea Four Eax (memory_of (Some Ecx) (Some Ecx) 4 0x1004)) ≡ []
  -- of no other instruction
  pub add : names (instr.Alu alu.Add Four (rm.Reg Eax) (src.Imm 0x1000)) ≡ []
  pub cmp : names (instr.Alu alu.Cmp Four (rm.Reg Eax) (src.Imm 0x1000)) ≡ []
  pub ret : names (instr.Ret 0x1000) ≡ []

-- found code with two tables, of the jumps at 0x1010 and 0x1020
abbrev pub two_tables : FoundContents
two_tables = record {
  code = [];
  procs = [];
  tables = record { jump = 0x1010; start = 0x2000; targets = 0x1004 ∷ 0x1000 ∷ 0x1004 ∷ [] } ∷ record { jump = 0x1020; start = 0x2100; targets = 0x1008 ∷ [] } ∷ [];
}

abbrev pub goes_to : ℕ → Instr → ℕ → List ℕ
goes_to at i len = successors_of two_tables (place_with at i len)

pub record Successors : Type 0 where
  pub jmp : goes_to 0x1000 (instr.Jmp 0x10) 5 ≡ 0x1015 ∷ []
  pub jcc : goes_to 0x1000 (instr.Jcc cc.A 0xFFFFFFF0) 2 ≡ 0x1002 ∷ 0xFF2 ∷ []
  pub by_first_table : goes_to 0x1010 (jump_by None (Some Ecx) 4 0x2000) 7 ≡ 0x1004 ∷ 0x1000 ∷ 0x1004 ∷ []
  pub by_second_table : goes_to 0x1020 (jump_by None (Some Ecx) 4 0x2100) 7 ≡ 0x1008 ∷ []
  pub by_no_table : goes_to 0x1011 (jump_by None (Some Ecx) 4 0x2000) 7 ≡ []
  pub by_register : goes_to 0x1000 (instr.JmpTo (rm.Reg Eax)) 2 ≡ []
  pub ret : goes_to 0x1000 (instr.Ret 0) 1 ≡ []
  pub ret_with_drop : goes_to 0x1000 (instr.Ret 4) 3 ≡ []
  pub call : goes_to 0x1000 (instr.Call 0x10) 5 ≡ 0x1005 ∷ []
  pub call_to : goes_to 0x1000 (instr.CallTo (rm.Reg Eax)) 2 ≡ 0x1002 ∷ []
  pub int80 : goes_to 0x1000 instr.Int80 2 ≡ 0x1002 ∷ []
  pub nop : goes_to 0x1000 instr.Nop 9 ≡ 0x1009 ∷ []
