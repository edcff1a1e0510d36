-- Table jumps and tables that are worked by hand.
use Rattle.std.specs.Prelude.{◌≡◌, ℕ, true, false, List, [], ◌∷◌, ◌++◌, length, map, replicate, Option, Some, None}
use Rattle.image.specs.declared.image.Image.{Image}
use Rattle.image.specs.Rows.{segment_with}
use Rattle.x86_types.specs.declared.operand.Reg.{Reg}
use Rattle.x86_types.specs.declared.operand.Reg.TheVariants.{Eax, Ecx}
use Rattle.x86_types.specs.declared.operand.Address.{Address}
use Rattle.x86_types.specs.declared.operand.Rm.TheVariants as rm
use Rattle.x86_types.specs.declared.operand.Src.TheVariants as src
use Rattle.x86_types.specs.declared.operation.AluOp.TheVariants as alu
use Rattle.x86_types.specs.declared.operation.Cond.TheVariants as cc
use Rattle.x86_types.specs.declared.width.Width.TheVariants.{One, Two, Four}
use Rattle.x86_types.specs.declared.instr.Instr.{Instr}
use Rattle.x86_types.specs.declared.instr.Instr.TheVariants as instr
use Rattle.plan_types.specs.declared.place.Place.{Place}
use Rattle.plan_types.specs.declared.table.Table.{Table}
use Rattle.plan_types.specs.Straight.{place_with}
use Rattle.plan_types.specs.Tables.{constant_word, compared_with, is_above, bound_behind, targets_by, table_jump, table_in}

-- A page that can be run; a page that can be read alone, with four words of which the third leads nowhere; a page that can be written
-- behind it; and two more pages that can be run, with zeros from address 0x8000 on.
unfoldable pub pages : Image
pages = record {
  segments =
      segment_with 0x1000 0x1000 5 (0x78 ∷ 0x56 ∷ 0x34 ∷ 0x12 ∷ []) ∷
      segment_with 0x2000 0x1000 4 (0x00 ∷ 0x10 ∷ 0x00 ∷ 0x00 ∷ 0xFF ∷ 0x1F ∷ 0x00 ∷ 0x00 ∷ 0x00 ∷ 0x20 ∷ 0x00 ∷ 0x00 ∷ 0x04 ∷ 0x10 ∷ 0x00 ∷ 0x00 ∷ []) ∷
      segment_with 0x3000 0x1000 6 (0x00 ∷ 0x10 ∷ 0x00 ∷ 0x00 ∷ []) ∷
      segment_with 0x8000 0x2000 4 [] ∷ [];
  entry = 0x1000;
}

-- zeros that can be run from address 0 on, in two pages: each word leads to a byte that can be run
unfoldable pub zeros_of_code : Image
zeros_of_code = record { segments = segment_with 0 0x2000 5 [] ∷ []; entry = 0 }

-- ---- words
pub record ConstantWords : Type 0 where
  -- the lowest byte first, in a page that can be run and in one that can be read
  pub in_code : constant_word pages 0x1000 ≡ Some 0x12345678
  pub in_data : constant_word pages 0x2004 ≡ Some 0x1FFF
  -- none where a byte of the four can be written
  pub written : constant_word pages 0x3000 ≡ None
  pub last : constant_word pages 0x2FFC ≡ Some 0
  pub fourth_written : constant_word pages 0x2FFD ≡ None
  pub third_written : constant_word pages 0x2FFE ≡ None
  pub second_written : constant_word pages 0x2FFF ≡ None
  -- none where a byte isn't mapped
  pub unmapped : constant_word pages 0x7FFC ≡ None
  pub first_unmapped : constant_word pages 0x7FFF ≡ None
  pub last_mapped : constant_word pages 0x9FFC ≡ Some 0
  pub fourth_unmapped : constant_word pages 0x9FFD ≡ None

-- ---- the jumps
abbrev pub memory_of : Option Reg → Option Reg → ℕ → ℕ → Address
memory_of base index scale disp = record { base = base; index = index; scale = scale; disp = disp }

abbrev pub jump_by : Option Reg → Option Reg → ℕ → ℕ → Instr
jump_by base index scale disp = instr.JmpTo (rm.Mem (memory_of base index scale disp))

pub record TableJumps : Type 0 where
  pub is : table_jump (jump_by None (Some Ecx) 4 0x2000) ≡ Some (Ecx, 0x2000)
  pub scale_one : table_jump (jump_by None (Some Ecx) 1 0x2000) ≡ None
  pub scale_two : table_jump (jump_by None (Some Ecx) 2 0x2000) ≡ None
  pub scale_eight : table_jump (jump_by None (Some Ecx) 8 0x2000) ≡ None
  pub with_base : table_jump (jump_by (Some Eax) (Some Ecx) 4 0x2000) ≡ None
  pub base_alone : table_jump (jump_by (Some Eax) None 4 0x2000) ≡ None
  pub no_index : table_jump (jump_by None None 4 0x2000) ≡ None
  pub register : table_jump (instr.JmpTo (rm.Reg Ecx)) ≡ None
  pub call : table_jump (instr.CallTo (rm.Mem (memory_of None (Some Ecx) 4 0x2000))) ≡ None
  pub direct : table_jump (instr.Jmp 0x2000) ≡ None

-- ---- what bounds a table
-- CMP r32, imm
abbrev pub compares : Reg → ℕ → Instr
compares r n = instr.Alu alu.Cmp Four (rm.Reg r) (src.Imm n)

pub record Comparisons : Type 0 where
  pub is : compared_with Ecx (compares Ecx 3) ≡ Some 3
  pub greatest : compared_with Ecx (compares Ecx 0xFFFFFFFF) ≡ Some 0xFFFFFFFF
  pub other_register : compared_with Ecx (compares Eax 3) ≡ None
  pub two_bytes : compared_with Ecx (instr.Alu alu.Cmp Two (rm.Reg Ecx) (src.Imm 3)) ≡ None
  pub one_byte : compared_with Ecx (instr.Alu alu.Cmp One (rm.Reg Ecx) (src.Imm 3)) ≡ None
  pub difference : compared_with Ecx (instr.Alu alu.Sub Four (rm.Reg Ecx) (src.Imm 3)) ≡ None
  pub with_register : compared_with Ecx (instr.Alu alu.Cmp Four (rm.Reg Ecx) (src.Reg Eax)) ≡ None
  pub with_memory : compared_with Ecx (instr.Alu alu.Cmp Four (rm.Reg Ecx) (src.Mem (memory_of None None 1 3))) ≡ None
  pub of_memory : compared_with Ecx (instr.Alu alu.Cmp Four (rm.Mem (memory_of (Some Ecx) None 1 0)) (src.Imm 3)) ≡ None
  pub test : compared_with Ecx (instr.Test Four (rm.Reg Ecx) (src.Imm 3)) ≡ None
  -- JA alone, of the sixteen conditions
  pub above : map (λ c. is_above (instr.Jcc c 0)) (cc.O ∷ cc.No ∷ cc.B ∷ cc.Ae ∷ cc.E ∷ cc.Ne ∷ cc.Be ∷ cc.A ∷ cc.S ∷ cc.Ns ∷ cc.P ∷ cc.Np ∷ cc.L ∷ cc.Ge ∷ cc.Le ∷ cc.G ∷ [])
      ≡ false ∷ false ∷ false ∷ false ∷ false ∷ false ∷ false ∷ true ∷ false ∷ false ∷ false ∷ false ∷ false ∷ false ∷ false ∷ false ∷ []
  pub no_jump : is_above (instr.Cmov cc.A Four Ecx (rm.Reg Eax)) ≡ false

-- places whose addresses and lengths don't matter
abbrev pub some_places : List Instr → List Place
some_places is = map (λ i. place_with 0x1000 i 2) is

abbrev pub bound_of : List Instr → Option ℕ
bound_of is = bound_behind Ecx false (some_places is)

abbrev pub ja : Instr
ja = instr.Jcc cc.A 0

-- the nearest first
pub record Bounds : Type 0 where
  pub none : bound_of [] ≡ None
  pub is : bound_of (ja ∷ compares Ecx 3 ∷ []) ≡ Some 3
  pub no_ja : bound_of (compares Ecx 3 ∷ []) ≡ None
  pub ja_before : bound_of (compares Ecx 3 ∷ ja ∷ []) ≡ None
  pub other_condition : bound_of (instr.Jcc cc.Ae 0 ∷ compares Ecx 3 ∷ []) ≡ None
  pub between : bound_of (instr.Nop ∷ ja ∷ instr.Nop ∷ compares Ecx 3 ∷ []) ≡ Some 3
  pub nearest : bound_of (ja ∷ compares Ecx 3 ∷ compares Ecx 5 ∷ []) ≡ Some 3
  pub nearest_of_two_ja : bound_of (ja ∷ compares Ecx 3 ∷ ja ∷ compares Ecx 5 ∷ []) ≡ Some 3
  pub nearer_without_ja : bound_of (compares Ecx 5 ∷ ja ∷ compares Ecx 3 ∷ []) ≡ Some 3
  pub other_register : bound_of (ja ∷ compares Eax 5 ∷ compares Ecx 3 ∷ []) ≡ Some 3
  pub ja_alone : bound_of (ja ∷ ja ∷ []) ≡ None

-- ---- how many words
pub record HowMany : Type 0 where
  -- one more than the bound, whatever they lead to
  pub bound_zero : targets_by pages 0x2000 (Some 0) ≡ 0x1000 ∷ []
  pub bound_three : targets_by pages 0x2000 (Some 3) ≡ 0x1000 ∷ 0x1FFF ∷ 0x2000 ∷ 0x1004 ∷ []
  -- without a bound, up to the first that leads to no byte that can be run
  pub no_bound : targets_by pages 0x2000 None ≡ 0x1000 ∷ 0x1FFF ∷ []
  pub no_bound_none : targets_by pages 0x2008 None ≡ []
  -- up to a word that can be written, or isn't mapped, in both cases
  pub to_written : targets_by pages 0x2FF8 (Some 9) ≡ 0 ∷ 0 ∷ []
  pub from_written : targets_by pages 0x3000 None ≡ []
  pub to_unmapped : targets_by pages 0x9FFC (Some 9) ≡ 0 ∷ []
  -- 1,024 at most
  pub up_to_1023 : length (targets_by pages 0x8000 (Some 1022)) ≡ 1023
  pub up_to_1024 : length (targets_by pages 0x8000 (Some 1023)) ≡ 1024
  pub past_1024 : length (targets_by pages 0x8000 (Some 1024)) ≡ 1024
  pub greatest_bound : length (targets_by pages 0x8000 (Some 0xFFFFFFFF)) ≡ 1024
  pub no_bound_1024 : length (targets_by zeros_of_code 0 None) ≡ 1024

-- ---- tables of runs
-- a run of instructions of two bytes that ends in a jump by the table at 0x2000
abbrev pub run_by : List Instr → List Place
run_by is = some_places is ++ place_with 0x1234 (jump_by None (Some Ecx) 4 0x2000) 7 ∷ []

abbrev pub table_by : List ℕ → Option Table
table_by targets = Some (record { jump = 0x1234; start = 0x2000; targets = targets })

pub record TablesOfRuns : Type 0 where
  pub alone : table_in pages (run_by []) ≡ table_by (0x1000 ∷ 0x1FFF ∷ [])
  pub bounded : table_in pages (run_by (compares Ecx 0 ∷ ja ∷ [])) ≡ table_by (0x1000 ∷ [])
  pub past_the_end_of_code : table_in pages (run_by (compares Ecx 2 ∷ ja ∷ [])) ≡ table_by (0x1000 ∷ 0x1FFF ∷ 0x2000 ∷ [])
  pub other_register : table_in pages (run_by (compares Eax 0 ∷ ja ∷ [])) ≡ table_by (0x1000 ∷ 0x1FFF ∷ [])
  pub in_order : table_in pages (run_by (ja ∷ compares Ecx 0 ∷ [])) ≡ table_by (0x1000 ∷ 0x1FFF ∷ [])
  -- the eighth place before the jump counts, the ninth doesn't
  pub eighth : table_in pages (run_by (compares Ecx 0 ∷ replicate 6 instr.Nop ++ ja ∷ [])) ≡ table_by (0x1000 ∷ [])
  pub ninth : table_in pages (run_by (compares Ecx 0 ∷ replicate 7 instr.Nop ++ ja ∷ [])) ≡ table_by (0x1000 ∷ 0x1FFF ∷ [])
  -- a run that doesn't end in a table jump has none
  pub empty : table_in pages [] ≡ None
  pub no_jump : table_in pages (some_places (compares Ecx 0 ∷ ja ∷ [])) ≡ None
  pub jump_within : table_in pages (run_by [] ++ some_places (instr.Nop ∷ [])) ≡ None
